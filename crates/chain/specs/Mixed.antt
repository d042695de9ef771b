-- A tally handed in over the lists of a book that is not its own (01, Numbers the box can say no with, 11): it is told by the interval number in the figures.
use Rattle.std.specs.Prelude.{◌≡◌, true, false, List, ℕ, ◌+◌}
use Rattle.rules.specs.declared.Refusal.TheVariants.{WrongState}
use Rattle.rules.specs.Refusals.{refused}
use Rattle.interval.specs.declared.Tally.{Tally}
use Rattle.interval.specs.Tally.{units_taken}
use Rattle.interval.specs.Lent.{Lent, of_interval}
use Rattle.interval.specs.Calls.{unit_long, unit_reply}
use Rattle.kept.specs.Range.{kept_fine}

-- the lists are seen to be another book's where unit, answer and member look at the figures. So a unit is refused with 11 wherever the lists are long enough
-- for one more, and what an answer reads is out of range
pub record Told (t : Tally) (l : Lent) : Type 0 where
  pub figures : of_interval t.interval l.figures ≡ false
  pub unit : (p : List ℕ) → unit_long (units_taken t + 1) l ≡ true → unit_reply t p l ≡ refused WrongState
  pub answer : kept_fine t l ≡ false
