-- What is tested before an answer is worked out.
use Rattle.std.specs.Prelude.{Bool, false, ◌&&◌, List, ℕ}
use Rattle.rules.specs.declared.Refusal.TheVariants.{WrongState, TooShort}
use Rattle.rules.specs.Refusals.{Reply, unless}
use Rattle.rules.specs.Book.{Requirement}
use Rattle.rules.specs.RequirementRecord.{requirement_record}
use Rattle.interval.specs.declared.Tally.{Tally}
use Rattle.interval.specs.Tally.{in_range, answer_turn}
use Rattle.interval.specs.Lent.{Lent, regions_long, rows_long}
use Rattle.kept.specs.Range.{kept_fine}

-- the reply of the promise, by whether the columns are long enough
unfoldable pub tested_requirement : Tally → List ℕ → Lent → Bool → Reply Requirement
tested_requirement t part l long =
    unless (in_range t && answer_turn t) WrongState
    (unless ((regions_long l && rows_long t.units l) && long) TooShort
    (unless (kept_fine t l) WrongState
    (requirement_record 0 false part)))
