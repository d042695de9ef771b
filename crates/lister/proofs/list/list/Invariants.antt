-- The turns left fall; the listing comes from the cursor on as far as lines have room, unless a test refuses it at once.
use mathlib.Core.Path.{◌≡◌}
use mathlib.Core.List.{List}
use Prim.Native.Nat.{ℕ}
use lib.IntN.{ℤ}
use lib.ListN.{length}
use Rattle.interval.specs.declared.Tally.{Tally}
use Rattle.interval.specs.Lent.{Lent}
use Rattle.answer.specs.Promises.{Columns, columns}
use Rattle.lister.specs.declared.Cursor.{Cursor}
use Rattle.lister.specs.declared.Halt.{Halt}
use Rattle.lister.specs.Steps.{lent_listing, turns_left}
use Rattle.lister.proofs.ListLaws.{SoFar}
use Rattle.lister.proofs.list.list.Given as goal

-- the columns stay as long as they were, and the listing has come so far
pub record Coming
    (t : Tally) (bytes : List ℕ) (measures sums figures : List ℤ) (numbers homes : List ℕ) (rows : List ℤ) (first : Cursor) (c : Columns) (old : List ℕ)
    (at : Cursor) (done : ℕ) (h : Halt) (c' : Columns) (new : List ℕ) : Type 0 where
  pub performances : length c'.performances ≡ length c.performances
  pub factors : length c'.factors ≡ length c.factors
  pub payments : length c'.payments ≡ length c.payments
  pub used : length c'.used ≡ length c.used
  pub unused : length c'.unused ≡ length c.unused
  pub so_far : (rest : Lent) → SoFar t bytes (lent_listing rest measures sums figures numbers homes rows) first c old at done h c' new

abbrev pub invariant-loop-halt : goal.invariant-loop-halt
invariant-loop-halt l =
    Coming l.tally l.bytes l.measures l.sums l.figures l.numbers l.homes l.rows l.initial.at (columns l.initial.performances l.initial.factors l.initial.payments l.initial.used l.initial.unused) l.initial.text l.at l.done l.halt
    (columns l.performances l.factors l.payments l.used l.unused) l.text

abbrev pub decreases-loop-halt : goal.decreases-loop-halt
decreases-loop-halt l =
    turns_left l.tally.requirements l.at l.halt
