-- The rows left fall; what the rows before have said stands in the text.
use mathlib.Core.Path.{◌≡◌}
use mathlib.Core.List.{List}
use Prim.Native.Nat.{ℕ, ◌-◌, ◌≤◌}
use lib.IntN.{ℤ}
use lib.ListN.{length}
use Rattle.interval.specs.declared.Tally.{Tally}
use Rattle.interval.specs.Lent.{Lent, lent_member}
use Rattle.answer.specs.declared.Answer.{Answer}
use Rattle.answer.specs.Promises.{Columns, columns}
use Rattle.lister.specs.declared.Cursor.TheVariants as at
use Rattle.lister.specs.declared.Halt.TheVariants as halt
use Rattle.lister.specs.Steps.{Runs}
use Rattle.lister.proofs.MoveLaws.{Among}
use Rattle.lister.proofs.members.list_units.Given as goal

-- the rows before this one are listed
pub record Listed
    (t : Tally) (k : ℕ) (a : Answer) (c : Columns) (figures : List ℤ) (numbers homes : List ℕ) (first members start : ℕ) (old : List ℕ) (row place done : ℕ)
    (text : List ℕ) : Type 0 where
  pub here : Among t k row place
  pub runs : (bytes : List ℕ) (rest : Lent) → Runs t bytes (lent_member rest figures numbers homes) (at.Members k a first members) c start old
      (record { at = at.Members k a row place; done = done; halt = halt.On }) c text
  pub long : length text ≡ length old
  pub fits : done ≤ length text

abbrev pub invariant-loop-row : goal.invariant-loop-row
invariant-loop-row l =
    Listed l.tally l.requirement l.given (columns l.performances l.factors l.payments l.used l.unused) l.figures l.numbers l.homes l.first l.members l.start l.initial.text l.row l.place l.done l.text

abbrev pub decreases-loop-row : goal.decreases-loop-row
decreases-loop-row l =
    l.tally.units - l.row
