-- The moves left fall with each piece; each piece is the next one.
use mathlib.Core.Path.{◌≡◌}
use mathlib.Core.List.{List}
use Prim.Native.Nat.{ℕ}
use lib.IntN.{ℤ}
use lib.ListN.{length}
use Rattle.interval.specs.declared.Tally.{Tally}
use Rattle.interval.specs.Lent.{Lent}
use Rattle.answer.specs.Promises.{Columns, columns}
use Rattle.lister.specs.declared.Cursor.{Cursor}
use Rattle.lister.specs.Steps.{lent_listing}
use Rattle.lister.specs.BookListed.{Reached}
use Rattle.lister.proofs.Progress.{moves_left}
use Rattle.settle.proofs.output.print_listing.Given as goal

-- the pieces so far; the text stays as long as it was
pub record Pieces (t : Tally) (bytes : List ℕ) (l : Lent) (c₀ : Columns) (at : Cursor) (c : Columns) : Type 0 where
  pub said : List ℕ
  pub reached : Reached t bytes l c₀ at c said

pub record Printing
    (t : Tally) (bytes : List ℕ) (measures sums figures : List ℤ) (numbers homes : List ℕ) (rows : List ℤ) (c₀ : Columns) (old : List ℕ) (at : Cursor)
    (c : Columns) (text : List ℕ) : Type 0 where
  pub long : length text ≡ length old
  pub pieces : (rest : Lent) → Pieces t bytes (lent_listing rest measures sums figures numbers homes rows) c₀ at c

abbrev pub invariant-loop-count : goal.invariant-loop-count
invariant-loop-count l =
    Printing l.tally l.bytes l.measures l.sums l.figures l.numbers l.homes l.rows (columns l.initial.performances l.initial.factors l.initial.payments l.initial.used l.initial.unused) l.initial.text l.cursor
    (columns l.performances l.factors l.payments l.used l.unused) l.text

abbrev pub decreases-loop-count : goal.decreases-loop-count
decreases-loop-count l =
    moves_left l.tally l.cursor
