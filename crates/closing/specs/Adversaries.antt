-- What proofs/Adversaries.antt speaks of.
use Rattle.std.specs.Prelude.{◌≡◌, List, ℕ, suc, ◌*◌, ◌/◌, ℤ, pos, ◌+ℤ◌, ◌-ℤ◌, ◌*ℤ◌, length, get_or, take}
use Rattle.integers.specs.Nearest.{nearest}
use Rattle.integers.specs.Totals.{total}
use Rattle.rules.specs.Book.{Unit}
use Rattle.rules.specs.Deviation.{turned}
use Rattle.rules.specs.Plants.{plants, good_plants}
use Rattle.books.specs.Writing.{book_bytes}
use Rattle.books.specs.PaperBook.{paper_book}

-- ---- what is printed of the bytes of a book; demand 2 says that it is what `settle` prints
abbrev pub Calculator : Type 0
Calculator = List ℕ → List ℕ

abbrev pub paper_bytes : ℕ → List ℕ
paper_bytes interval = book_bytes (paper_book interval)

-- ---- what is held to be a region's residual deviation, from its units
abbrev pub Residual : Type 0
Residual = List Unit → ℕ → ℤ

-- demand 3's closing, with the plants that these units are
abbrev pub Closes : Residual → Type 0
Closes R = (us : List Unit) (t : ℕ) → total (λ p. p.deviation t) (good_plants (plants us)) +ℤ R us t ≡ pos 0

-- adds units in whole blocks of eight, as the first calculator did, right at 8, 64 and 512: with 477 the last five never enter the sums, and whatever they
-- did would have to add up to zero
abbrev pub InBlocks : Residual → Type 0
InBlocks R = (us : List Unit) (t : ℕ) → R us t ≡ R (take (length us / 8 * 8) us) t

-- ---- what rounds too early
-- rounds the trajectory to cMW: two halves of a plant no longer add up (demand 3), at t = 30 of one that is to go from 0 to 2 cMW
abbrev pub rounded : Unit → ℕ → ℤ
rounded u t = turned u.kind (pos 75 *ℤ (get_or u.reading t (pos 0) -ℤ nearest (pos 75 *ℤ u.start +ℤ (u.end -ℤ u.start) *ℤ pos (suc t)) 75))
