-- Books written as bytes, for the theorems on worked books, as the book writer lays them out (02, R-4).
use Rattle.std.specs.Prelude.{◌≡◌, List, ℕ}
use Rattle.std.proofs.Common.{ap}
use Rattle.rules.specs.Refusals.{taken}
use Rattle.rules.specs.Bytes.{listed}
use Rattle.rules.specs.Book.{Book}
use Rattle.rules.specs.WholeBook.{book}
use Rattle.rules.specs.Written.{book_laid}
use Rattle.rules.specs.Said.{handed}
use Rattle.rules.specs.Listing.{listing, printed, settle}

unfoldable pub book_bytes : Book → List ℕ
book_bytes b = book_laid (handed b)

-- 75 of one value
abbrev pub flat : {A : Type 0} → A → List A
flat x = listed 0 75 (λ t. x)

-- a book that is read from its bytes as what it says has its listing printed
pub settled : (b : Book) → book (book_bytes b) ≡ taken b → settle (book_bytes b) ≡ listing b
unfolding settle
settled b read = ap printed read
