-- What proofs/Spelled.antt speaks of.
use Rattle.std.specs.Prelude.{List, [], ◌++◌, ℕ, zero, suc, take}
use Rattle.rules.specs.Contents.{contents_size}
use Rattle.chain.specs.Taken.{counts_in}
use Rattle.chain.specs.BookRecords.{record_size}
use Rattle.chain.specs.BookWay.{records_in}

-- ---- what the parts spell (01, The book; a step may be tried again with other bytes): the table of contents, then of each part the bytes of its record
unfoldable pub spelled_from : ℕ → (ℕ → List ℕ) → ℕ → ℕ → List ℕ
spelled_from units part m zero = []
spelled_from units part m (suc n) = take (record_size units m) (part m) ++ spelled_from units part (suc m) n

unfoldable pub spelled : List ℕ → (ℕ → List ℕ) → List ℕ
spelled head part = take contents_size head ++ spelled_from (counts_in head).units part 0 (records_in head)
