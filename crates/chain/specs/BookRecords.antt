-- What proofs/BookRecords.antt speaks of.
use Rattle.std.specs.Prelude.{◌≡◌, cond, List, [], ◌∷◌, ℕ, zero, suc, ◌+◌, ◌*◌, ltb, drop}
use Rattle.rules.specs.Quantities.{regions}
use Rattle.rules.specs.Bytes.{number_at}
use Rattle.rules.specs.Refusals.{LocatedReply, taken, ◌>>=◌}
use Rattle.rules.specs.Book.{Unit, Book}
use Rattle.rules.specs.Contents.{
  contents,
  contents_size,
  settings_size,
  frequency_start,
  frequency_size,
  unit_start,
  unit_size,
  requirement_start,
  requirement_size,
}
use Rattle.rules.specs.SettingsRecord.{settings}
use Rattle.rules.specs.UnitRecord.{unit_in}
use Rattle.rules.specs.WholeBook.{frequency_body, unit_body, requirement_body}
use Rattle.interval.specs.Tally.{before_units}
use Rattle.chain.specs.Taken.{counts_in}

-- ---- how long record m is, where it starts (the first behind the table of contents, each other where the one before it ends), and the part of the book that
-- starts there
unfoldable pub record_size : ℕ → ℕ → ℕ
record_size units m =
    cond (ltb m 1) settings_size (cond (ltb m before_units) frequency_size (cond (ltb m (before_units + units)) unit_size requirement_size))

unfoldable pub record_start : ℕ → ℕ → ℕ
record_start units zero = contents_size
record_start units (suc m) = record_start units m + record_size units m

unfoldable pub part_of : List ℕ → ℕ → List ℕ
part_of bs m = drop (record_start (counts_in bs).units m) bs

-- ---- a body of n records, one behind the other: all of them, or the first refusal
abbrev pub joined : {A : Type 0} → LocatedReply A → LocatedReply (List A) → LocatedReply (List A)
joined record_reply others = do
  first ← record_reply
  rest ← others
  taken (first ∷ rest)

unfoldable pub body : {A : Type 0} → ℕ → (ℕ → LocatedReply A) → LocatedReply (List A)
body zero f = taken []
body (suc n) f = joined (f 0) (body n (λ i. f (suc i)))

-- the least number that record i of a body may have
unfoldable pub least_from : ℕ → ℕ → List ℕ → ℕ → ℕ
least_from size least bs zero = least
least_from size least bs (suc i) = suc (number_at 2 0 (drop (size * i) bs))

-- the units before unit i of a body, the last of them first
unfoldable pub before_from : List Unit → List ℕ → ℕ → List Unit
before_from before bs zero = before
before_from before bs (suc i) = unit_in (drop (unit_size * i) bs) ∷ before_from before bs i

-- ---- a book's bodies
pub record Read (bs : List ℕ) (b : Book) : Type 0 where
  pub table : contents bs ≡ taken (counts_in bs)
  pub settings : settings (drop contents_size bs) ≡ taken b.settings
  pub regions : frequency_body regions 0 (drop frequency_start bs) ≡ taken b.regions
  pub roster : unit_body (counts_in bs).units 1 0 [] (drop unit_start bs) ≡ taken b.roster
  pub requirements : requirement_body (counts_in bs).requirements 1 0 (drop (requirement_start (counts_in bs).units) bs) ≡ taken b.requirements
