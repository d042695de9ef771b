-- The whole book (01, The book): the table of contents first, then the bodies in the same order, without gaps. The first refusal ends it,
-- and names the place of its record in its body, from 1 (02, R-1).
use Rattle.std.specs.Prelude.{List, [], ◌∷◌, ℕ, zero, suc, eqb, drop}
use Rattle.rules.specs.Quantities.{regions}
use Rattle.rules.specs.Refusals.{LocatedReply, taken, at, ◌>>=◌}
use Rattle.rules.specs.Book.{Region, Unit, Requirement, Book}
use Rattle.rules.specs.Contents.{contents, contents_size, frequency_start, frequency_size, unit_start, unit_size, requirement_start, requirement_size}
use Rattle.rules.specs.SettingsRecord.{settings}
use Rattle.rules.specs.FrequencyRecord.{frequency_record}
use Rattle.rules.specs.UnitRecord.{unit_record}
use Rattle.rules.specs.Groups.{in_its_group}
use Rattle.rules.specs.RequirementRecord.{requirement_record}

-- n frequency records, of the regions from r on
unfoldable pub frequency_body : ℕ → ℕ → List ℕ → LocatedReply (List Region)
frequency_body zero r bs = taken []
frequency_body (suc n) r bs = do
  first ← at (suc r) (frequency_record r bs)
  rest ← frequency_body n (suc r) (drop frequency_size bs)
  taken (first ∷ rest)

-- n units behind others, the last of them first, from a place on; the first has at least the number `least`
unfoldable pub unit_body : ℕ → ℕ → ℕ → List Unit → List ℕ → LocatedReply (List Unit)
unit_body zero place least before bs = taken []
unit_body (suc n) place least before bs = do
  first ← at place (unit_record least bs >>= in_its_group before)
  rest ← unit_body n (suc place) (suc first.number) (first ∷ before) (drop unit_size bs)
  taken (first ∷ rest)

-- n requirements likewise; nothing follows the last
unfoldable pub requirement_body : ℕ → ℕ → ℕ → List ℕ → LocatedReply (List Requirement)
requirement_body zero place least bs = taken []
requirement_body (suc n) place least bs = do
  first ← at place (requirement_record least (eqb n 0) bs)
  rest ← requirement_body n (suc place) (suc first.number) (drop requirement_size bs)
  taken (first ∷ rest)

unfoldable pub book : List ℕ → LocatedReply Book
book bs = do
  counts ← at 0 (contents bs)
  s ← at 1 (settings (drop contents_size bs))
  rs ← frequency_body regions 0 (drop frequency_start bs)
  us ← unit_body counts.units 1 0 [] (drop unit_start bs)
  qs ← requirement_body counts.requirements 1 0 (drop (requirement_start counts.units) bs)
  taken (record { settings = s; regions = rs; roster = us; requirements = qs })
