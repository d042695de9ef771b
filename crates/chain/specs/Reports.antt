-- A row of a report, by its number.
use Rattle.std.specs.Prelude.{List, [], ◌∷◌, ℕ, zero, suc}
use Rattle.rules.specs.declared.Refusal.TheVariants.{WrongState}
use Rattle.rules.specs.declared.ReportRow.{ReportRow}
use Rattle.rules.specs.Refusals.{Reply, taken, refused}

-- the first row has number 0; 11 past the last
unfoldable pub row_at : List ReportRow → ℕ → Reply ReportRow
row_at [] n = refused WrongState
row_at (x ∷ xs) zero = taken x
row_at (x ∷ xs) (suc n) = row_at xs n
