-- Laws of the definitions in specs/Lent.antt.
use mathlib.Core.Path.{◌≡◌}
use mathlib.Core.Bool.{true, ◌&&◌}
use Prim.Native.Nat.{ℕ, ◌≤◌}
use lib.Dec.{leb}
use lib.ListN.{length}
use borrow.Author.Tests.{leb-true}
use Rattle.integers.specs.Sums.{both}
use Rattle.rules.specs.Quantities.{most_units}
use Rattle.interval.specs.Lent.{Lent, series_length, sums_length, regions_long, rows_long}
use Rattle.answer.specs.Lent.{Long}

pub long_means : (units : ℕ) (l : Lent) → units ≤ most_units → (regions_long l && rows_long units l) ≡ true → Long units l
long_means units l few e =
    let all = both (regions_long l) (rows_long units l) e in
    let m = both (leb series_length (length l.measures)) _ all.0 in
    let s = both (leb sums_length (length l.sums)) _ m.1 in
    let r = both (leb units (length l.homes)) _ all.1 in
    record {
      few = few;
      measures = leb-true _ _ m.0;
      sums = leb-true _ _ s.0;
      figures = leb-true _ _ s.1;
      homes = leb-true _ _ r.0;
      rows = leb-true _ _ r.1;
    }
