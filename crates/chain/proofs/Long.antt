-- Lists are long enough where the calls' tests of their lengths say so.
use mathlib.Core.Path.{◌≡◌}
use mathlib.Core.Bool.{true}
use Prim.Native.Nat.{ℕ, ◌*◌, ◌≤◌}
use native.Mathlib.Omega.{arith}
use lib.Dec.{leb}
use lib.ListN.{length}
use borrow.Author.Tests.{le-leb, leb-true}
use Rattle.integers.specs.Sums.{both}
use Rattle.rules.specs.Quantities.{points}
use Rattle.interval.specs.Lent.{Lent, series_length, sums_length, figures_length, row_each, regions_long, rows_long}
use Rattle.interval.specs.Calls.{unit_long}
use Rattle.chain.specs.Long.{Long}

-- for fewer units, too
pub shorter : {l : Lent} {m n : ℕ} → m ≤ n → Long l n → Long l m
shorter h long =
    record {
      measures = long.measures;
      sums = long.sums;
      figures = long.figures;
      numbers = omega (arith, long.numbers);
      homes = omega (arith, long.homes);
      rows = omega (arith, long.rows);
      groups = omega (arith, long.groups);
      deviations = λ some. long.deviations (omega arith);
    }

module _ {l : Lent} {n : ℕ} where
  pub regions_pass : Long l n → regions_long l ≡ true
  regions_pass h = rw (le-leb series_length _ h.measures, le-leb sums_length _ h.sums, le-leb figures_length _ h.figures)

  pub rows_pass : Long l n → rows_long n l ≡ true
  rows_pass h = rw (le-leb n _ h.homes, le-leb (row_each * n) _ h.rows)

  pub long_passes : 1 ≤ n → Long l n → unit_long n l ≡ true
  long_passes some h =
      rw (regions_pass h, le-leb n _ h.numbers, rows_pass h, le-leb n _ h.groups, le-leb points _ (h.deviations some))

  pub passes_long : unit_long n l ≡ true → Long l n
  passes_long e =
      let regions = both (regions_long l) _ e in
      let measures = both (leb series_length (length l.measures)) _ regions.0 in
      let sums = both (leb sums_length (length l.sums)) (leb figures_length (length l.figures)) measures.1 in
      let numbers = both (leb n (length l.numbers)) _ regions.1 in
      let kept = both (rows_long n l) _ numbers.1 in
      let rows = both (leb n (length l.homes)) (leb (row_each * n) (length l.rows)) kept.0 in
      let groups = both (leb n (length l.groups)) (leb points (length l.deviations)) kept.1 in
      record {
        measures = leb-true _ _ measures.0;
        sums = leb-true _ _ sums.0;
        figures = leb-true _ _ sums.1;
        numbers = leb-true _ _ numbers.0;
        homes = leb-true _ _ rows.0;
        rows = leb-true _ _ rows.1;
        groups = leb-true _ _ groups.0;
        deviations = λ _. leb-true _ _ groups.1;
      }

-- for no unit yet
pub passes_regions : {l : Lent} → regions_long l ≡ true → Long l 0
passes_regions {l} e =
    let measures = both (leb series_length (length l.measures)) _ e in
    let sums = both (leb sums_length (length l.sums)) (leb figures_length (length l.figures)) measures.1 in
    record {
      measures = leb-true _ _ measures.0;
      sums = leb-true _ _ sums.0;
      figures = leb-true _ _ sums.1;
      numbers = omega arith;
      homes = omega arith;
      rows = omega arith;
      groups = omega arith;
      deviations = λ some. absurd (omega arith);
    }
