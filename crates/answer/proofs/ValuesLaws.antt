-- Laws of the definitions in specs/Values.antt.
use mathlib.Core.Path.{◌≡◌, refl, sym, ◌∙◌, ap, ap₂}
use mathlib.Core.Bool.{Bool, true, false, cond}
use mathlib.Core.List.{List, [], ◌∷◌, ◌++◌, map, map-append, map-map, append-nil}
use Prim.Native.Nat.{ℕ, ◌+◌, ◌*◌, ◌≤◌, ◌<◌}
use native.Mathlib.Omega.{arith}
use lib.Dec.{leb}
use lib.IntN.{ℤ}
use lib.ListN.{length, get_or, set, length-append}
use borrow.Author.Tests.{leb-true}
use Rattle.integers.specs.Bounds.{Within}
use Rattle.integers.proofs.Bounds.{within_both}
use Rattle.integers.proofs.Order.{≤ℤ-trans}
use Rattle.integers.proofs.Pairs.{le_out}
use Rattle.integers.proofs.Tests.{leZ_true}
use Rattle.integers.specs.Sums.{both}
use Rattle.integers.proofs.Sums.{every_at}
use Rattle.rules.specs.declared.Direction.{Direction}
use Rattle.rules.specs.Quantities.{regions, most_units, amount_limit, performance_limit, unit_default_limit, residual_default_limit}
use Rattle.rules.specs.Book.{Requirement}
use Rattle.rules.specs.Fields.{sized, default_fine}
use Rattle.laws.proofs.LimitsLaws.{size_fits}
use Rattle.interval.specs.declared.Tally.{Tally}
use Rattle.interval.specs.Lent.{Lent, figures_length, passed_over, row_each, in_row, row_fine, of_interval}
use Rattle.kept.specs.Kept.{figure, row_member, residual_row, rows_of, kept_members}
use Rattle.kept.specs.Range.{from_0, units_at, unit_fine, series_fine, figures_fine, rows_fine, kept_fine}
use Rattle.answer.specs.Asked.{lent_members}
use Rattle.answer.specs.Lent.{Long}
use Rattle.answer.specs.declared.Field.{Field}
use Rattle.answer.specs.declared.Field.TheVariants.{Payment, Used, Unused}
use Rattle.answer.specs.Made.{picked, field_of}
use Rattle.answer.specs.Residual.{PerformancesWithin, residual_to}
use Rattle.answer.specs.Lists.{headed, gathered}
use Rattle.answer.proofs.Lists.{headed_none, headed_more, gathered_none, gathered_more, gathered_length}
use Rattle.answer.specs.Values.{InRange, Listed, RowPut, RowsPut, meant, numbers, row_number, row_numbers}

-- ---- row by row
module _ (f : Field) (d : Direction) (s : ℕ) (l : Lent) (old : List ℤ) where
  abbrev p : ℕ → Bool
  p = meant s l

  abbrev g : ℕ → ℤ
  g = row_number f d l

  pub rows_none : RowsPut f d s 0 l old 0 old
  rows_none =
      record {
        few = omega arith;
        many = sym (ap length (gathered_none p g));
        put = sym (ap (λ (xs : List ℤ). headed xs old) (gathered_none p g) ∙ headed_none old);
      }

  pub rows_more :
      {n at at' : ℕ} {column column' : List ℤ} → RowsPut f d s n l old at column → RowPut f d s n at l column at' column' →
      RowsPut f d s (n + 1) l old at' column'
  rows_more {n} {at} {at'} {column} {column'} a b = go (p n) refl b.many b.put
    where
      go :
          (t : Bool) → p n ≡ t → at' ≡ cond t (at + 1) at → column' ≡ cond t (set column at (g n)) column → RowsPut f d s (n + 1) l old at' column'
      go true e m c =
          let more : gathered p g (n + 1) ≡ gathered p g n ++ (g n ∷ []) = gathered_more p g n ∙ rw e in
          record {
            few = omega (arith, a.few);
            many = m ∙ omega (arith, a.many, length-append (gathered p g n) (g n ∷ []), ap length more);
            put =
                c ∙ ap₂ (λ (xs : List ℤ) (i : ℕ). set xs i (g n)) a.put a.many ∙ headed_more (gathered p g n) old (g n)
                ∙ ap (λ (xs : List ℤ). headed xs old) (sym more);
          }
      go false e m c =
          let more : gathered p g (n + 1) ≡ gathered p g n = gathered_more p g n ∙ rw e (append-nil (gathered p g n)) in
          record {
            few = omega (arith, a.few);
            many = m ∙ a.many ∙ ap length (sym more);
            put = c ∙ a.put ∙ ap (λ (xs : List ℤ). headed xs old) (sym more);
          }

-- ---- the members' numbers, one after the other
pub kept_values : (f : Field) (t : Tally) (l : Lent) (q : Requirement) → map (field_of f) (kept_members t l q) ≡ numbers f t.units q.direction q.set l
unfolding kept_members
kept_values f t l q =
    map-append (field_of f) (map (row_member l q.direction) (rows_of t l q)) (residual_row t l q ∷ [])
    ∙ ap₂ (λ (xs : List ℤ) (z : ℤ). xs ++ (z ∷ [])) (map-map (field_of f) (row_member l q.direction) (rows_of t l q)) (last f)
  where
    last : (f : Field) → field_of f (residual_row t l q) ≡ picked f (residual_to t.units l q.direction q.set regions)
    last Payment = refl
    last Used = refl
    last Unused = refl

-- one more than the units, at most
pub numbers_few : (f : Field) (units : ℕ) (d : Direction) (s : ℕ) (l : Lent) → length (numbers f units d s l) ≤ units + 1
numbers_few f units d s l =
    omega (
      arith,
      length-append (row_numbers f d s units l) (picked f (residual_to units l d s regions) ∷ []),
      gathered_length (meant s l) (row_number f d l) units,
    )

-- ---- numbers in range
default_within : (limit : ℕ) (x : ℤ) → default_fine limit x ≡ true → Within limit x
default_within limit x e =
    let b = both _ _ e in
    within_both (leZ_true b.0) (≤ℤ-trans (leZ_true b.1) (le_out (omega arith)))

module _ (t : Tally) (l : Lent) (fine : rows_fine t l ≡ true) where
  parts :
      (i : ℕ) → i < t.units →
      (get_or l.homes i 0 ≤ passed_over) × Within (performance_limit * units_at l.homes i) (in_row l.rows i 0)
      × Within (performance_limit * units_at l.homes i) (in_row l.rows i 1)
      × ((f : ℕ) → f < 6 → Within unit_default_limit (in_row l.rows i (2 + f)))
  unfolding rows_fine row_fine
  parts i b =
      let most = performance_limit * units_at l.homes i in
      let row = every_at t.units (unit_fine l) fine i b in
      let home = both (leb (get_or l.homes i 0) passed_over) _ row in
      let raise = both (sized most (in_row l.rows i 0)) _ home.1 in
      let lower = both (sized most (in_row l.rows i 1)) _ raise.1 in (
        leb-true _ _ home.0,
        size_fits most _ raise.0,
        size_fits most _ lower.0,
        λ f m. default_within unit_default_limit _ (every_at 6 (λ f. default_fine unit_default_limit (in_row l.rows i (2 + f))) lower.1 f m),
      )

-- both performances, of rows in range that are there
pub performances_within :
    (t : Tally) (l : Lent) → t.units ≤ most_units → figures_length ≤ length l.figures → t.units ≤ length l.homes →
    row_each * t.units ≤ length l.rows → rows_fine t l ≡ true → PerformancesWithin t.units (lent_members l.figures l.homes l.rows)
performances_within t l few figures homes rows fine =
    record {
      figures = figures;
      raise = record { place = omega arith; few = few; homes = homes; rows = rows; within = λ i b. (parts t l fine i b).1 };
      lower = record { place = omega arith; few = few; homes = homes; rows = rows; within = λ i b. (parts t l fine i b).2 };
    }

module _ (t : Tally) (l : Lent) (long : Long t.units l) (fine : kept_fine t l ≡ true) where
  lent : (figures_fine t l ≡ true) × (rows_fine t l ≡ true)
  lent = both (figures_fine t l) (rows_fine t l) (both (series_fine t l) _ fine).1

  default_is : (r f : ℕ) → r < regions → f < 6 → Within residual_default_limit (figure l r (4 + f))
  unfolding figures_fine
  default_is r f b m =
      let region = every_at regions _ (both (of_interval t.interval l.figures) _ lent.0).1 r b in
      let after = (both (from_0 1 (figure l r 2)) _ (both (from_0 amount_limit (figure l r 1)) _ region).1).1 in
      default_within residual_default_limit _
      (every_at 6 (λ i. default_fine residual_default_limit (figure l r (4 + i))) (both (from_0 1 (figure l r 3)) _ after).1 f m)

  pub all_in_range : InRange t.units (lent_members l.figures l.homes l.rows)
  all_in_range =
      record {
        rows = record {
          there =
              λ i b.
              record {
                few = omega (arith, long.few);
                figures = long.figures;
                homes = omega (arith, long.homes);
                rows = omega (arith, long.rows);
                home = (parts t l lent.1 i b).0;
              };
        };
        regions = record {
          performances = performances_within t l long.few long.figures long.homes long.rows lent.1;
          defaults = default_is;
        };
        defaults = λ i f b m. (parts t l lent.1 i b).3 f m;
      }

-- ---- the residual's number behind those of the rows
pub with_residual :
    (f : Field) (units : ℕ) (d : Direction) (s : ℕ) (l : Lent) (old : List ℤ) {at : ℕ} {column : List ℤ} {z : ℤ} →
    RowsPut f d s units l old at column → z ≡ picked f (residual_to units l d s regions) → Listed f units d s l old (at + 1) (set column at z)
with_residual f units d s l old {at} {column} {z} a e =
    let xs = row_numbers f d s units l in
    let all : numbers f units d s l ≡ xs ++ (z ∷ []) = ap (λ (y : ℤ). xs ++ (y ∷ [])) (sym e) in
    record {
      many = omega (arith, a.many, length-append xs (z ∷ []), ap length all);
      column =
          ap₂ (λ (c : List ℤ) (i : ℕ). set c i z) a.put a.many ∙ headed_more xs old z ∙ ap (λ (c : List ℤ). headed c old) (sym all);
    }
