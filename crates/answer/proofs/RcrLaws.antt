-- Laws of the definitions in specs/Rcr.antt.
use mathlib.Core.Path.{◌≡◌, ap}
use mathlib.Core.Bool.{Bool, true, false}
use mathlib.Core.List.{[]}
use Prim.Native.Nat.{ℕ, ◌+◌, ◌*◌, ◌≤◌, ◌<◌}
use native.Mathlib.Omega.{arith}
use lib.Dec.{leb}
use lib.IntN.{ℤ, pos, negsuc, nat_abs, ◌+ℤ◌, ◌*ℤ◌}
use lib.ListN.{get_or}
use mir.Syntax.{w64}
use mir.Val.{SFits}
use borrow.Author.Tests.{leb-true}
use Rattle.integers.specs.Bounds.{Within}
use Rattle.integers.proofs.Bounds.{within_natural, within_product, within_wider, fits_within, fits_wider}
use Rattle.integers.specs.Sums.{sum, when, both}
use Rattle.integers.proofs.Sums.{every_at, sum_step, sum_within, sumℕ_term}
use Rattle.rules.specs.declared.Direction.{Direction}
use Rattle.rules.specs.declared.Direction.TheVariants.{Raise, Lower}
use Rattle.rules.specs.Quantities.{points, regions, measure_limit, amount_limit, deviation_limit}
use Rattle.rules.specs.Bytes.{bit}
use Rattle.rules.specs.Fields.{sized}
use Rattle.laws.proofs.LimitsLaws.{size_fits}
use Rattle.interval.specs.declared.Tally.{Tally}
use Rattle.interval.specs.Lent.{Lent, series_start, measure_held, sum_place, passed_over, of_interval}
use Rattle.kept.specs.Kept.{figure, generation_of, kept_rcr, kept_reliable}
use Rattle.kept.specs.Range.{measures_fine, sums_fine, from_0, unit_fine, series_fine, figures_fine, rows_fine, kept_fine}
use Rattle.answer.specs.Asked.{lent, lent_members, asked}
use Rattle.answer.specs.Lent.{Long}
use Rattle.answer.specs.Rcr.{HomesNamed, PointsInRange, RcrTested, few_bad, found_is, points_largest, sum_part, weighed_part}

natural_within : (limit : ℕ) (x : ℤ) → from_0 limit x ≡ true → Within limit x
natural_within limit (pos n) e = within_natural (leb-true n limit (both (leb 0 n) (leb n limit) e).1)
natural_within limit (negsuc n) e = absurd (no e)
  where
    no : false ≡ true → ⊥
    no e = let z : ◌≡◌ {A = ℕ} 0 1 = cc in omega arith

-- of what is kept, where every number is in range
module _ (t : Tally) (l : Lent) (long : Long t.units l) (fine : kept_fine t l ≡ true) where
  parts : (series_fine t l ≡ true) × (figures_fine t l ≡ true) × (rows_fine t l ≡ true)
  parts =
      let s = both (series_fine t l) _ fine in
      let f = both (figures_fine t l) (rows_fine t l) s.1 in
      (s.0, f.0, f.1)

  named : (i : ℕ) → i < t.units → get_or l.homes i 0 ≤ passed_over
  unfolding rows_fine
  named i b = leb-true _ _ (both (leb (get_or l.homes i 0) passed_over) _ (every_at t.units (unit_fine l) parts.2 i b)).0

  abbrev most : ℕ
  most = deviation_limit * t.units

  at_point : (p : ℕ) → p < points → (measures_fine l p ≡ true) × (sums_fine most l Raise p ≡ true) × (sums_fine most l Lower p ≡ true)
  unfolding series_fine
  at_point p b =
      let m = both (measures_fine l p) _ (every_at points _ parts.0 p b) in
      let s = both (sums_fine most l Raise p) (sums_fine most l Lower p) m.1 in
      (m.0, s.0, s.1)

  -- one of five sums is no larger than all together
  sum_there : (d : Direction) (r p : ℕ) → sums_fine most l d p ≡ true → r < regions → Within 7_680_000_000 (get_or l.sums (sum_place d r p) (pos 0))
  sum_there d r p e b =
      record {
        size =
            omega (
              arith,
              sumℕ_term regions (λ r. nat_abs (get_or l.sums (sum_place d r p) (pos 0))) r b,
              leb-true _ most e,
              long.few,
            );
      }

  sums_there : (d : Direction) (r p : ℕ) → r < regions → p < points → Within 7_680_000_000 (get_or l.sums (sum_place d r p) (pos 0))
  sums_there Raise r p b c = sum_there Raise r p (at_point p c).1 b
  sums_there Lower r p b c = sum_there Lower r p (at_point p c).2 b

  generation : (r : ℕ) → r < regions → Within amount_limit (generation_of l r)
  unfolding figures_fine
  generation r b =
      let region = every_at regions _ (both (of_interval t.interval l.figures) _ parts.1).1 r b in
      natural_within amount_limit _ (both (from_0 amount_limit (figure l r 1)) _ region).0

  points_in_range : PointsInRange (lent l.measures l.sums l.figures l.homes [])
  points_in_range =
      record {
        measures_long = long.measures;
        sums_long = long.sums;
        figures_long = long.figures;
        measures_within =
            λ r p b c.
            size_fits measure_limit _
            (every_at regions (λ r. sized measure_limit (measure_held (get_or l.measures (series_start r + p) (pos 0)))) (at_point p c).0 r b);
        sums_within = sums_there;
        generation_within = generation;
      }

  pub rcr_tested : t.percent ≤ 100 → RcrTested t.units t.percent (lent l.measures l.sums l.figures l.homes [])
  rcr_tested p = record { few = long.few; percent = p; points = points_in_range; homes = record { long = long.homes; here = named } }

-- of the same lists, without those that are not read
pub points_alone : {l : Lent} → PointsInRange l → PointsInRange (lent l.measures l.sums l.figures [] [])
points_alone h =
    record {
      measures_long = h.measures_long;
      sums_long = h.sums_long;
      figures_long = h.figures_long;
      measures_within = h.measures_within;
      sums_within = h.sums_within;
      generation_within = h.generation_within;
    }

pub homes_alone : {units : ℕ} {l : Lent} → HomesNamed units l → HomesNamed units (lent_members [] l.homes [])
homes_alone h = record { long = h.long; here = h.here }

-- ---- one turn of a sum over the regions, of plain numbers: z is the sum so far, p what the region adds
pub record Turn (f : ℕ → ℤ) (r : ℕ) (z p : ℤ) : Type 0 where
  pub part_fits : SFits w64 p
  pub sum_fits : SFits w64 (z +ℤ p)
  pub sum_is : z +ℤ p ≡ sum (r + 1) f

pub turn :
    (k : ℕ) (f : ℕ → ℤ) (r : ℕ) (z p : ℤ) → k ≤ 10_000_000_000_000 → ((i : ℕ) → i < regions → Within k (f i)) → r < regions → z ≡ sum r f → p ≡ f r →
    Turn f r z p
turn k f r z p small h l ez ep =
    let is : z +ℤ p ≡ sum (r + 1) f = rw (ez, ep, sum_step r f) in
    record {
      part_fits = rw ep (fits_wider {k = 10_000_000_000_000} tt small (h r l));
      sum_fits =
          rw is (fits_within {k = 50_000_000_000_000} tt
          (within_most (sum_within 10_000_000_000_000 (r + 1) f (λ i q. within_wider small (h i (omega arith))))));
      sum_is = is;
    }
  where
    within_most : {a : ℤ} → Within ((r + 1) * 10_000_000_000_000) a → Within 50_000_000_000_000 a
    within_most w = within_wider (omega arith) w

when_within : {k : ℕ} (t : Bool) {x : ℤ} → Within k x → Within k (when t x)
when_within true h = h
when_within false h = within_natural (omega arith)

module _ {l : Lent} (h : PointsInRange l) (set p : ℕ) (b : p < points) where
  pub product_fits : (r : ℕ) → r < regions → SFits w64 (generation_of l r *ℤ measure_held (get_or l.measures (series_start r + p) (pos 0)))
  product_fits r q = fits_within tt (within_product (h.generation_within r q) (h.measures_within r p q b))

  pub weighed_turn : (r : ℕ) (z x : ℤ) → r < regions → z ≡ sum r (weighed_part set l p) → x ≡ weighed_part set l p r → Turn (weighed_part set l p) r z x
  weighed_turn r z x q ez ex =
      turn (amount_limit * measure_limit) _ r z x (omega arith)
      (λ i c. when_within (bit i set) (within_product (h.generation_within i c) (h.measures_within i p c b))) q ez ex

  pub sum_turn :
      (d : Direction) (r : ℕ) (z x : ℤ) → r < regions → z ≡ sum r (sum_part d set l p) → x ≡ sum_part d set l p r → Turn (sum_part d set l p) r z x
  sum_turn d r z x q ez ex = turn 7_680_000_000 _ r z x (omega arith) (λ i c. when_within (bit i set) (h.sums_within d i p c b)) q ez ex

module _ (units percent : ℕ) (d : Direction) (set : ℕ) (l : Lent) where
  pub found_unreliable : kept_reliable l (asked d set) ≡ false → record { rcr = 0; reliable = false } ≡ found_is units percent d set l
  unfolding kept_rcr
  found_unreliable e = rw e

  pub found_many_bad :
      kept_reliable l (asked d set) ≡ true → few_bad units percent set l ≡ false → record { rcr = 0; reliable = true } ≡ found_is units percent d set l
  unfolding kept_rcr
  found_many_bad e f = rw (e, f)

  pub found_points :
      {x : ℕ} → x ≡ points_largest d set l → kept_reliable l (asked d set) ≡ true → few_bad units percent set l ≡ true →
      record { rcr = x; reliable = true } ≡ found_is units percent d set l
  unfolding kept_rcr
  found_points g e f = rw (e, f) (ap (λ (y : ℕ). record { rcr = y; reliable = true }) g)
