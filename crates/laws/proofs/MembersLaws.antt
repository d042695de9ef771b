-- Laws of the members: their weights sum to at most 6,010,000,000,000,000,000, so no book meets the share's limit on W.
use mathlib.Core.Path.{◌≡◌, ◌∙◌}
use mathlib.Core.Bool.{Bool, true, false}
use mathlib.Core.List.{List, [], ◌∷◌, map}
use Prim.Native.Nat.{ℕ, suc, ◌+◌, ◌*◌, ◌≤◌, ◌<◌}
use native.Mathlib.Nat.{mul-le-mul_right, add-mul, one-mul}
use native.Mathlib.Omega.{arith}
use lib.Dec.{eqb}
use lib.IntN.{ℤ, nat_abs}
use lib.ListN.{length, get_or}
use Rattle.integers.specs.Pairs.{gain, loss}
use Rattle.integers.specs.Bounds.{Within}
use Rattle.integers.proofs.Bounds.{abs_add, abs_neg, gain_≤, loss_≤, within_wider}
use Rattle.integers.specs.Sums.{one, sumℕ, when}
use Rattle.integers.proofs.Sums.{count_one, sum_size, sumℕ_plus, sumℕ_times}
use Rattle.integers.specs.Totals.{total, totalℕ, All}
use Rattle.integers.proofs.Totals.{total_those, totalℕ_map, totalℕ_++, totalℕ_≤, totalℕ_times, totalℕ_those_≤}
use Rattle.rules.specs.declared.Direction.{Direction}
use Rattle.rules.specs.declared.Standing.{Standing}
use Rattle.rules.specs.declared.Standing.TheVariants.{Live, Default}
use Rattle.rules.specs.Quantities.{points, regions, measure_limit, performance_limit, residual_default_limit, unit_default_limit, weight_limit}
use Rattle.rules.specs.Book.{by, Defaults, Requirement, covers, Book, regionOf}
use Rattle.rules.specs.Fields.{good_at}
use Rattle.rules.specs.Measure.{measure_in}
use Rattle.laws.proofs.MeasureLaws.{measure_within}
use Rattle.rules.specs.Plants.{Plant, plants}
use Rattle.laws.proofs.PlantsLaws.{plants_many, plants_fit}
use Rattle.rules.specs.Performance.{weight_in, performance, plants_of, plant_performance, residual_performance}
use Rattle.laws.proofs.PerformanceLaws.{weight_within, performance_within, residual_is}
use Rattle.rules.specs.Standings.{plant_standing, residual_standing, live_or}
use Rattle.rules.specs.Members.{Member, plant_member, residual_or, residual_member, plants_among, members, over_regions}
use Rattle.rules.specs.Factors.{helpful, unhelpful}
use Rattle.rules.specs.Cents.{used_weights, unused_weights}
use Rattle.laws.proofs.Limits.{DefaultsFit, PlantFits, BookFits}

-- ---- sizes
-- the total of what some of those pass that count is at most k for each unit of those that count
counted_size : {A : Type 0} (P : A → Type 0) (n : A → ℕ) (k : ℕ) (p g : A → Bool) (f : A → ℤ) → ((x : A) → P x → Within (n x * k) (f x)) →
    (xs : List A) → All P xs → nat_abs (total (λ x. when (p x) (when (g x) (f x))) xs) ≤ totalℕ (λ x. one (p x) * n x) xs * k
unfolding All total totalℕ
counted_size P n k p g f h [] a = omega arith
counted_size P n k p g f h (x ∷ xs) a =
    omega (
      arith,
      abs_add (when (p x) (when (g x) (f x))) (total (λ x. when (p x) (when (g x) (f x))) xs),
      counted_size P n k p g f h xs a.1,
      head (p x) (g x) (f x) (h x a.0),
      add-mul (one (p x) * n x) (totalℕ (λ x. one (p x) * n x) xs) k,
    )
  where
    head : (s t : Bool) (z : ℤ) → Within (n x * k) z → nat_abs (when s (when t z)) ≤ one s * n x * k
    head true true z h = omega (arith, h.size, one-mul (n x))
    head true false z h = omega arith
    head false t z h = omega arith

-- a plant is in one region
in_one_region : (ps : List Plant) → sumℕ regions (λ r. totalℕ (λ p. one (eqb r p.region) * p.units) ps) ≤ totalℕ (λ p. p.units) ps
unfolding totalℕ sumℕ
in_one_region [] = omega arith
in_one_region (p ∷ ps) =
    omega (
      arith,
      sumℕ_plus regions (λ r. one (eqb r p.region) * p.units) (λ r. totalℕ (λ p. one (eqb r p.region) * p.units) ps),
      sumℕ_times regions p.units (λ r. one (eqb r p.region)),
      mul-le-mul_right p.units (count_one regions p.region),
      in_one_region ps,
    )

live_or_within : {k : ℕ} (s : Standing) (x y : ℤ) → Within k x → Within k y → Within k (live_or s x y)
live_or_within Live x y hx hy = hx
live_or_within (Default why) x y hx hy = hy

module _ (b : Book) (h : BookFits b) where
  pub measure_in_within : (r : ℕ) → r < regions → (t : ℕ) → t < points → Within measure_limit (measure_in b r t)
  measure_in_within r l t k =
      let f = h.region r l in
      measure_within b.settings.smoothing (good_at (regionOf b r).quality) (λ i. get_or (regionOf b r).frequency i 0) (regionOf b r).before
      h.settings.smoothing f.before f.frequency (suc t) (omega arith)

  pub weight_in_within : (r : ℕ) → r < regions → (t : ℕ) → t < points → Within measure_limit (weight_in b r t)
  weight_in_within r l t k = weight_within b.settings (regionOf b r) t (measure_in_within r l t k)

  -- a plant's performance by what any region's points weigh
  pub plant_performance_within : (p : Plant) → PlantFits p → (d : Direction) (r : ℕ) → r < regions →
      Within (p.units * performance_limit) (performance d (weight_in b r) p.deviation)
  plant_performance_within p f d r l = performance_within p.units d (weight_in b r) p.deviation (weight_in_within r l) f.deviation

  -- a region's residual performance is at most a unit's for each unit of its plants
  pub residual_performance_size : (d : Direction) (r : ℕ) → r < regions →
      nat_abs (residual_performance b d r) ≤ totalℕ (λ p. one (eqb r p.region) * p.units) (plants b.roster) * performance_limit
  unfolding residual_performance
  residual_performance_size d r l =
      rw (
        residual_is d (weight_in b r) (plants_of b r),
        abs_neg,
        total_those (λ p. p.good) (λ p. performance d (weight_in b r) p.deviation) (plants_of b r),
        total_those (λ p. eqb r p.region) _ (plants b.roster),
      )
      (counted_size PlantFits (λ p. p.units) performance_limit (λ p. eqb r p.region) (λ p. p.good) _ (λ p f. plant_performance_within p f d r l)
      (plants b.roster) (plants_fit b.roster h.roster))

-- a default is within the limit of one unit
within_some : {n : ℕ} {z : ℤ} → 1 ≤ n → Within unit_default_limit z → Within (n * performance_limit) z
within_some {n} some w = within_wider (omega arith) w

-- ---- the members' weights, by the default that stands in: `field` is payment or used
module _ (b : Book) (q : Requirement) (h : BookFits b) (field : Defaults → ℤ) (fits : (k : ℕ) (f : Defaults) → DefaultsFit k f → Within k (field f)) where
  abbrev d : Direction
  d = q.direction

  plants_size : totalℕ (λ p. nat_abs (live_or (plant_standing b d p) (plant_performance b d p) (field (by d p.defaults)))) (plants_among b q) ≤ length
      b.roster * performance_limit
  unfolding plant_performance
  plants_size =
      omega (
        arith,
        totalℕ_those_≤ PlantFits (λ p. p.units * performance_limit) (λ p. covers q p.region)
            (λ p. nat_abs (live_or (plant_standing b d p) (plant_performance b d p) (field (by d p.defaults))))
            (λ p f. (live_or_within (plant_standing b d p) _ _ (plant_performance_within b h p f d p.region f.region)
            (within_some f.some (fits unit_default_limit (by d p.defaults) (f.defaults d)))).size) (plants b.roster)
            (plants_fit b.roster h.roster),
        totalℕ_times (λ p. p.units) performance_limit (plants b.roster),
        mul-le-mul_right performance_limit (same (plants_many b.roster)),
      )
    where
      same : {x y : ℕ} → x ≡ y → x ≤ y
      same e = omega arith

  residual_size : nat_abs (over_regions q (residual_or b d field)) ≤ length b.roster * performance_limit + 250_000_000_000_000_000
  unfolding sumℕ
  residual_size =
      omega (
        arith,
        sum_size regions (λ r. when (covers q r) (residual_or b d field r)) (λ r. n r * performance_limit + residual_default_limit)
            (λ r l. each (covers q r) (residual_standing b d r) (residual_performance b d r) (field (by d (regionOf b r).defaults)) (n r * performance_limit)
            (residual_performance_size b h d r l) (fits residual_default_limit (by d (regionOf b r).defaults) ((h.region r l).defaults d))),
        sumℕ_plus regions (λ r. n r * performance_limit) (λ r. residual_default_limit),
        sumℕ_times regions performance_limit n,
        mul-le-mul_right performance_limit (few (in_one_region (plants b.roster)) (plants_many b.roster)),
      )
    where
      n : ℕ → ℕ
      n r = totalℕ (λ p. one (eqb r p.region) * p.units) (plants b.roster)

      few : {x y z : ℕ} → x ≤ y → y ≡ z → x ≤ z
      few h e = omega arith

      each : (t : Bool) (s : Standing) (x y : ℤ) (k : ℕ) → nat_abs x ≤ k → Within residual_default_limit y →
          nat_abs (when t (live_or s x y)) ≤ k + residual_default_limit
      each true Live x y k hx hy = omega arith
      each true (Default why) x y k hx hy = omega (arith, hy.size)
      each false s x y k hx hy = omega arith

-- ---- all members together
module _ (b : Book) (q : Requirement) where
  members_total : (g : Member → ℕ) → totalℕ g (members b q) ≡ totalℕ (λ p. g (plant_member b q.direction p)) (plants_among b q) + g (residual_member b q)
  unfolding members totalℕ
  members_total g =
      totalℕ_++ g (map (plant_member b q.direction) (plants_among b q)) (residual_member b q ∷ [])
      ∙ omega (arith, totalℕ_map g (plant_member b q.direction) (plants_among b q))

  module _ (h : BookFits b) where
    pub payment_size : totalℕ (λ m. nat_abs m.payment) (members b q) ≤ weight_limit
    unfolding plant_member residual_member
    payment_size =
        omega (
          arith,
          members_total (λ m. nat_abs m.payment),
          plants_size b q h (λ f. f.payment) (λ k f g. g.payment.size),
          residual_size b q h (λ f. f.payment) (λ k f g. g.payment.size),
          h.few,
        )

    pub used_size : totalℕ (λ m. nat_abs m.used) (members b q) ≤ weight_limit
    unfolding plant_member residual_member
    used_size =
        omega (
          arith,
          members_total (λ m. nat_abs m.used),
          plants_size b q h (λ f. f.used) (λ k f g. g.used.size),
          residual_size b q h (λ f. f.used) (λ k f g. g.used.size),
          h.few,
        )

    pub unused_size : totalℕ (λ m. nat_abs m.unused) (members b q) ≤ weight_limit
    unfolding plant_member residual_member sumℕ
    unused_size =
        let d = q.direction in
        omega (
          arith,
          members_total (λ m. nat_abs m.unused),
          totalℕ_those_≤ PlantFits (λ p. p.units * unit_default_limit) (λ p. covers q p.region) (λ p. nat_abs (by d p.defaults).unused)
              (λ p f. (within_some f.some (f.defaults d).unused.size).size) (plants b.roster) (plants_fit b.roster h.roster),
          totalℕ_times (λ p. p.units) unit_default_limit (plants b.roster),
          plants_many b.roster,
          sum_size regions (λ r. when (covers q r) (by d (regionOf b r).defaults).unused) (λ r. residual_default_limit)
              (λ r l. counted (covers q r) (by d (regionOf b r).defaults).unused ((h.region r l).defaults d).unused.size),
          h.few,
        )
      where
        counted : (t : Bool) (z : ℤ) → Within residual_default_limit z → nat_abs (when t z) ≤ residual_default_limit
        counted true z w = w.size
        counted false z w = omega arith

-- ---- so each list of weights is within the limit of W
weights_fit : (g : ℤ → ℕ) → ((z : ℤ) → g z ≤ nat_abs z) → (f : Member → ℤ) (ms : List Member) → totalℕ (λ m. nat_abs (f m)) ms ≤ weight_limit →
    totalℕ (λ w. w) (map (λ m. g (f m)) ms) ≤ weight_limit
weights_fit g le f ms h = rw (totalℕ_map (λ w. w) (λ m. g (f m)) ms) (omega (arith, totalℕ_≤ (λ m. g (f m)) (λ m. nat_abs (f m)) (λ m. le (f m)) ms))

module _ (b : Book) (q : Requirement) (h : BookFits b) where
  pub helpful_fits : totalℕ (λ w. w) (helpful (members b q)) ≤ weight_limit
  helpful_fits = weights_fit gain gain_≤ (λ m. m.payment) (members b q) (payment_size b q h)

  pub unhelpful_fits : totalℕ (λ w. w) (unhelpful (members b q)) ≤ weight_limit
  unhelpful_fits = weights_fit loss loss_≤ (λ m. m.payment) (members b q) (payment_size b q h)

  pub used_weights_fit : totalℕ (λ w. w) (used_weights (members b q)) ≤ weight_limit
  used_weights_fit = weights_fit loss loss_≤ (λ m. m.used) (members b q) (used_size b q h)

  pub unused_weights_fit : totalℕ (λ w. w) (unused_weights (members b q)) ≤ weight_limit
  unused_weights_fit = weights_fit loss loss_≤ (λ m. m.unused) (members b q) (unused_size b q h)
