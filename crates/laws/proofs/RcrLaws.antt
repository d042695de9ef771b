-- Laws of RCR: at a point it is the larger of the sum of positive and the sum of negative deviations, and it stays within 7,680,000,000.
use mathlib.Core.Path.{◌≡◌, refl, sym, ◌∙◌, ap}
use mathlib.Core.Bool.{Bool, true, false, cond, ◌&&◌}
use mathlib.Core.List.{List}
use Prim.Native.Nat.{ℕ, ◌+◌, ◌*◌, ◌≤◌, ◌<◌, max}
use native.Mathlib.Omega.{arith}
use lib.IntN.{ℤ, neg_ℤ, nat_abs}
use Rattle.integers.specs.Pairs.{gain, loss}
use Rattle.integers.proofs.Bounds.{gain_≤, loss_≤, abs_neg}
use Rattle.integers.specs.Sums.{largest}
use Rattle.integers.proofs.Sums.{largest_≤}
use Rattle.integers.specs.Totals.{total, totalℕ, All}
use Rattle.integers.proofs.Totals.{total_negation, total_larger, totalℕ_times, totalℕ_those_≤, all_those}
use Rattle.rules.specs.declared.Direction.{Direction}
use Rattle.rules.specs.declared.Direction.TheVariants.{Raise, Lower}
use Rattle.rules.specs.Quantities.{points, deviation_limit}
use Rattle.rules.specs.Book.{toward, Requirement, covers, Book}
use Rattle.rules.specs.Plants.{Plant, plants, good_plants}
use Rattle.laws.proofs.PlantsLaws.{plants_many, plants_fit}
use Rattle.laws.proofs.Limits.{PlantFits, BookFits}
use Rattle.rules.specs.Members.{plants_among}
use Rattle.rules.specs.Rcr.{response, right_sign, all_reliable, few_bad, rcr}

-- ---- a direction turns sums and sizes as it turns numbers
toward_negation : (d : Direction) (x : ℤ) → toward d (neg_ℤ x) ≡ neg_ℤ (toward d x)
toward_negation Raise x = refl
toward_negation Lower x = refl

toward_total : {A : Type 0} (d : Direction) (f : A → ℤ) (xs : List A) → toward d (total f xs) ≡ total (λ x. toward d (f x)) xs
toward_total Raise f xs = refl
toward_total Lower f xs = sym (total_negation f xs)

toward_size : (d : Direction) (x : ℤ) → nat_abs (toward d x) ≡ nat_abs x
toward_size Raise x = refl
toward_size Lower x = abs_neg x

-- ---- the larger of the two sums, seen in the direction
pub response_is : (d : Direction) (ps : List Plant) (t : ℕ) → response d ps t ≡ max (totalℕ (λ p. gain (toward d (p.deviation t))) (good_plants ps))
    (totalℕ (λ p. loss (toward d (p.deviation t))) (good_plants ps))
unfolding response
response_is d ps t =
    ap (λ (z : ℤ). totalℕ (λ p. gain (toward d (p.deviation t))) (good_plants ps) + gain z)
    (toward_negation d (total (λ p. p.deviation t) (good_plants ps)) ∙ ap neg_ℤ (toward_total d (λ p. p.deviation t) (good_plants ps)))
    ∙ total_larger (λ p. toward d (p.deviation t)) (good_plants ps)

-- ---- its size
module _ (d : Direction) (t : ℕ) (l : t < points) where
  size : (p : Plant) → PlantFits p → nat_abs (toward d (p.deviation t)) ≤ p.units * deviation_limit
  size p h = rw (toward_size d (p.deviation t)) (h.deviation t l).size

  pub response_≤ : (ps : List Plant) → All PlantFits ps → response d ps t ≤ totalℕ (λ p. p.units) ps * deviation_limit
  response_≤ ps h =
      rw (response_is d ps t)
      (omega (
        arith,
        totalℕ_those_≤ PlantFits (λ p. p.units * deviation_limit) (λ p. p.good) (λ p. gain (toward d (p.deviation t)))
            (λ p f. le (gain_≤ (toward d (p.deviation t))) (size p f)) ps h,
        totalℕ_those_≤ PlantFits (λ p. p.units * deviation_limit) (λ p. p.good) (λ p. loss (toward d (p.deviation t)))
            (λ p f. le (loss_≤ (toward d (p.deviation t))) (size p f)) ps h,
        totalℕ_times (λ p. p.units) deviation_limit ps,
      ))
    where
      le : {a b c : ℕ} → a ≤ b → b ≤ c → a ≤ c
      le h k = omega arith

-- 512 units of 15,000,000 each
pub rcr_within : (b : Book) (q : Requirement) → BookFits b → rcr b q ≤ 7_680_000_000
unfolding rcr
rcr_within b q h = go (all_reliable b q && few_bad b.settings.percent ps)
  where
    ps : List Plant
    ps = plants_among b q

    -- the plants of some regions have no more units than the roster
    few : totalℕ (λ p. p.units) ps ≤ 512
    few =
        omega (
          arith,
          totalℕ_those_≤ PlantFits (λ p. p.units) (λ p. covers q p.region) (λ p. p.units) (λ p _. omega arith) (plants b.roster)
              (plants_fit b.roster h.roster),
          plants_many b.roster,
          h.few,
        )

    at : (t : ℕ) → t < points → (right : Bool) → cond right (response q.direction ps t) 0 ≤ 7_680_000_000
    at t l true =
        omega (
          arith,
          response_≤ q.direction t l ps (all_those PlantFits (λ p. covers q p.region) (plants b.roster) (plants_fit b.roster h.roster)),
          few,
        )
    at t l false = omega arith

    go : (t : Bool) → cond t (largest points (λ t. cond (right_sign b q t) (response q.direction ps t) 0)) 0 ≤ 7_680_000_000
    go true = largest_≤ points 7_680_000_000 _ (λ t l. at t l (right_sign b q t))
    go false = omega arith
