-- The sizes of a requirement's members: numbers in range give weights that sum to at most 6,010,000,000,000,000,000,
-- so no share of theirs meets its limit on W.
use mathlib.Core.Path.{◌≡◌, refl, sym, ◌∙◌, ap}
use mathlib.Core.Bool.{Bool, true, false, cond}
use mathlib.Core.List.{[], ◌∷◌, ◌++◌}
use Prim.Native.Nat.{ℕ, zero, suc, ◌+◌, ◌*◌, ◌≤◌, ◌<◌}
use native.Mathlib.Numerals.{add-one}
use native.Mathlib.Omega.{arith}
use lib.IntN.{ℤ, nat_abs}
use lib.ListN.{get_or}
use Rattle.integers.specs.Bounds.{Within}
use Rattle.integers.proofs.Bounds.{within_wider}
use Rattle.integers.specs.Sums.{sumℕ}
use Rattle.integers.proofs.Sums.{sumℕ_times}
use Rattle.integers.specs.Totals.{totalℕ}
use Rattle.integers.proofs.Totals.{totalℕ_++}
use Rattle.rules.specs.declared.Direction.{Direction}
use Rattle.rules.specs.declared.Direction.TheVariants.{Raise, Lower}
use Rattle.rules.specs.declared.Standing.{Standing}
use Rattle.rules.specs.declared.Standing.TheVariants.{Live, Default}
use Rattle.rules.specs.Quantities.{regions, performance_limit, weight_limit}
use Rattle.rules.specs.Standings.{live_or}
use Rattle.interval.specs.Lent.{Lent}
use Rattle.kept.specs.Kept.{performance_of, unit_default, row_standing}
use Rattle.kept.specs.Range.{units_at}
use Rattle.answer.specs.declared.Field.{Field}
use Rattle.answer.specs.declared.Field.TheVariants.{Payment, Used, Unused}
use Rattle.answer.specs.Made.{picked}
use Rattle.answer.specs.Residual.{residual_to}
use Rattle.answer.specs.Lists.{gathered}
use Rattle.answer.proofs.Lists.{gathered_none, gathered_more}
use Rattle.answer.proofs.ResidualLaws.{residual_within}
use Rattle.answer.proofs.UnitsHeld.{units_held, units_some, held_≤, held_there, in_a_region}
use Rattle.answer.specs.Values.{InRange, meant, numbers, row_number}

-- each of those that pass is at most so much, so together they are at most the sum
gathered_size :
    (k : ℕ → ℕ) (p : ℕ → Bool) (g : ℕ → ℤ) (n : ℕ) → ((i : ℕ) → i < n → p i ≡ true → nat_abs (g i) ≤ k i) →
    totalℕ nat_abs (gathered p g n) ≤ sumℕ n k
unfolding totalℕ sumℕ
gathered_size k p g zero h = rw (gathered_none p g) (omega arith)
gathered_size k p g (suc n) h =
    let more : gathered p g (suc n) ≡ gathered p g n ++ cond (p n) (g n ∷ []) [] = ap (λ (m : ℕ). gathered p g m) (sym (add-one n)) ∙ gathered_more p g n in
    rw more (omega (
      arith,
      totalℕ_++ nat_abs (gathered p g n) (cond (p n) (g n ∷ []) []),
      last (p n) refl,
      gathered_size k p g n (λ i l. h i (omega arith)),
    ))
  where
    last : (t : Bool) → p n ≡ t → totalℕ nat_abs (cond t (g n ∷ []) []) ≤ k n
    last true e = omega (arith, h n (omega arith) e)
    last false e = omega arith

either : {k : ℕ} (s : Standing) (x y : ℤ) → Within k x → Within k y → Within k (live_or s x y)
either Live x y hx hy = hx
either (Default why) x y hx hy = hy

module _ (units : ℕ) (l : Lent) (h : InRange units l) where
  -- a unit's limit for each unit of the row's plant
  abbrev most : ℕ → ℕ
  most i = performance_limit * units_at l.homes i

  performance_within : (d : Direction) (i : ℕ) → i < units → Within (most i) (performance_of l d i)
  performance_within Raise i b = h.regions.performances.raise.within i b
  performance_within Lower i b = h.regions.performances.lower.within i b

  default_within : (d : Direction) (f i : ℕ) → f < 3 → i < units → Within (most i) (unit_default l d f i)
  default_within d f i m b = within_wider (omega (arith, units_some l.homes i)) (go d)
    where
      go : (d : Direction) → Within performance_limit (unit_default l d f i)
      go Raise = h.defaults i f b (omega arith)
      go Lower = let e : 5 + f ≡ 2 + (3 + f) = omega arith in rw e (h.defaults i (3 + f) b (omega arith))

  row_within : (f : Field) (d : Direction) (i : ℕ) → i < units → Within (most i) (row_number f d l i)
  row_within Payment d i b = either (row_standing l d i) _ _ (performance_within d i b) (default_within d 0 i (omega arith) b)
  row_within Used d i b = either (row_standing l d i) _ _ (performance_within d i b) (default_within d 1 i (omega arith) b)
  row_within Unused d i b = default_within d 2 i (omega arith) b

  -- a row of a set of five regions stands for its plant
  meant_size :
      (f : Field) (d : Direction) (s : ℕ) → s ≤ 31 → (i : ℕ) → i < units → meant s l i ≡ true →
      nat_abs (row_number f d l i) ≤ units_held l.homes i * performance_limit
  meant_size f d s five i b e =
      let named = in_a_region (get_or l.homes i 0) s (h.rows.there i b).home five e in
      omega (arith, (row_within f d i b).size, held_there l.homes i named)

  pub members_size : (f : Field) (d : Direction) (s : ℕ) → s ≤ 31 → totalℕ nat_abs (numbers f units d s l) ≤ weight_limit
  unfolding totalℕ
  members_size f d s five =
      omega (
        arith,
        totalℕ_++ nat_abs (gathered (meant s l) (row_number f d l) units) (picked f (residual_to units l d s regions) ∷ []),
        gathered_size (λ i. units_held l.homes i * performance_limit) (meant s l) (row_number f d l) units (meant_size f d s five),
        sumℕ_times units performance_limit (units_held l.homes),
        held_≤ l.homes units,
        (residual_within units l d s h.regions f).size,
        h.regions.performances.raise.few,
      )
