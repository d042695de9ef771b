-- The places of a report's rows: a place that is found is there, a row of the roster that is not passed over, or a region; and on numbers in range all that its
-- row reads is in range.
use mathlib.Core.Path.{◌≡◌, refl, subst}
use mathlib.Core.Bool.{Bool, true, false, cond}
use mathlib.Core.List.{List, [], ◌∷◌}
use Prim.Native.Nat.{ℕ, ◌-◌, ◌<◌}
use native.Mathlib.Omega.{arith}
use lib.Dec.{leb, ltb}
use lib.ListN.{length, get_or}
use borrow.Author.Tests.{leb-true, ltb-true, eqb-false, not-true}
use Rattle.integers.specs.Sums.{both}
use Rattle.integers.proofs.Sums.{every_at}
use Rattle.integers.specs.Totals.{those, All}
use Rattle.integers.proofs.Totals.{all_those, all_at}
use Rattle.rules.specs.declared.Refusal.TheVariants.{WrongState}
use Rattle.rules.specs.Quantities.{regions}
use Rattle.rules.specs.Bytes.{listed}
use Rattle.rules.specs.Refusals.{Reply, taken, refused, unless, ◌>>=◌}
use Rattle.interval.specs.declared.Tally.{Tally}
use Rattle.interval.specs.Lent.{Lent, passed_over, of_interval}
use Rattle.kept.specs.Kept.{region_of}
use Rattle.kept.specs.Range.{region_fine, unit_fine, series_fine, figures_fine, rows_fine, kept_fine}
use Rattle.kept.specs.KeptReport.{Place, member, residual, stands, member_rows, place_of, place_fine, place_row, fine_row}
use Rattle.chain.proofs.ChainLaws.{all_listed}
use Rattle.chain.proofs.KeptInRange.{passes_both}

-- ---- those of the first n indexes that pass a test
module _ (p : ℕ → Bool) where
  abbrev up_to : ℕ → List ℕ
  up_to n = those p (listed 0 n (λ i. i))

  -- each of them passes, and is below n
  those_pass : (is : List ℕ) → All (λ i. p i ≡ true) (those p is)
  unfolding those All
  those_pass [] = tt
  those_pass (i ∷ is) = go (p i) refl (those_pass is)
    where
      go : (s : Bool) → p i ≡ s → All (λ i. p i ≡ true) (those p is) → All (λ i. p i ≡ true) (cond s (i ∷ those p is) (those p is))
      go true e ih = (e, ih)
      go false e ih = ih

  pub among : (n k : ℕ) → k < length (up_to n) → (get_or (up_to n) k 0 < n) × (p (get_or (up_to n) k 0) ≡ true)
  among n k h = (
    all_at (λ i. i < n) (up_to n) (all_those (λ i. i < n) p _ (all_listed (λ i. i < n) n (λ i. i) (λ i b. b))) k 0 h,
    all_at (λ i. p i ≡ true) (up_to n) (those_pass (listed 0 n (λ i. i))) k 0 h,
  )

-- ---- where a row stands
module _ (t : Tally) (l : Lent) (row : ℕ) where
  abbrev members : ℕ
  members = length (up_to (stands l) t.units)

  -- a place that was found is there
  pub member_there : (i : ℕ) → place_of t l row ≡ taken (member i) → (i < t.units) × (stands l i ≡ true)
  unfolding place_of member_rows
  member_there i e = go (ltb row members) refl e
    where
      among_units : (k : ℕ) → get_or (up_to (stands l) t.units) row 0 ≡ k → row < members → (k < t.units) × (stands l k ≡ true)
      among_units k same h = subst (λ (j : ℕ). (j < t.units) × (stands l j ≡ true)) same (among (stands l) t.units row h)

      past : (s : Bool) → ◌≡◌ {A = Reply Place} (unless s WrongState (taken (residual (row - members)))) (taken (member i)) → ⊥
      past true e = let z : ◌≡◌ {A = ℕ} 0 1 = cc in omega arith
      past false e = let z : ◌≡◌ {A = ℕ} 0 1 = cc in omega arith

      go :
          (s : Bool) → ltb row members ≡ s →
          ◌≡◌ {A = Reply Place} (cond s (taken (member (get_or (up_to (stands l) t.units) row 0)))
          (unless (ltb (row - members) regions) WrongState (taken (residual (row - members))))) (taken (member i)) → (i < t.units) × (stands l i ≡ true)
      go true f e = among_units i (cc) (ltb-true _ _ f)
      go false f e = absurd (past (ltb (row - members) regions) e)

  pub region_there : (r : ℕ) → place_of t l row ≡ taken (residual r) → r < regions
  unfolding place_of member_rows
  region_there r e = go (ltb row members) (ltb (row - members) regions) refl e
    where
      go :
          (s u : Bool) → ltb (row - members) regions ≡ u →
          ◌≡◌ {A = Reply Place} (cond s (taken (member (get_or (up_to (stands l) t.units) row 0))) (unless u WrongState (taken (residual (row - members)))))
          (taken (residual r)) → r < regions
      go true u f e = let z : ◌≡◌ {A = ℕ} 0 1 = cc in omega arith
      go false true f e = let same : row - members ≡ r = cc in omega (arith, ltb-true (row - members) regions f)
      go false false f e = let z : ◌≡◌ {A = ℕ} 0 1 = cc in omega arith

  -- ---- on numbers in range
  module _ (fine : kept_fine t l ≡ true) where
    parts : (figures_fine t l ≡ true) × (rows_fine t l ≡ true)
    parts = both (figures_fine t l) (rows_fine t l) (both (series_fine t l) _ fine).1

    pub own_interval : of_interval t.interval l.figures ≡ true
    unfolding figures_fine
    own_interval = (both (of_interval t.interval l.figures) _ parts.0).0

    region_is_fine : (r : ℕ) → r < regions → region_fine l r ≡ true
    unfolding figures_fine
    region_is_fine r h = every_at regions (region_fine l) (both (of_interval t.interval l.figures) _ parts.0).1 r h

    pub place_is_fine : (p : Place) → place_of t l row ≡ taken p → place_fine t l p ≡ true
    unfolding rows_fine
    place_is_fine (member i) e =
        let here = member_there i e in
        let unit = every_at t.units (unit_fine l) parts.1 i here.0 in
        let home = leb-true (get_or l.homes i 0) passed_over (both (leb (get_or l.homes i 0) passed_over) _ unit).0 in
        let other = eqb-false (get_or l.homes i 0) passed_over (not-true _ here.1) in
        passes_both _ _ unit (region_is_fine (region_of l i) (omega (arith, home, other)))
    place_is_fine (residual r) e = passes_both _ _ parts.1 (region_is_fine r (region_there r e))

    -- so no row that there is, is refused
    pub rows_taken : (version : ℕ) → (place_of t l row >>= fine_row t l version) ≡ (place_of t l row >>= (λ p. taken (place_row t l version p)))
    rows_taken version = go (place_of t l row) place_is_fine
      where
        go :
            (q : Reply Place) → ((p : Place) → q ≡ taken p → place_fine t l p ≡ true) →
            (q >>= fine_row t l version) ≡ (q >>= (λ p. taken (place_row t l version p)))
        go (taken p) fine = rw (fine p refl)
        go (refused r) fine = refl
