-- No split is closer to the exact shares than the share's (02, R-14), under every rule that puts members with equal remainders in a strict order.
-- The idea: some bound stands among the remainders, that of everyone who gets one more at it or above, all others' at it or below. At a price of
-- W - 2·bound for each unit that a member has, its own amount is the best for it; equal totals cost the same, so the sum of the distances is no smaller.
use mathlib.Core.Path.{◌≡◌, refl, sym, ◌∙◌, ap}
use mathlib.Core.Bool.{Bool, true, false, cond}
use Prim.Native.Nat.{ℕ, ◌*◌, ◌≤◌, ◌<◌}
use native.Mathlib.Omega.{arith}
use native.Mathlib.Nat.{mod-lt}
use lib.Dec.{ltb}
use lib.IntN.{ℤ, pos}
use borrow.Author.Tests.{ltb-true, ltb-false}
use Rattle.integers.specs.Sums.{sum, sumℕ, largest}
use Rattle.integers.proofs.Sums.{sumℕ_≤, one_mono, largest_≤, largest_term}
use Rattle.integers.proofs.Division.{divided}
use Rattle.integers.proofs.Distances.{apart, best_at_a_price, no_worse_in_all}
use Rattle.integers.proofs.Ranks.{rank, Total}
use Rattle.rules.specs.Share.{weight_sum, remainder, left_over, ahead, gets_one, amount}
use Rattle.laws.proofs.ShareLaws.{in_order, is_ahead, amount_is, share_adds_up}

module _ (T n : ℕ) (w : ℕ → ℕ) (first : ℕ → ℕ → Bool) (o : Total first) where
  abbrev gets : ℕ → Bool
  gets = gets_one T n w first

  abbrev r : ℕ → ℕ
  r = remainder T n w

  -- who gets one more has no smaller a remainder than who does not
  pub ones_to_the_largest : (i j : ℕ) → gets i ≡ true → gets j ≡ false → r j ≤ r i
  unfolding gets_one
  ones_to_the_largest i j g e = go (ltb (r i) (r j)) refl
    where
      go : (t : Bool) → ltb (r i) (r j) ≡ t → r j ≤ r i
      go false c = ltb-false (r i) (r j) c
      go true c =
          let before : ahead first r j i ≡ true = is_ahead first r j i (omega (arith, ltb-true (r i) (r j) c)) in
          let rank_≤ : rank (ahead first r) n j ≤ rank (ahead first r) n i = sumℕ_≤ n _ _
          (λ k _. one_mono (ahead first r k j) (ahead first r k i) (λ p. (in_order first r o).chain k j i p before)) in
          absurd (omega (arith, ltb-true (rank (ahead first r) n i) (left_over T n w) g, ltb-false (rank (ahead first r) n j) (left_over T n w) e))

  -- the largest remainder that gets none
  abbrev bound : ℕ
  bound = largest n (λ i. cond (gets i) 0 (r i))

  bound_below : (i : ℕ) → gets i ≡ true → bound ≤ r i
  bound_below i g = largest_≤ n _ _ (λ j _. go j (gets j) refl)
    where
      go : (j : ℕ) (t : Bool) → gets j ≡ t → cond t 0 (r j) ≤ r i
      go j true e = omega arith
      go j false e = ones_to_the_largest i j g e

  bound_above : (i : ℕ) → i < n → gets i ≡ false → r i ≤ bound
  bound_above i l g = rw g at (largest_term n (λ i. cond (gets i) 0 (r i)) i l)

  module _ (h : 0 < weight_sum n w) where
    bound_≤ : bound ≤ weight_sum n w
    bound_≤ = largest_≤ n _ _ (λ i _. go i (gets i))
      where
        go : (i : ℕ) (t : Bool) → cond t 0 (r i) ≤ weight_sum n w
        go i true = omega arith
        go i false = omega (arith, mod-lt (T * w i) h)

    -- so no split of T is closer in all, negative amounts or not
    pub no_closer : (b : ℕ → ℤ) → sum n b ≡ pos T →
        sumℕ n (λ i. apart (weight_sum n w) (T * w i) (pos (amount T n w first i))) ≤ sumℕ n (λ i. apart (weight_sum n w) (T * w i) (b i))
    no_closer b e =
        no_worse_in_all (weight_sum n w) bound _ (amount T n w first) _ b n
        (λ i l. rw (amount_is T n w first h i) (best_at_a_price (weight_sum n w) (T * w i) (divided (T * w i) (weight_sum n w) h) bound bound_≤ (b i)
        (gets i) (bound_below i) (bound_above i l)))
        (e ∙ ap pos (sym (share_adds_up T n w first h o)))
