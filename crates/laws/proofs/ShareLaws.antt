-- Laws of the share, under every rule that puts members with equal remainders in a strict order: it adds up, each amount is less than one unit away from its
-- exact share, weight 0 gets 0, and what is left over is less than the members with weight. Of the order the laws use that it is strict and total
-- (`in_order`), `is_ahead`, and the ranks above, at and below a bound: nothing else looks at `ahead`.
use mathlib.Core.Path.{◌≡◌, refl, sym, ◌∙◌, ap, ap₂}
use mathlib.Core.Bool.{Bool, true, false, not, cond, ◌&&◌, ◌||◌}
use mathlib.Core.List.{List}
use Prim.Native.Nat.{ℕ, zero, suc, ◌+◌, ◌*◌, ◌≤◌, ◌<◌}
use native.Mathlib.Omega.{arith}
use native.Mathlib.Nat.{div-add-mod', mod-lt, le_of_mul-le-mul_right, lt_of_mul-lt-mul_right, add-mul, mul-zero, zero-mod}
use lib.Dec.{leb, ltb, eqb}
use lib.ListN.{length}
use borrow.Author.Tests.{ltb-true, ltb-false, lt-ltb, le-ltb, leb-true, eqb-true, eqb-false, ne_eqb}
use Rattle.integers.specs.Sums.{one, sumℕ, count}
use Rattle.integers.proofs.Sums.{sumℕ_ext, sumℕ_zero, sumℕ_plus, sumℕ_times, sumℕ_scale, sumℕ_≤, sumℕ_<, some_term, one_≤, one_mono, count_≤, count_below}
use Rattle.integers.proofs.Ranks.{rank, Total, ranked}
use Rattle.integers.proofs.Division.{taken_≤, taken_rest}
use Rattle.rules.specs.Share.{
  weight_sum,
  whole,
  remainder,
  left_over,
  ahead,
  earlier_first,
  larger_first,
  gets_one,
  amount,
  unplaced,
  weight_at,
  share_of,
  unplaced_of,
}

-- ---- who comes first: the larger number, and of equal ones as a rule says
module _ (first : ℕ → ℕ → Bool) (r : ℕ → ℕ) where
  -- one test on numbers
  pub ahead_is : (j i : ℕ) → ahead first r j i ≡ ltb (r i) (r j + one (first j i))
  ahead_is j i = go (ltb (r i) (r j)) refl (eqb (r i) (r j)) refl (first j i)
    where
      go : (a : Bool) → ltb (r i) (r j) ≡ a → (b : Bool) → eqb (r i) (r j) ≡ b → (c : Bool) → a || b && c ≡ ltb (r i) (r j + one c)
      go true e b f c = sym (lt-ltb (r i) (r j + one c) (omega (arith, ltb-true (r i) (r j) e)))
      go false e true f true = sym (lt-ltb (r i) (r j + 1) (omega (arith, eqb-true (r i) (r j) f)))
      go false e true f false = sym (le-ltb (r i) (r j + 0) (omega (arith, ltb-false (r i) (r j) e)))
      go false e false f true =
          sym (le-ltb (r i) (r j + 1) (more (r i) (r j) (ltb-false (r i) (r j) e) (eqb-false (r i) (r j) f)))
        where
          more : (a b : ℕ) → b ≤ a → (a ≡ b → ⊥) → b + 1 ≤ a
          more a b h n = omega (arith, n)
      go false e false f false = sym (le-ltb (r i) (r j + 0) (omega (arith, ltb-false (r i) (r j) e)))

  pub is_ahead : (j i : ℕ) → r i < r j + one (first j i) → ahead first r j i ≡ true
  is_ahead j i h = ahead_is j i ∙ lt-ltb (r i) (r j + one (first j i)) h

  pub ahead_means : (j i : ℕ) → ahead first r j i ≡ true → r i < r j + one (first j i)
  ahead_means j i e = ltb-true (r i) (r j + one (first j i)) (sym (ahead_is j i) ∙ e)

  -- before one at a bound come those above it, and those at it that the rule puts first
  pub rank_at : (n i bound : ℕ) → r i ≡ bound → rank (ahead first r) n i ≡ count n (λ j. ltb bound (r j)) + count n (λ j. eqb (r j) bound && first j i)
  rank_at n i bound e =
      sumℕ_ext n _ _ (λ j _. ap one (ahead_is j i) ∙ ap (λ (b : ℕ). one (ltb b (r j + one (first j i)))) e ∙ apart bound (r j) (first j i))
      ∙ sumℕ_plus n (λ j. one (ltb bound (r j))) (λ j. one (eqb (r j) bound && first j i))
    where
      apart : (b x : ℕ) (t : Bool) → one (ltb b (x + one t)) ≡ one (ltb b x) + one (eqb x b && t)
      apart b x t = go t (ltb b x) refl (eqb x b) refl
        where
          go : (t s : Bool) → ltb b x ≡ s → (q : Bool) → eqb x b ≡ q → one (ltb b (x + one t)) ≡ one s + one (q && t)
          go t true e true f = absurd (omega (arith, ltb-true b x e, eqb-true x b f))
          go t true e false f = ap one (lt-ltb b (x + one t) (omega (arith, ltb-true b x e)))
          go true false e true f = ap one (lt-ltb b (x + 1) (omega (arith, eqb-true x b f)))
          go true false e false f =
              ap one (le-ltb b (x + 1) (less x b (ltb-false b x e) (eqb-false x b f)))
            where
              less : (x b : ℕ) → x ≤ b → (x ≡ b → ⊥) → x + 1 ≤ b
              less x b l d = omega arith
          go false false e true f = ap one (le-ltb b (x + 0) (omega (arith, ltb-false b x e)))
          go false false e false f = ap one (le-ltb b (x + 0) (omega (arith, ltb-false b x e)))

  -- before one below it come all at it or above
  pub rank_below : (n i bound : ℕ) → r i < bound → count n (λ j. leb bound (r j)) ≤ rank (ahead first r) n i
  rank_below n i bound l =
      sumℕ_≤ n _ _ (λ j _. one_mono (leb bound (r j)) (ahead first r j i) (λ p. is_ahead j i (omega (arith, leb-true bound (r j) p))))

  module _ (o : Total first) where
    -- where the rule is a strict total order, so is this
    pub in_order : Total (ahead first r)
    in_order =
        record {
          nobody = λ i. ahead_is i i ∙ le-ltb (r i) (r i + one (first i i)) (rw (o.nobody i) (omega arith));
          other = λ i j h. ahead_is j i ∙ rw (ahead_is i j, o.other i j h) (flip (r i) (r j) (first i j));
          chain = λ i j k p q. is_ahead i k (order i j k (ahead_means i j p) (ahead_means j k q));
        }
      where
        flip : (a b : ℕ) (s : Bool) → ltb a (b + one (not s)) ≡ not (ltb b (a + one s))
        flip a b s = go s (ltb b (a + one s)) refl
          where
            go : (s t : Bool) → ltb b (a + one s) ≡ t → ltb a (b + one (not s)) ≡ not t
            go true true e = le-ltb a (b + 0) (omega (arith, ltb-true b (a + 1) e))
            go true false e = lt-ltb a (b + 0) (omega (arith, ltb-false b (a + 1) e))
            go false true e = le-ltb a (b + 1) (omega (arith, ltb-true b (a + 0) e))
            go false false e = lt-ltb a (b + 1) (omega (arith, ltb-false b (a + 0) e))

        order : (i j k : ℕ) → r j < r i + one (first i j) → r k < r j + one (first j k) → r k < r i + one (first i k)
        order i j k p q = go (first i j) refl (first j k) refl p q
          where
            go : (s : Bool) → first i j ≡ s → (t : Bool) → first j k ≡ t → r j < r i + one s → r k < r j + one t → r k < r i + one (first i k)
            go true e true f p q = rw (o.chain i j k e f) (omega arith)
            go true e false f p q = omega arith
            go false e t f p q = omega (arith, one_≤ t)

    -- before a member above a bound come fewer than are above it
    pub rank_above : (n i bound : ℕ) → i < n → bound < r i → rank (ahead first r) n i < count n (λ j. ltb bound (r j))
    rank_above n i bound h l =
        sumℕ_< n _ _ (λ j _. one_mono (ahead first r j i) (ltb bound (r j))
        (λ p. lt-ltb bound (r j) (omega (arith, ahead_means j i p, one_≤ (first j i))))) i h
        (rw (in_order.nobody i, lt-ltb bound (r i) l) (omega arith))

-- both rules are strict total orders
module _ (w : ℕ → ℕ) where
  pub earlier_order : Total (earlier_first w)
  earlier_order =
      record {
        nobody = λ i. le-ltb i i (omega arith);
        other = λ i j h. rw (lt-ltb i j h, le-ltb j i (omega arith));
        chain = λ i j k p q. lt-ltb i k (omega (arith, ltb-true i j p, ltb-true j k q));
      }

  pub larger_order : Total (larger_first w)
  larger_order = in_order (earlier_first w) w earlier_order

-- ---- the share
module _ (T n : ℕ) (w : ℕ → ℕ) (h : 0 < weight_sum n w) where
  -- T·W is what the whole parts take, and the remainders
  split : T * weight_sum n w ≡ sumℕ n (whole T n w) * weight_sum n w + sumℕ n (remainder T n w)
  split =
      sym (sumℕ_scale n T w)
      ∙ sumℕ_ext n _ _ (λ i _. sym (div-add-mod' (T * w i) (weight_sum n w)))
      ∙ sumℕ_plus n (λ i. whole T n w i * weight_sum n w) (remainder T n w)
      ∙ ap (λ (x : ℕ). x + sumℕ n (remainder T n w)) (sumℕ_times n (weight_sum n w) (whole T n w))

  -- what is left over, in Wths, is the remainders
  pub left_over_is : left_over T n w * weight_sum n w ≡ sumℕ n (remainder T n w)
  unfolding left_over
  left_over_is = taken_rest T _ _ _ h split

  -- what is left over is at most the number of members with a remainder
  pub left_overs_remain : left_over T n w ≤ count n (λ i. ltb 0 (remainder T n w i))
  left_overs_remain =
      le_of_mul-le-mul_right (rw (left_over_is, ← sumℕ_times n (weight_sum n w) (λ i. one (ltb 0 (remainder T n w i))))
      (sumℕ_≤ n _ _ (λ i _. part (remainder T n w i) (mod-lt (T * w i) h)))) h
    where
      part : (r : ℕ) → r < weight_sum n w → r ≤ one (ltb 0 r) * weight_sum n w
      part r l = go (ltb 0 r) refl
        where
          go : (t : Bool) → ltb 0 r ≡ t → r ≤ one t * weight_sum n w
          go true e = omega arith
          go false e = omega (arith, ltb-false 0 r e)

  pub whole_and_rest : sumℕ n (whole T n w) + left_over T n w ≡ T
  unfolding left_over
  whole_and_rest = omega (arith, taken_≤ T _ _ _ h split)

-- ---- the share, under a rule
module _ (T n : ℕ) (w : ℕ → ℕ) (first : ℕ → ℕ → Bool) (h : 0 < weight_sum n w) where
  pub amount_is : (i : ℕ) → amount T n w first i ≡ whole T n w i + one (gets_one T n w first i)
  unfolding amount
  amount_is i = rw (ne_eqb (weight_sum n w) 0 (λ e. omega arith))

  module _ (o : Total first) where
    -- as many get one more as are left over
    pub gets_one_count : count n (gets_one T n w first) ≡ left_over T n w
    unfolding gets_one
    gets_one_count =
        ranked (ahead first (remainder T n w)) (in_order first (remainder T n w) o) n (left_over T n w)
        (omega (arith, left_overs_remain T n w h, count_≤ n (λ i. ltb 0 (remainder T n w i))))

    -- the amounts add up to T
    pub share_adds_up : sumℕ n (amount T n w first) ≡ T
    share_adds_up =
        sumℕ_ext n _ _ (λ i _. amount_is i)
        ∙ sumℕ_plus n (whole T n w) (λ i. one (gets_one T n w first i))
        ∙ ap (λ (x : ℕ). sumℕ n (whole T n w) + x) gets_one_count
        ∙ whole_and_rest T n w h

  -- one more only where there is a remainder
  pub gets_one_remainder : (i : ℕ) → gets_one T n w first i ≡ true → 0 < remainder T n w i
  unfolding gets_one
  gets_one_remainder i g = go (ltb 0 (remainder T n w i)) refl
    where
      go : (t : Bool) → ltb 0 (remainder T n w i) ≡ t → 0 < remainder T n w i
      go true e = ltb-true 0 _ e
      go false e =
          let z = ltb-false 0 (remainder T n w i) e in
          let m : count n (λ j. ltb 0 (remainder T n w j)) ≤ rank (ahead first (remainder T n w)) n i = rank_below first (remainder T n w) n i 1 (omega arith) in
          absurd (omega (arith, left_overs_remain T n w h, ltb-true (rank (ahead first (remainder T n w)) n i) (left_over T n w) g))

  -- every amount is less than one unit away from its exact share T·weight/W
  pub amount_close : (i : ℕ) → (amount T n w first i * weight_sum n w < T * w i + weight_sum n w) ×
      (T * w i < amount T n w first i * weight_sum n w + weight_sum n w)
  amount_close i = rw (amount_is i) (go (gets_one T n w first i) refl)
    where
      go : (t : Bool) → gets_one T n w first i ≡ t → ((whole T n w i + one t) * weight_sum n w < T * w i + weight_sum n w) ×
          (T * w i < (whole T n w i + one t) * weight_sum n w + weight_sum n w)
      go true e = omega (arith, div-add-mod' (T * w i) (weight_sum n w), mod-lt (T * w i) h, add-mul (whole T n w i) 1 (weight_sum n w), gets_one_remainder i e)
      go false e = omega (arith, div-add-mod' (T * w i) (weight_sum n w), mod-lt (T * w i) h, add-mul (whole T n w i) 0 (weight_sum n w))

-- THE LEFT-OVERS ARE FEWER THAN THE MEMBERS WITH WEIGHT, in every share whose weights are not all 0 (02, R-10): each whole part is less than one short, and
-- a member without weight falls short by nothing. No rule that breaks ties stands in it, so it holds under each: one left-over cent a member is enough.
abbrev pub with_weight : ℕ → (ℕ → ℕ) → ℕ
with_weight n w = count n (λ i. ltb 0 (w i))

module _ (T n : ℕ) (w : ℕ → ℕ) (h : 0 < weight_sum n w) where
  pub left_overs_few : left_over T n w < with_weight n w
  left_overs_few =
      let k = some_term n w h in
      lt_of_mul-lt-mul_right (weight_sum n w) (rw (left_over_is T n w h, ← sumℕ_times n (weight_sum n w) (λ i. one (ltb 0 (w i))))
      (sumℕ_< n _ _ (λ i _. part i) k.0 k.1 (rw (lt-ltb 0 (w k.0) k.2) (omega (arith, mod-lt (T * w k.0) h)))))
    where
      part : (i : ℕ) → remainder T n w i ≤ one (ltb 0 (w i)) * weight_sum n w
      part i = go (ltb 0 (w i)) refl
        where
          go : (t : Bool) → ltb 0 (w i) ≡ t → remainder T n w i ≤ one t * weight_sum n w
          go true e = omega (arith, mod-lt (T * w i) h)
          go false e =
              let z : w i ≡ 0 = omega (arith, ltb-false 0 (w i) e) in
              rw (z, mul-zero T, zero-mod (weight_sum n w)) (omega arith)

-- ---- a cut among numbers: those above it are no more than L, those at it or above no fewer
module _ (r : ℕ → ℕ) (n L : ℕ) where
  pub record Cut (bound above : ℕ) : Type 0 where
    pub exact : above ≡ count n (λ j. ltb bound (r j))
    pub few : above ≤ L
    pub enough : L ≤ count n (λ j. leb bound (r j))

-- one more to a number above the cut, and to one at it whose place is among the L
abbrev pub one_more : ℕ → ℕ → ℕ → ℕ → Bool
one_more number bound place left = ltb bound number || eqb number bound && ltb place left

module _ (r w : ℕ → ℕ) (n L : ℕ) {bound above : ℕ} (c : Cut r n L bound above) where
  abbrev first : ℕ → ℕ → Bool
  first = earlier_first w

  -- so the cut says who is among the first L, equal ones by the earlier member
  pub by_cut : (i : ℕ) → i < n → ltb (rank (ahead first r) n i) L ≡ one_more (r i) bound (above + count i (λ j. eqb (r j) bound)) L
  by_cut i h = go (ltb bound (r i)) refl (eqb (r i) bound) refl
    where
      place : ℕ
      place = above + count i (λ j. eqb (r j) bound)

      go : (s : Bool) → ltb bound (r i) ≡ s → (t : Bool) → eqb (r i) bound ≡ t → ltb (rank (ahead first r) n i) L ≡ (s || t && ltb place L)
      go true e t f =
          lt-ltb (rank (ahead first r) n i) L (omega (arith, rank_above first r (earlier_order w) n i bound h (ltb-true bound (r i) e), c.exact, c.few))
      go false e true f =
          ap (λ (m : ℕ). ltb m L) (rank_at first r n i bound (eqb-true (r i) bound f)
          ∙ ap₂ (λ (x y : ℕ). x + y) (sym c.exact) (count_below n i (λ j. eqb (r j) bound) (omega arith)))
      go false e false f =
          le-ltb (rank (ahead first r) n i) L
          (omega (arith, rank_below first r n i bound (less (r i) bound (ltb-false bound (r i) e) (eqb-false (r i) bound f)), c.enough))
        where
          less : (x b : ℕ) → x ≤ b → (x ≡ b → ⊥) → x < b
          less x b l d = omega arith

-- ---- at any weights
pub not_zero : (m : ℕ) → eqb m 0 ≡ false → 0 < m
not_zero m e = omega (arith, eqb-false m 0 e)

module _ (T n : ℕ) (w : ℕ → ℕ) (first : ℕ → ℕ → Bool) where
  amount_none : eqb (weight_sum n w) 0 ≡ true → (i : ℕ) → amount T n w first i ≡ 0
  unfolding amount
  amount_none e i = rw e

  -- what is shared and what is unplaced add up to T
  pub placed_and_unplaced : Total first → sumℕ n (amount T n w first) + unplaced T n w ≡ T
  unfolding unplaced
  placed_and_unplaced o = go (eqb (weight_sum n w) 0) refl
    where
      go : (t : Bool) → eqb (weight_sum n w) 0 ≡ t → sumℕ n (amount T n w first) + cond t T 0 ≡ T
      go true e = omega (arith, sumℕ_ext n (amount T n w first) (λ i. 0) (λ i _. amount_none e i), sumℕ_zero n)
      go false e = omega (arith, share_adds_up T n w first (not_zero (weight_sum n w) e) o)

  -- no weight, no amount
  pub no_weight_no_amount : (i : ℕ) → w i ≡ 0 → amount T n w first i ≡ 0
  no_weight_no_amount i z = go (eqb (weight_sum n w) 0) refl
    where
      small : (a k x : ℕ) → x ≡ 0 → a * k < T * x + k → a ≡ 0
      small zero k x z l = refl
      small (suc a) k x z l = absurd (omega (arith, rw z at l, add-mul a 1 k))

      go : (t : Bool) → eqb (weight_sum n w) 0 ≡ t → amount T n w first i ≡ 0
      go true e = amount_none e i
      go false e = small (amount T n w first i) (weight_sum n w) (w i) z (amount_close T n w first (not_zero (weight_sum n w) e) i).0

-- ---- over a list of weights, under the rule that stands
module _ (T : ℕ) (ws : List ℕ) where
  abbrev rule : ℕ → ℕ → Bool
  rule = larger_first (weight_at ws)

  pub shared_in_all : 0 < weight_sum (length ws) (weight_at ws) → sumℕ (length ws) (share_of T ws) ≡ T
  shared_in_all h = share_adds_up T (length ws) (weight_at ws) rule h (larger_order (weight_at ws))

  pub shared_or_unplaced : sumℕ (length ws) (share_of T ws) + unplaced_of T ws ≡ T
  shared_or_unplaced = placed_and_unplaced T (length ws) (weight_at ws) rule (larger_order (weight_at ws))

  pub no_weight_no_share : (i : ℕ) → weight_at ws i ≡ 0 → share_of T ws i ≡ 0
  no_weight_no_share = no_weight_no_amount T (length ws) (weight_at ws) rule
