-- OUR OWN FACTORS ARE POSSIBLE under every rule that puts members with equal remainders in a strict order, and so under either tie rule (02, R-12); and a
-- factor in an accepted sheet is at most one billionth from ours: both are the whole part or one more.
use mathlib.Core.Path.{◌≡◌, refl, sym, ◌∙◌, ap, subst}
use mathlib.Core.Bool.{Bool, true, false}
use mathlib.Core.List.{List, map}
use Prim.Native.Nat.{ℕ, zero, suc, ◌+◌, ◌*◌, ◌/◌, ◌%◌, ◌≤◌, ◌<◌}
use native.Mathlib.Omega.{arith}
use lib.Dec.{ltb}
use lib.IntN.{ℤ, pos, negsuc, neg_ℤ, nat_abs, ◌-ℤ◌}
use lib.ListN.{length, length-map}
use borrow.Author.Tests.{ltb-true, ltb-false, lt-ltb}
use Rattle.integers.specs.Pairs.{gain, loss}
use Rattle.integers.proofs.Pairs.{v, neg, ◌⊖◌, ring}
use Rattle.integers.specs.Sums.{one, sumℕ, when}
use Rattle.integers.proofs.Sums.{sum_ext, one_≤}
use Rattle.integers.proofs.Totals.{numbered_at, numbered_length}
use Rattle.integers.specs.Division.{Divided}
use Rattle.integers.proofs.Division.{divided}
use Rattle.rules.specs.declared.Side.{Side}
use Rattle.rules.specs.declared.Side.TheVariants.{Positive, Negative}
use Rattle.rules.specs.declared.Verdict.TheVariants.{Possible}
use Rattle.rules.specs.Quantities.{billion, most_members, weight_limit}
use Rattle.rules.specs.Refusals.{taken}
use Rattle.rules.specs.Share.{weight_at, share_by, gets_one, earlier_first, larger_first}
use Rattle.rules.specs.Sheet.{on, signed, near, number_at, side_total, side_sum, sheet_reply}
use Rattle.laws.proofs.ShareLaws.{amount_is, gets_one_remainder, share_adds_up, no_weight_no_amount, earlier_order, larger_order}
use Rattle.laws.proofs.SheetLaws.{WholeOrMore, near_whole, whole_near, sign_follows, signed_on}
use Rattle.sheets.specs.Possible.{SidePossible, PossibleSheet}
use Rattle.sheets.specs.Ours.{factor_by, sheet_by, Orders}
use Rattle.sheets.proofs.SidesLaws.{size_at, signed_sum}
use Rattle.sheets.proofs.Possible.{accepted_means, accepted_where, agrees_means, some_total}

-- a difference of two naturals that are at most one apart
little : (z : ℤ) (m n : ℕ) → gain z + n ≡ m + loss z → m ≤ n + 1 → n ≤ m + 1 → nat_abs z ≤ 1
little (pos k) m n e h j = omega arith
little (negsuc k) m n e h j = omega arith

-- ---- one member of a list of performances
module _ (rule : (ℕ → ℕ) → ℕ → ℕ → Bool) (ps : List ℤ) where
  abbrev share : Side → ℕ → ℕ
  share s i = share_by rule billion (map (on s) ps) i

  no_share : (s : Side) (i : ℕ) → on s (number_at ps i) ≡ 0 → share s i ≡ 0
  no_share s i z =
      no_weight_no_amount billion (length (map (on s) ps)) (weight_at (map (on s) ps)) (rule (weight_at (map (on s) ps))) i (size_at s ps i ∙ z)

  -- on its side a member's factor is its share, with the side's sign
  pub factor_on : (s : Side) (i : ℕ) → 0 < on s (number_at ps i) → factor_by rule ps i ≡ signed s (share s i)
  factor_on Positive i h =
      rw (no_share Negative i (other (number_at ps i) h)) (ring (v (pos (share Positive i)) ⊖ v (pos 0)) (v (pos (share Positive i))) (omega arith))
    where
      other : (p : ℤ) → 0 < gain p → loss p ≡ 0
      other (pos n) h = refl
      other (negsuc n) h = absurd (omega arith)
  factor_on Negative i h =
      rw (no_share Positive i (other (number_at ps i) h)) (ring (v (pos 0) ⊖ v (pos (share Negative i))) (neg (v (pos (share Negative i)))) (omega arith))
    where
      other : (p : ℤ) → 0 < loss p → gain p ≡ 0
      other (pos n) h = absurd (omega arith)
      other (negsuc n) h = refl

  -- on neither it is 0
  factor_none : (i : ℕ) → number_at ps i ≡ pos 0 → factor_by rule ps i ≡ pos 0
  factor_none i z = rw (no_share Positive i (ap gain z), no_share Negative i (ap loss z))

  -- it is the whole part or one more
  module _ (s : Side) (i : ℕ) (l : i < length ps) (h : 0 < on s (number_at ps i)) where
    abbrev W : ℕ
    W = side_total s ps

    abbrev w : ℕ
    w = weight_at (map (on s) ps) i

    some : 0 < W
    some = some_total s ps ps i l h

    pub divides : Divided (billion * w) W (billion * w / W) (billion * w % W)
    divides = divided (billion * w) W some

    pub ours_whole : WholeOrMore s (billion * w / W) (billion * w % W) (factor_by rule ps i)
    ours_whole =
        let ws = map (on s) ps in
        let first = rule (weight_at ws) in
        record {
          more = gets_one billion (length ws) (weight_at ws) first i;
          is = factor_on s i h ∙ ap (signed s) (amount_is billion (length ws) (weight_at ws) first some i);
          left = gets_one_remainder billion (length ws) (weight_at ws) first some i;
        }

    performance_is : signed s w ≡ number_at ps i
    performance_is = ap (signed s) (size_at s ps i) ∙ signed_on s (number_at ps i) h

    pub ours_near : near billion W (number_at ps i) (factor_by rule ps i) ≡ true
    ours_near =
        let o = ours_whole in
        subst (λ (z : ℤ). near billion W (number_at ps i) z ≡ true) (sym o.is)
        (subst (λ (z : ℤ). near billion W z (signed s (billion * w / W + one o.more)) ≡ true) performance_is
        (whole_near billion W w divides s o.more o.left))

    -- and so is every factor that is as near
    pub theirs_whole : (f : ℤ) → near billion W (number_at ps i) f ≡ true → WholeOrMore s (billion * w / W) (billion * w % W) f
    theirs_whole f e = near_whole billion W w divides s f (subst (λ (z : ℤ). near billion W z f ≡ true) (sym performance_is) e)

  -- ---- the sheet
  ours_at : (i : ℕ) → i < length ps → number_at (sheet_by rule ps) i ≡ factor_by rule ps i
  ours_at i l = numbered_at (λ i p. factor_by rule ps i) ps i (pos 0) (pos 0) l

  module _ (o : Orders rule ps) where
    side_summed : (s : Side) (i : ℕ) → i < length ps → 0 < on s (number_at ps i) → side_sum s ps (sheet_by rule ps) ≡ signed s billion
    side_summed s i l h =
        let ws = map (on s) ps in
        sum_ext (length ps) _ _ (λ j k. ap (when (ltb 0 (on s (number_at ps j)))) (ours_at j k) ∙ counts j (ltb 0 (on s (number_at ps j))) refl)
        ∙ signed_sum s (length ps) (share s)
        ∙ ap (λ (n : ℕ). signed s (sumℕ n (share s))) (sym (length-map ps (on s)))
        ∙ ap (signed s) (share_adds_up billion (length ws) (weight_at ws) (rule (weight_at ws)) (some s i l h) (o.total s))
      where
        nothing : (s : Side) → pos 0 ≡ signed s 0
        nothing Positive = refl
        nothing Negative = refl

        counts : (j : ℕ) (t : Bool) → ltb 0 (on s (number_at ps j)) ≡ t → when t (factor_by rule ps j) ≡ signed s (share s j)
        counts j true e = factor_on s j (ltb-true 0 (on s (number_at ps j)) e)
        counts j false e = nothing s ∙ ap (signed s) (sym (no_share s j (omega (arith, ltb-false 0 (on s (number_at ps j)) e))))

    ours_side : (s : Side) → SidePossible s ps (sheet_by rule ps)
    ours_side s =
        record {
          near = λ i l h. ltb-true _ _ (near_at i l h);
          sign = λ i l h. agrees_means s _ (sign_follows s billion (side_total s ps) (number_at ps i) (number_at (sheet_by rule ps) i) h (near_at i l h));
          summed = side_summed s;
        }
      where
        near_at : (i : ℕ) → i < length ps → 0 < on s (number_at ps i) → near billion (side_total s ps) (number_at ps i) (number_at (sheet_by rule ps) i) ≡ true
        near_at i l h = subst (λ (z : ℤ). near billion (side_total s ps) (number_at ps i) z ≡ true) (sym (ours_at i l)) (ours_near s i l h)

    pub ours_possible : length ps ≤ most_members → ((s : Side) → side_total s ps ≤ weight_limit) → sheet_reply ps (sheet_by rule ps) ≡ taken Possible
    ours_possible few fits =
        accepted_where ps (sheet_by rule ps)
        (record { few = omega (arith, numbered_length (λ i p. factor_by rule ps i) ps); long = sym (numbered_length _ ps); fits = fits })
        (record {
          positive = ours_side Positive;
          negative = ours_side Negative;
          nothing = λ i l z. ours_at i l ∙ factor_none i z;
        })

  -- ---- A FACTOR IN AN ACCEPTED SHEET IS AT MOST ONE BILLIONTH FROM OURS, under any rule
  pub one_apart : (fs : List ℤ) → sheet_reply ps fs ≡ taken Possible → (i : ℕ) → i < length ps → nat_abs (number_at fs i -ℤ factor_by rule ps i) ≤ 1
  one_apart fs e i l = by_sign (number_at ps i) refl
    where
      p : PossibleSheet ps fs
      p = accepted_means ps fs e

      close : (s : Side) (q : ℕ) (a b : Bool) → nat_abs (signed s (q + one a) -ℤ signed s (q + one b)) ≤ 1
      close Positive q a b =
          little (pos (q + one a) -ℤ pos (q + one b)) (q + one a) (q + one b) (omega (arith, (v (pos (q + one a)) ⊖ v (pos (q + one b))).is))
          (omega (arith, one_≤ a)) (omega (arith, one_≤ b))
      close Negative q a b =
          little (neg_ℤ (pos (q + one a)) -ℤ neg_ℤ (pos (q + one b))) (q + one b) (q + one a)
          (omega (arith, (neg (v (pos (q + one a))) ⊖ neg (v (pos (q + one b)))).is)) (omega (arith, one_≤ b)) (omega (arith, one_≤ a))

      on_side : (s : Side) → SidePossible s ps fs → 0 < on s (number_at ps i) → nat_abs (number_at fs i -ℤ factor_by rule ps i) ≤ 1
      on_side s sp h =
          let theirs = theirs_whole s i l h (number_at fs i) (lt-ltb _ _ (sp.near i l h)) in
          let ours = ours_whole s i l h in
          rw (theirs.is, ours.is) (close s (billion * w s i l h / W s i l h) theirs.more ours.more)

      by_sign : (z : ℤ) → number_at ps i ≡ z → nat_abs (number_at fs i -ℤ factor_by rule ps i) ≤ 1
      by_sign (pos zero) z = rw (p.nothing i l z, factor_none i z) (omega arith)
      by_sign (pos (suc n)) z = on_side Positive p.positive (rw z (omega arith))
      by_sign (negsuc n) z = on_side Negative p.negative (rw z (omega arith))

-- ---- either tie rule is such a rule
pub larger_orders : (ps : List ℤ) → Orders larger_first ps
larger_orders ps = record { total = λ s. larger_order (weight_at (map (on s) ps)) }

pub earlier_orders : (ps : List ℤ) → Orders earlier_first ps
earlier_orders ps = record { total = λ s. earlier_order (weight_at (map (on s) ps)) }

-- so our factors are accepted under either, for every list of performances within the limits
pub either_possible : (ps : List ℤ) → length ps ≤ most_members → ((s : Side) → side_total s ps ≤ weight_limit) →
    (sheet_reply ps (sheet_by larger_first ps) ≡ taken Possible) × (sheet_reply ps (sheet_by earlier_first ps) ≡ taken Possible)
either_possible ps few fits = (ours_possible larger_first ps (larger_orders ps) few fits, ours_possible earlier_first ps (earlier_orders ps) few fits)
