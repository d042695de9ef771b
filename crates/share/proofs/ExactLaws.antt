-- Laws of the definitions in specs/Exact.antt: how an amount compares with the whole part, and what the ratios' own W makes no difference to.
use Rattle.std.proofs.Common.{◌≡◌, ℕ, zero, suc, ◌+◌, ◌*◌, ◌<◌, ◌≤◌, Bool, true, false, List, map, length, ℤ, pos, negsuc, sym, refl, ap, ◌∙◌, true≢false, add-one, arith}
use Rattle.std.specs.Prelude.{Option, None, Some, Result}
use lib.ListN.{length-map, get_or-map}
use Rattle.integers.specs.Pairs.{gain, loss}
use Rattle.integers.specs.Division.{Divided}
use Rattle.integers.specs.Sums.{one, every}
use Rattle.integers.proofs.Sums.{sumℕ_term, none_wrong, first_wrong_is}
use Rattle.rules.specs.declared.Refusal.{Refusal}
use Rattle.rules.specs.declared.Side.{Side}
use Rattle.rules.specs.declared.Side.TheVariants.{Positive, Negative}
use Rattle.rules.specs.Share.{weight_at}
use Rattle.rules.specs.Sheet.{on, near, right, number_at, right_at, side_total}
use Rattle.rules.specs.Sheet as sheet
use Rattle.laws.proofs.SheetLaws.{WholeOrMore, near_whole, whole_near}
use Rattle.share.specs.declared.part.Rate.{Rate}
use Rattle.share.specs.declared.weights.Source.{Source}
use Rattle.share.specs.declared.weights.Source.TheVariants.{Lent, Helpful, Unhelpful}
use Rattle.share.specs.Rates.{total_of}
use Rattle.share.specs.Weighing.{signed}
use Rattle.share.specs.Exact.{JudgedPromise, Sided, looked, sums}

-- any two outcomes are equal
pub first_wrong_only : {T : ℕ} {ps amounts : List ℤ} {r r' : Result (Option ℕ) Refusal} → JudgedPromise T ps amounts r → JudgedPromise T ps amounts r' → r ≡ r'
first_wrong_only a b = a.reply ∙ sym b.reply

pub side_sum_only : {n r r' : ℕ} → r ≡ n → r' ≡ n → r ≡ r'
side_sum_only a b = a ∙ sym b

-- ---- an amount beside the whole part
abbrev side_of : Source → Side
side_of Lent = Positive
side_of Helpful = Positive
side_of Unhelpful = Negative

signed_side : (source : Source) (a : ℕ) → signed source a ≡ sheet.signed (side_of source) a
signed_side Lent a = refl
signed_side Helpful a = refl
signed_side Unhelpful a = refl

module _ (source : Source) (T W w : ℕ) (f : ℤ) {q r : ℕ} (d : Divided (T * w) W q r) where
  -- is it so much more than the whole part?
  is_near : (t : Bool) → (t ≡ true → 0 < r) → f ≡ signed source (q + one t) → near T W (signed source w) f ≡ true
  is_near t h e =
      rw (e, signed_side source w, signed_side source (q + one t)) (whole_near T W w d (side_of source) t h)

  pub at_whole : f ≡ signed source q → near T W (signed source w) f ≡ true
  at_whole e = is_near false (λ i. absurd (true≢false (sym i))) (e ∙ ap (signed source) (omega arith))

  pub one_above : 0 < r → f ≡ signed source (q + 1) → near T W (signed source w) f ≡ true
  one_above h e = is_near true (λ _. h) e

  only : near T W (signed source w) f ≡ true → WholeOrMore (side_of source) q r f
  only e = near_whole T W w d (side_of source) f (rw (signed_side source w) at e)

  pub not_near : (f ≡ signed source q → ⊥) → (0 < r → f ≡ signed source (q + 1) → ⊥) → near T W (signed source w) f ≡ false
  not_near h k = go (near T W (signed source w) f) refl
    where
      go : (t : Bool) → near T W (signed source w) f ≡ t → t ≡ false
      go false e = refl
      go true e = absurd (which (only e).more (only e).is (only e).left)
        where
          which : (t : Bool) → f ≡ sheet.signed (side_of source) (q + one t) → (t ≡ true → 0 < r) → ⊥
          which true i l = k (l refl) (i ∙ sym (signed_side source (q + 1)))
          which false i l = h (i ∙ sym (signed_side source (q + 0)) ∙ ap (signed source) (omega arith))

-- ---- a member: only the W of its own side makes a difference
pub right_by : (T : ℕ) (U W : Side → ℕ) (p f : ℤ) → ((s : Side) → 0 < on s p → U s ≡ W s) → right T U p f ≡ right T W p f
right_by T U W (pos zero) f h = refl
right_by T U W (pos (suc n)) f h = rw (h Positive (omega arith))
right_by T U W (negsuc n) f h = rw (h Negative (omega arith))

module _ (ps : List ℤ) (i : ℕ) (l : i < length ps) where
  -- a member's size is at most its side's total
  pub in_total : (s : Side) → on s (number_at ps i) ≤ side_total s ps
  in_total s =
      rw (← weight s) (sumℕ_term (length (map (on s) ps)) (weight_at (map (on s) ps)) i (rw (length-map ps (on s)) l))
    where
      weight : (s : Side) → weight_at (map (on s) ps) i ≡ on s (number_at ps i)
      weight Positive = get_or-map (on Positive) ps i (pos 0)
      weight Negative = get_or-map (on Negative) ps i (pos 0)

  module _ {up down : Rate} (h : Sided up down ps) where
    sum_of_side : (s : Side) → 0 < on s (number_at ps i) → sums up down s ≡ side_total s ps
    sum_of_side Positive k = h.above.sum (omega (arith, in_total Positive))
    sum_of_side Negative k = h.below.sum (omega (arith, in_total Negative))

    pub as_right : (fs : List ℤ) → right (total_of up) (sums up down) (number_at ps i) (number_at fs i) ≡ right_at (total_of up) ps fs i
    as_right fs = right_by (total_of up) (sums up down) (λ s. side_total s ps) (number_at ps i) (number_at fs i) sum_of_side

    pub fits_up : gain (number_at ps i) ≤ up.sum
    fits_up = go (gain (number_at ps i)) refl
      where
        go : (n : ℕ) → gain (number_at ps i) ≡ n → n ≤ up.sum
        go zero e = omega arith
        go (suc n) e = let s : up.sum ≡ side_total Positive ps = sum_of_side Positive (omega arith) in omega (arith, in_total Positive)

    pub fits_down : loss (number_at ps i) ≤ down.sum
    fits_down = go (loss (number_at ps i)) refl
      where
        go : (n : ℕ) → loss (number_at ps i) ≡ n → n ≤ down.sum
        go zero e = omega arith
        go (suc n) e = let s : down.sum ≡ side_total Negative ps = sum_of_side Negative (omega arith) in omega (arith, in_total Negative)

-- ---- what is found
module _ (T : ℕ) (ps fs : List ℤ) where
  pub found_wrong : (i : ℕ) → i < length ps → every i (right_at T ps fs) ≡ true → right_at T ps fs i ≡ false → Some (i + 1) ≡ looked T ps fs
  found_wrong i l e f = rw (add-one, first_wrong_is (right_at T ps fs) (length ps) i l e f)

  pub found_right : every (length ps) (right_at T ps fs) ≡ true → None ≡ looked T ps fs
  found_right e = rw (none_wrong (right_at T ps fs) (length ps) e)
