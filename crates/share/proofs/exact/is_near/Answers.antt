-- The amount is compared with the whole part and, where a remainder is left, with one more; no other is near (ExactLaws).
use Rattle.std.proofs.Common.{◌≡◌, ℕ, ◌*◌, ◌<◌, ◌≤◌, Bool, true, false, eqb, ℤ, sym, refl, ◌∙◌, arith, w64, of_z, eqb-true}
use borrow.Author.Tests.{eqb-false}
use Rattle.integers.specs.Division.{Divided}
use Rattle.integers.proofs.Division.{quotient_≤}
use Rattle.integers.proofs.Casts.{same_bits, other_bits, elem}
use Rattle.rules.specs.Quantities.{total_limit}
use Rattle.rules.specs.Sheet.{near}
use Rattle.share.specs.declared.part.Rate.{Rate}
use Rattle.share.specs.Rates.{total_of}
use Rattle.share.specs.Weighing.{signed}
use Rattle.share.proofs.ExactLaws.{at_whole, one_above, not_near}
use Rattle.share.proofs.exact.is_near.Goals as goal
use Rattle.share.proofs.exact.is_near.Goals.{After-part_of-part, Else-amount-with_sign, Start}

module _ (c : After-part_of-part) where
  abbrev s : Start
  s = (goal.at.After-part_of-part c).Start

  abbrev rate : Rate
  rate = s.args.rate

  abbrev whole : ℕ
  whole = c.part_of-part.result.whole

  abbrev rest : ℕ
  rest = c.part_of-part.result.rest

  parted : Divided (total_of rate * s.args.weight) rate.sum whole rest
  parted = c.part_of-part.ensures

  small : whole ≤ total_limit
  small = omega (arith, quotient_≤ (total_of rate) s.args.weight s.requires.1 parted, s.requires.0.total)

-- the amount is not the whole part
module _ (c : Else-amount-with_sign) where
  abbrev p : After-part_of-part
  p = (goal.at.Else-amount-with_sign c).After-part_of-part

  other : (s p).args.amount ≡ signed (s p).args.source (whole p) → ⊥
  other e = other_bits w64 c.if-amount-with_sign.false (e ∙ sym c.with_sign.ensures)

pub with_sign-requires : goal.with_sign-requires
with_sign-requires c = omega (arith, small (goal.at.with_sign-requires c).After-part_of-part)

pub returns-then-amount-with_sign : goal.returns-then-amount-with_sign
returns-then-amount-with_sign c =
    sym (at_whole (s (goal.at.returns-then-amount-with_sign c).After-part_of-part).args.source (total_of (rate (goal.at.returns-then-amount-with_sign c).After-part_of-part)) (rate (goal.at.returns-then-amount-with_sign c).After-part_of-part).sum (s (goal.at.returns-then-amount-with_sign c).After-part_of-part).args.weight (s (goal.at.returns-then-amount-with_sign c).After-part_of-part).args.amount (parted (goal.at.returns-then-amount-with_sign c).After-part_of-part)
    (same_bits {w = w64} (s (goal.at.returns-then-amount-with_sign c).After-part_of-part).ranges.amount (elem w64 c.with_sign.result c.with_sign.type_inv) c.if-amount-with_sign.true
    ∙ c.with_sign.ensures))

pub returns-then-part-eq0 : goal.returns-then-part-eq0
returns-then-part-eq0 c =
    let a = p (goal.at.returns-then-part-eq0 c).Else-amount-with_sign in
    sym (not_near (s a).args.source (total_of (rate a)) (rate a).sum (s a).args.weight (s a).args.amount (parted a) (other (goal.at.returns-then-part-eq0 c).Else-amount-with_sign)
    (λ h _. omega (arith, c.if-part-eq0.true)))

pub returns : goal.returns
returns c =
    let a = p (goal.at.returns c).Else-amount-with_sign in
    let some : 0 < rest a = above (rest a) c.if-part-eq0.false in
    decide (s a).args.amount c.with_sign-2.result
    (near (total_of (rate a)) (rate a).sum (signed (s a).args.source (s a).args.weight) (s a).args.amount)
    (λ q. one_above (s a).args.source (total_of (rate a)) (rate a).sum (s a).args.weight (s a).args.amount (parted a) some
    (same_bits {w = w64} (s a).ranges.amount (elem w64 c.with_sign-2.result c.with_sign-2.type_inv) q ∙ c.with_sign-2.ensures))
    (λ q. not_near (s a).args.source (total_of (rate a)) (rate a).sum (s a).args.weight (s a).args.amount (parted a) (other (goal.at.returns c).Else-amount-with_sign)
    (λ h i. other_bits w64 q (i ∙ sym c.with_sign-2.ensures)))
  where
    above : (n : ℕ) → (n ≡ 0 → ⊥) → 0 < n
    above n h = omega arith

    decide : (x y : ℤ) (t : Bool) → (of_z w64 x ≡ of_z w64 y → t ≡ true) → ((of_z w64 x ≡ of_z w64 y → ⊥) → t ≡ false) → eqb (of_z w64 x) (of_z w64 y) ≡ t
    decide x y t same other = go (eqb (of_z w64 x) (of_z w64 y)) refl
      where
        go : (b : Bool) → eqb (of_z w64 x) (of_z w64 y) ≡ b → b ≡ t
        go true c = sym (same (eqb-true (of_z w64 x) (of_z w64 y) c))
        go false c = sym (other (eqb-false (of_z w64 x) (of_z w64 y) c))
