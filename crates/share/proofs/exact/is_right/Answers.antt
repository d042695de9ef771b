-- By the performance's sign: on a side a member is right where its amount is near, and with no performance where the amount is 0.
use Rattle.std.proofs.Common.{◌≡◌, ℕ, ◌<◌, Bool, ℤ, pos, ◌<ℤ◌, sym, ap, ◌∙◌, arith, to_z-of_z}
use Rattle.integers.specs.Pairs.{gain, loss}
use Rattle.integers.proofs.Pairs.{lt_in}
use Rattle.integers.proofs.Tests.{ltZ_true}
use Rattle.rules.specs.declared.Side.{Side}
use Rattle.rules.specs.declared.Side.TheVariants.{Negative}
use Rattle.rules.specs.Sheet.{on, near, right}
use Rattle.rules.specs.Sheet as sheet
use Rattle.laws.proofs.SheetLaws.{right_near, signed_on}
use Rattle.share.specs.Rates.{total_of}
use Rattle.share.specs.Exact.{sums}
use Rattle.share.proofs.exact.is_right.Goals as goal
use Rattle.share.proofs.exact.is_right.Goals.{After-helpful_part, After-unhelpful_part, Start, Then-performance-gt0, Then-performance-lt0}

-- on a side
on_side : (s : Side) (T : ℕ) (W : Side → ℕ) (p f : ℤ) (w : ℕ) (r : Bool) → w ≡ on s p → 0 < on s p → r ≡ near T (W s) (sheet.signed s w) f →
    r ≡ right T W p f
on_side s T W p f w r e h n =
    n ∙ ap (λ (z : ℤ). near T (W s) z f) (ap (sheet.signed s) e ∙ signed_on s p h) ∙ sym (right_near s T W p f h)

module _ (c : After-helpful_part) where
  abbrev t : Then-performance-gt0
  t = (goal.at.After-helpful_part c).Then-performance-gt0

  abbrev s : Start
  s = (goal.at.Then-performance-gt0 t).Start

  weighs : c.helpful_part.result ≡ gain s.args.performance
  weighs = simp (to_z-of_z, s.ranges.performance) at c.helpful_part.ensures

  some : 0 < gain s.args.performance
  some =
      let h : pos 0 <ℤ s.args.performance = ltZ_true (simp (to_z-of_z, s.ranges.performance) at t.if-performance-gt0.true) in
      omega (arith, lt_in h)

module _ (c : After-unhelpful_part) where
  abbrev t' : Then-performance-lt0
  t' = (goal.at.After-unhelpful_part c).Then-performance-lt0

  abbrev s' : Start
  s' = (goal.at.Then-performance-lt0 t').Start

  weighs' : c.unhelpful_part.result ≡ loss s'.args.performance
  weighs' = simp (to_z-of_z, s'.ranges.performance) at c.unhelpful_part.ensures

  some' : 0 < loss s'.args.performance
  some' =
      let h : s'.args.performance <ℤ pos 0 = ltZ_true (simp (to_z-of_z, s'.ranges.performance) at t'.if-performance-lt0.true) in
      omega (arith, lt_in h)

pub returns-then-performance-lt0 : goal.returns-then-performance-lt0
returns-then-performance-lt0 c =
    let a = (s' (goal.at.returns-then-performance-lt0 c).After-unhelpful_part).args in
    on_side Negative (total_of a.up) (sums a.up a.down) a.performance a.amount c.unhelpful_part.result c.is_near-then-performance-lt0.result (weighs' (goal.at.returns-then-performance-lt0 c).After-unhelpful_part)
    (some' (goal.at.returns-then-performance-lt0 c).After-unhelpful_part) ((simp (to_z-of_z, (s' (goal.at.returns-then-performance-lt0 c).After-unhelpful_part).ranges.amount) at c.is_near-then-performance-lt0.ensures)
    ∙ ap (λ (T : ℕ). near T a.down.sum (sheet.signed Negative c.unhelpful_part.result) a.amount) (s' (goal.at.returns-then-performance-lt0 c).After-unhelpful_part).requires.2)
