-- The size is that of a number of 64 bits, so that 2/15 of it is well within them.
use mathlib.Core.Path.{◌≡◌, ap, ◌∙◌}
use Prim.Native.Nat.{ℕ, ◌<◌, ◌^◌}
use native.Mathlib.Omega.{arith}
use lib.IntN.{pos, nat_abs, ◌-ℤ◌}
use mir.Syntax.{w64}
use mir.Val.{to_z, SFits}
use mir.Facts.{to_z-of_z}
use Rattle.integers.proofs.Tests.{ltZ_true, ltZ_false}
use Rattle.integers.proofs.Casts.{toZ_small, turned_fits}
use Rattle.report_row.proofs.BillionthsLaws.{near, billionths_above, billionths_turned}
use Rattle.report_row.proofs.columns.in_billionths.Goals as goal
use Rattle.report_row.proofs.columns.in_billionths.Goals.{After-size-whole}

module _ (c : After-size-whole) where
  small : near c.size-whole.result < 2 ^ 63
  small = omega (arith, c.size-whole.type_inv)

  sized : c.size-whole.result ≡ nat_abs c.args.performance
  sized = simp (to_z-of_z, c.ranges.performance) at c.size-whole.ensures

  read : to_z w64 (near c.size-whole.result) ≡ pos (near (nat_abs c.args.performance))
  read = toZ_small w64 small ∙ ap (λ (k : ℕ). pos (near k)) sized

  fits : SFits w64 (pos 0 -ℤ to_z w64 (near c.size-whole.result))
  fits = rw (toZ_small w64 small) (turned_fits w64 (near c.size-whole.result) small)

pub overflow_sub-result : goal.overflow_sub-result
overflow_sub-result c = fits (goal.at.overflow_sub-result c).After-size-whole

pub returns-then-performance-lt0 : goal.returns-then-performance-lt0
returns-then-performance-lt0 c =
    to_z-of_z (fits (goal.at.returns-then-performance-lt0 c).After-size-whole) ∙ rw (read (goal.at.returns-then-performance-lt0 c).After-size-whole) (billionths_turned c.args.performance (ltZ_true (simp (to_z-of_z, c.ranges.performance) at c.if-performance-lt0.true)))

pub returns : goal.returns
returns c =
    read (goal.at.returns c).After-size-whole ∙ billionths_above c.args.performance (ltZ_false (simp (to_z-of_z, c.ranges.performance) at c.if-performance-lt0.false))
