-- Four thirds of the limit are far within 64 bits, so what is below zero can be turned.
use mathlib.Core.Path.{◌≡◌}
use native.Mathlib.Omega.{arith}
use lib.IntN.{ℤ, pos, ◌-ℤ◌}
use lib.Signed.{◌≤ℤ◌, ◌<ℤ◌}
use mir.Syntax.{w64}
use mir.Val.{SFits, to_z, of_z}
use mir.Facts.{to_z-of_z}
use Rattle.integers.proofs.Pairs.{le!, lt?, v, ◌⊖◌}
use Rattle.integers.proofs.Bounds.{within_literal, within_difference, fits_within}
use Rattle.integers.proofs.Tests.{ltZ_true, ltZ_false}
use Rattle.integers.proofs.Casts.{to_unsigned, elem}
use Rattle.trend.proofs.text.put_megawatts.Goals as goal
use Rattle.trend.proofs.text.put_megawatts.Goals.{After-ten_thousandths-number}

module _ (a : After-ten_thousandths-number) where
  abbrev number : ℤ
  number = a.ten_thousandths-number.result

  held : SFits w64 number
  held = elem w64 number a.ten_thousandths-number.type_inv

  is : to_z w64 (of_z w64 number) ≡ number
  is = to_z-of_z held

  turned_held : SFits w64 (pos 0 -ℤ number)
  turned_held = fits_within tt (within_difference (within_literal {k = 0} {a = pos 0} tt) a.ten_thousandths-number.ensures.within)

  turned_rises : number <ℤ pos 0 → pos 0 ≤ℤ (pos 0 -ℤ number)
  turned_rises h = le! (v (pos 0)) (v (pos 0) ⊖ v number) (omega (arith, lt? (v number) (v (pos 0)) h))

pub overflow_sub-size : goal.overflow_sub-size
overflow_sub-size c = rw (is (goal.at.overflow_sub-size c).After-ten_thousandths-number) (turned_held (goal.at.overflow_sub-size c).After-ten_thousandths-number)

pub overflow_cast-size : goal.overflow_cast-size
overflow_cast-size c =
    let h : number (goal.at.overflow_cast-size c).After-ten_thousandths-number <ℤ pos 0 = ltZ_true (rw (is (goal.at.overflow_cast-size c).After-ten_thousandths-number) at c.if-number-lt0.true) in
    rw (is (goal.at.overflow_cast-size c).After-ten_thousandths-number, to_z-of_z (turned_held (goal.at.overflow_cast-size c).After-ten_thousandths-number)) (to_unsigned tt (turned_held (goal.at.overflow_cast-size c).After-ten_thousandths-number) (turned_rises (goal.at.overflow_cast-size c).After-ten_thousandths-number h))

pub overflow_cast-size-2 : goal.overflow_cast-size-2
overflow_cast-size-2 c =
    let h : pos 0 ≤ℤ number (goal.at.overflow_cast-size-2 c).After-ten_thousandths-number = ltZ_false (rw (is (goal.at.overflow_cast-size-2 c).After-ten_thousandths-number) at c.if-number-lt0.false) in
    rw (is (goal.at.overflow_cast-size-2 c).After-ten_thousandths-number) (to_unsigned tt (held (goal.at.overflow_cast-size-2 c).After-ten_thousandths-number) h)
