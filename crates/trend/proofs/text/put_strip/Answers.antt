-- Each deviation is of the span, so its level is one of the eight.
use mathlib.Core.Path.{◌≡◌}
use native.Mathlib.Omega.{arith}
use lib.IntN.{ℤ, pos}
use lib.ListN.{get_or}
use mir.Syntax.{w64}
use mir.Val.{to_z, of_z}
use mir.Facts.{to_z-of_z}
use Rattle.integers.proofs.Casts.{elem}
use Rattle.trend.proofs.text.put_strip.Goals as goal

pub level-requires : goal.level-requires
level-requires c =
    let l = c.loop-deviation in
    let d : ℤ = get_or c.args.deviations.now l.deviation-index (pos 0) in
    let read : to_z w64 (of_z w64 d) ≡ d = to_z-of_z (elem w64 d c.deviation-1.given) in
    rw (to_z-of_z c.ranges.lowest, to_z-of_z c.ranges.highest, read) (c.requires l.deviation-index (omega arith))
