-- The words are put together first, to know their length.
use borrow.Author.Rules.{rules}
use mathlib.Core.Path.{refl}
use Prim.Native.Nat.{◌<◌, ◌^◌}
use native.Mathlib.Omega.{arith}
use Rattle.pages.proofs.DrawLaws.{line_part, required_short, short_of, left_of}
use Rattle.pages.proofs.lines.put_requirement.Goals as goal
use Rattle.pages.proofs.lines.put_requirement.Goals.{Start}

narrow : (s : Start) → s.args.number < 2 ^ 16
narrow s = search rules

pub put_top-requires : goal.put_top-requires
put_top-requires c =
    let e = line_part refl c.put_required-start.ensures in
    (c.requires, omega (arith, short_of 20 e (required_short c.args.number c.args.direction (narrow (goal.at.put_top-requires c).Start))))

pub returns : goal.returns
returns c =
    let e = line_part refl c.put_required-start.ensures in
    record { put = left_of e c.put_top.ensures.put; value = c.put_top.ensures.value }
