-- A unit's name is put together first, to know its length; the residual's is a word.
use borrow.Author.Rules.{rules}
use mathlib.Core.Path.{refl}
use Prim.Native.Nat.{◌<◌, ◌^◌}
use Rattle.rules.specs.Text.{text}
use Rattle.rules.specs.Listing.{standing_word}
use Rattle.pages.proofs.DrawLaws.{line_part, unit_short, short_of, ends_of}
use Rattle.pages.proofs.lines.put_member.Goals as goal
use Rattle.pages.proofs.lines.put_member.Goals.{In-Unit}

few : (k : In-Unit) → k.in-Unit.number < 2 ^ 16
few k = search rules

pub put_standing-requires : goal.put_standing-requires
put_standing-requires c =
    let e = line_part refl c.put_unit-start.ensures in
    (c.requires, short_of 13 e (unit_short c.in-Unit.number (few (goal.at.put_standing-requires c).In-Unit)))

pub returns-in-Unit : goal.returns-in-Unit
returns-in-Unit c =
    let e = line_part refl c.put_unit-start.ensures in
    record { put = rw c.in-Unit.is (ends_of (standing_word c.args.standing) e c.put_standing.ensures.put); value = c.put_standing.ensures.value }

pub returns-in-Residual : goal.returns-in-Residual
unfolding text
returns-in-Residual c =
    rw c.in-Residual.is c.put_standing-in-Residual.ensures
