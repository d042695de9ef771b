-- Two signed tests, against the negative of the limit and against the limit with the mark of a dropped point, tell whether FM is within it.
use Rattle.std.proofs.Common.{not, pos, sym, ap, ◌∙◌, arith, to_z-of_z}
use Rattle.integers.proofs.Tests.{leZ_not}
use Rattle.interval.proofs.HeldLaws.{held_below, held_above}
use Rattle.units.proofs.range.past_limit.Goals as goal

pub returns-then-measure-most : goal.returns-then-measure-most
returns-then-measure-most c =
    (omega arith, sym (held_below c.args.measure (rw (to_z-of_z c.ranges.measure) at c.if-measure-most.true)))

pub returns-then-measure-gt-MARKED_LIMIT : goal.returns-then-measure-gt-MARKED_LIMIT
returns-then-measure-gt-MARKED_LIMIT c =
    let x = c.args.measure in
    let e = rw (to_z-of_z c.ranges.measure) at c.if-measure-most.false in
    let f = rw (to_z-of_z c.ranges.measure) at c.if-measure-gt-MARKED_LIMIT.true in
    (omega arith, sym (ap not f) ∙ sym (leZ_not (pos 15_000_001) x) ∙ held_above x e)

pub returns : goal.returns
returns c =
    let x = c.args.measure in
    let e = rw (to_z-of_z c.ranges.measure) at c.if-measure-most.false in
    let f = rw (to_z-of_z c.ranges.measure) at c.if-measure-gt-MARKED_LIMIT.false in
    (omega arith, sym (ap not f) ∙ sym (leZ_not (pos 15_000_001) x) ∙ held_above x e)
