-- None of the units passed has the group. A group of 16 bits that is not 0 is told from a row's number as it is: one that does not fit its field is another.
use mathlib.Core.Path.{◌≡◌, refl, sym, ◌∙◌, ap}
use Prim.Native.Nat.{◌+◌, ◌*◌}
use native.Mathlib.Omega.{arith}
use lib.IntN.{pos}
use lib.ListN.{get_or}
use borrow.Author.Rules.{sfits_of}
use Rattle.writer.specs.Judged.{new_before}
use Rattle.writer.proofs.JudgedLaws.{not_new, new_more, same_word, other_word}
use Rattle.writer.proofs.group.new_group.Goals as goal

pub overflow_cast-wanted : goal.overflow_cast-wanted
overflow_cast-wanted c = record { sfits = omega (arith, c.ranges.group.fits) }

pub loop-i-init : goal.loop-i-init
unfolding new_before
loop-i-init c = (omega arith, refl)

pub returns-then-rows-i : goal.returns-then-rows-i
returns-then-rows-i c =
    let rows = c.args.rows.now in
    let i = c.loop-i.i in
    let x = get_or rows (12 * i + 5) (pos 0) in
    let same = same_word c.args.group x c.ranges.group.fits (sfits_of c.t11-1.given) c.if-rows-i.true in
    sym (not_new c.args.group rows i c.args.unit c.loop-i-test.true same)

pub loop-i-preserved : goal.loop-i-preserved
loop-i-preserved c =
    let rows = c.args.rows.now in
    let i = c.loop-i.i in
    let x = get_or rows (12 * i + 5) (pos 0) in
    (omega arith, new_more c.args.group rows i c.loop-i.invariant.1 (other_word c.args.group x c.requires.0 c.if-rows-i.false))

pub returns : goal.returns
returns c =
    let all : c.args.unit ≡ c.loop-i.i = omega arith in
    sym (ap (new_before c.args.group c.args.rows.now) all ∙ c.loop-i.invariant.1)
