-- Before each sixteen no unit passed is of the group; four of which one is end the loop.
use Rattle.std.proofs.Common.{◌≡◌, ℕ, ◌+◌, Bool, sym, ◌∙◌, arith}
use Rattle.integers.proofs.Sums.{every_none}
use Rattle.units.specs.Groups.{not_of}
use Rattle.units.proofs.GroupsLaws.{every_part, part_fails}
use Rattle.units.proofs.group.is_new.Goals as goal
use Rattle.units.proofs.group.is_new.Goals.{After-none_of_four, At-loop-at, Start}

abbrev L : After-none_of_four → At-loop-at
L c = (goal.at.After-none_of_four c).At-loop-at

abbrev S : At-loop-at → Start
S l = (goal.at.At-loop-at l).Start

abbrev tests : At-loop-at → ℕ → Bool
tests l = not_of (S l).args.group (S l).args.groups.now

pub loop-at-init : goal.loop-at-init
loop-at-init c = (omega arith, every_none _)

pub returns-then-not-none_of_four : goal.returns-then-not-none_of_four
returns-then-not-none_of_four c =
    let l = L (goal.at.returns-then-not-none_of_four c).After-none_of_four in
    sym (part_fails (tests l) l.loop-at.at 4 (S l).args.row (omega arith) (sym c.none_of_four.ensures ∙ c.if-not-none_of_four.true))

pub returns-then-not-none_of_four-2 : goal.returns-then-not-none_of_four-2
returns-then-not-none_of_four-2 c =
    let l = L (goal.at.returns-then-not-none_of_four-2 c).After-none_of_four in
    sym (part_fails (tests l) (l.loop-at.at + 4) 4 (S l).args.row (omega arith) (sym c.none_of_four-in-loop-at.ensures ∙ c.if-not-none_of_four-2.true))

pub returns-then-not-none_of_four-3 : goal.returns-then-not-none_of_four-3
returns-then-not-none_of_four-3 c =
    let l = L (goal.at.returns-then-not-none_of_four-3 c).After-none_of_four in
    sym (part_fails (tests l) (l.loop-at.at + 8) 4 (S l).args.row (omega arith) (sym c.none_of_four-in-loop-at-2.ensures ∙ c.if-not-none_of_four-3.true))

pub returns-then-not-none_of_four-4 : goal.returns-then-not-none_of_four-4
returns-then-not-none_of_four-4 c =
    let l = L (goal.at.returns-then-not-none_of_four-4 c).After-none_of_four in
    sym (part_fails (tests l) (l.loop-at.at + 12) 4 (S l).args.row (omega arith) (sym c.none_of_four-in-loop-at-3.ensures ∙ c.if-not-none_of_four-4.true))

pub loop-at-preserved : goal.loop-at-preserved
loop-at-preserved c =
    let l = L (goal.at.loop-at-preserved c).After-none_of_four in
    let p = tests l in
    let at = l.loop-at.at in
    let one = every_part p at 4 l.loop-at.invariant.1 (sym c.none_of_four.ensures ∙ c.if-not-none_of_four.false) in
    let two = every_part p (at + 4) 4 one (sym c.none_of_four-in-loop-at.ensures ∙ c.if-not-none_of_four-2.false) in
    let eight : at + 4 + 4 ≡ at + 8 = omega arith in
    let three = every_part p (at + 8) 4 (rw eight at two) (sym c.none_of_four-in-loop-at-2.ensures ∙ c.if-not-none_of_four-3.false) in
    let twelve : at + 8 + 4 ≡ at + 12 = omega arith in
    let four = every_part p (at + 12) 4 (rw twelve at three) (sym c.none_of_four-in-loop-at-3.ensures ∙ c.if-not-none_of_four-4.false) in
    let all : at + 12 + 4 ≡ at + 16 = omega arith in
    (omega arith, rw all at four)

pub none_from-requires : goal.none_from-requires
none_from-requires c = (omega arith, omega arith, c.loop-at.invariant.1)

pub returns : goal.returns
returns c = c.none_from.ensures
