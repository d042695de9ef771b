-- Before a row the number of members is that of the rows passed, and not past the one that is asked for: the row with which it passes is that member's.
use mathlib.Core.Path.{◌≡◌, sym, ◌∙◌, ap}
use mathlib.Core.List.{[]}
use Prim.Native.Nat.{ℕ, ◌+◌}
use native.Mathlib.Omega.{arith}
use lib.ListN.{length}
use Rattle.kept.specs.KeptReport.{stands}
use Rattle.answer.specs.Asked.{tally_of, lent_members}
use Rattle.answer.specs.Report.{placed}
use Rattle.answer.proofs.ReportLaws.{up_to, up_to_more, up_to_few, counted_there, between_all, member_at, past_members}
use Rattle.answer.proofs.report.place_of.Goals as goal
use Rattle.answer.proofs.report.place_of.Goals.{After-counted-members, At-loop-at, Start}

abbrev L : After-counted-members → At-loop-at
L c = (goal.at.After-counted-members c).At-loop-at

abbrev S : At-loop-at → Start
S l = (goal.at.At-loop-at l).Start

more :
    (c : After-counted-members) → let l = L c in
    l.loop-at.members + c.counted-members.result ≡ length (up_to (stands (lent_members [] (S l).args.homes.now [])) (l.loop-at.at + 1))
more c =
    let l = L c in
    let p = stands (lent_members [] (S l).args.homes.now []) in
    ap (λ (n : ℕ). n + c.counted-members.result) l.loop-at.invariant.1 ∙ ap (λ (n : ℕ). length (up_to p l.loop-at.at) + n) c.counted-members.ensures
    ∙ sym (up_to_more p l.loop-at.at)

pub loop-at-init : goal.loop-at-init
loop-at-init c = let e = c.rows_before-before.ensures in (e.0, between_all e.1, e.2)

pub overflow_add-members : goal.overflow_add-members
overflow_add-members c = omega (arith, more (goal.at.overflow_add-members c).After-counted-members, up_to_few (stands (lent_members [] (S (L (goal.at.overflow_add-members c).After-counted-members)).args.homes.now [])) ((L (goal.at.overflow_add-members c).After-counted-members).loop-at.at + 1))

pub returns-then-row-members : goal.returns-then-row-members
returns-then-row-members c =
    let l = L (goal.at.returns-then-row-members c).After-counted-members in
    let a = (S l).args in
    let h = lent_members [] a.homes.now [] in
    let met = counted_there l.loop-at.members a.row (stands h l.loop-at.at) l.loop-at.invariant.2 (rw c.counted-members.ensures at c.if-row-members.true) in
    sym (ap placed (member_at (tally_of a.units 0 0) h a.row l.loop-at.at (omega arith) met.0 (met.1 ∙ l.loop-at.invariant.1)))

pub loop-at-preserved : goal.loop-at-preserved
loop-at-preserved c = (omega arith, more (goal.at.loop-at-preserved c).After-counted-members, c.if-row-members.false)

pub overflow_sub-row : goal.overflow_sub-row
overflow_sub-row c = c.loop-at.invariant.2

pub returns : goal.returns
returns c =
    let a = (S (goal.at.returns c).At-loop-at).args in
    let h = lent_members [] a.homes.now [] in
    let all : c.loop-at.at ≡ a.units = omega arith in
    c.region_place.ensures
    ∙ sym (ap placed (past_members (tally_of a.units 0 0) h a.row c.loop-at.members
    (c.loop-at.invariant.1 ∙ ap (λ (n : ℕ). length (up_to (stands h) n)) all) c.loop-at.invariant.2))
