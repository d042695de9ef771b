-- No week passed is wrong, and what is found so far is the judgement of the members passed; the first wrong week decides.
use mathlib.Core.Path.{sym, ◌∙◌, ap}
use native.Mathlib.Omega.{arith}
use Rattle.std.specs.Prelude.{Err}
use Rattle.integers.proofs.Sums.{every_at}
use Rattle.weeks.proofs.Rosters.{judged_none, judged_more, judged_low, judged_wrong}
use Rattle.weeks.proofs.roster.judge.Goals as goal
use Rattle.weeks.proofs.roster.judge.Goals.{in-Ok, in-Err+in-AverageTooLow}

pub loop-j-init : goal.loop-j-init
loop-j-init c =
    let a = c.args in
    (omega arith, judged_none a.intervals a.whose.now a.performances.now a.live.now)

pub returns-in_default : goal.returns-in_default
returns-in_default c =
    let a = c.args in
    let fine = every_at _ _ c.requires.1.all c.loop-j.j c.loop-j-test.true in
    judged_wrong a.intervals a.whose.now a.performances.now a.live.now c.loop-j.j fine c.loop-j-test.true
    (sym c.member_week-told.ensures ∙ c.in-Err.is) c.in_default.not-AverageTooLow

pub loop-j-preserved : goal.loop-j-preserved
loop-j-preserved c =
    let a = c.args in
    let told = sym c.member_week-told.ensures in
    let fine = every_at _ _ c.requires.1.all c.loop-j.j c.loop-j-test.true in (
      omega arith,
      elim c.match-told.branch [
        | in-Ok w ↦
            rw w.found-is (judged_more a.intervals a.whose.now a.performances.now a.live.now c.loop-j.j fine c.loop-j.invariant.1 (told ∙ w.in-Ok.is))
        | in-Err+in-AverageTooLow w ↦
            rw (w.found-is, w.in-AverageTooLow.is) (judged_low a.intervals a.whose.now a.performances.now a.live.now c.loop-j.j fine c.loop-j.invariant.1
            (told ∙ w.in-Err.is ∙ ap Err w.in-AverageTooLow.is))
      ],
    )
