-- Without room for the verdict that is told; else what the sheet comes to.
use Rattle.dullavane.proofs.VerdictsLaws.{sheet_no_room, sheet_told}
use Rattle.dullavane.proofs.dullavane_sheet.Goals as goal

pub returns-then-verdict-lt-VERDICT_WORDS : goal.returns-then-verdict-lt-VERDICT_WORDS
returns-then-verdict-lt-VERDICT_WORDS c =
    let a = c.args in
    sheet_no_room a.performances.now a.factors.now a.verdict.now c.if-verdict-lt-VERDICT_WORDS.true c.refusal_number.ensures

pub returns : goal.returns
returns c =
    let a = c.args in
    sheet_told a.performances.now a.factors.now a.verdict.now c.if-verdict-lt-VERDICT_WORDS.false c.sheet.result c.sheet.ensures c.tell_verdict.ensures.0
    c.tell_verdict.ensures.1
