-- The words hold a tally, and the tests follow in their order; or they hold none, and that is the answer.
use mathlib.Core.Path.{◌≡◌, refl, sym, ◌∙◌, ap}
use mathlib.Core.Bool.{Bool}
use Rattle.std.proofs.lemmas.Result.{err_from_is_err_and}
use Rattle.rules.specs.declared.Refusal.TheVariants.{WrongState, TooShort}
use Rattle.rules.specs.Refusals.{taken, unless}
use Rattle.dullavane.specs.Words.{handed}
use Rattle.dullavane.proofs.WordsLaws.{was_handed}
use Rattle.dullavane.specs.Asked.{asked_tally}
use Rattle.dullavane.proofs.AskedLaws.{asked_by, asked_unheld}
use Rattle.dullavane.proofs.asked.asked.Goals as goal
use Rattle.dullavane.proofs.asked.asked.Goals.{After-answer_turn, Start}

abbrev start : After-answer_turn → Start
start c = (goal.at.After-answer_turn c).Start

tested : (c : After-answer_turn) {x f m : Bool} → let a = (start c).args in c.answer_turn.result ≡ x → a.narrow ≡ f → a.long ≡ m →
    handed (unless x WrongState (unless f WrongState (unless m TooShort (taken c.in_ok-tally.tally)))) ≡
    handed (asked_tally a.words.now a.narrow a.long)
tested c e f m = sym (ap handed (asked_by _ _ _ (was_handed _ c.held.ensures c.in_ok-tally.was) (sym c.answer_turn.ensures ∙ e) f m))

pub returns-in_err-tally : goal.returns-in_err-tally
returns-in_err-tally c =
    let p = err_from_is_err_and c.from_residual.result c.from_residual.ensures.1 in
    rw (p.1, p.2) (sym (ap handed (asked_unheld _ _ _ (was_handed _ c.held.ensures c.in_err-tally.was))))

pub returns-then-not-answer_turn : goal.returns-then-not-answer_turn
returns-then-not-answer_turn c = tested (goal.at.returns-then-not-answer_turn c).After-answer_turn (c.if-not-answer_turn.true) refl refl

pub returns-then-not-narrow : goal.returns-then-not-narrow
returns-then-not-narrow c =
    tested (goal.at.returns-then-not-narrow c).After-answer_turn (c.if-not-answer_turn.false) (c.if-not-narrow.true) refl

pub returns-then-not-long : goal.returns-then-not-long
returns-then-not-long c =
    tested (goal.at.returns-then-not-long c).After-answer_turn (c.if-not-answer_turn.false) (c.if-not-narrow.false) (c.if-not-long.true)

pub returns : goal.returns
returns c =
    tested (goal.at.returns c).After-answer_turn (c.if-not-answer_turn.false) (c.if-not-narrow.false) (c.if-not-long.false)
