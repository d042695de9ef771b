-- Words and key are tested in their order; what is left is the step.
use Rattle.dullavane_panel.proofs.CalledLaws.{step_short, step_other, step_made}
use mathlib.Core.Path.{◌∙◌, ap}
use Rattle.rules.specs.declared.Page.{Page}
use Rattle.dullavane_panel.specs.Words.{with_page}
use Rattle.dullavane_panel.proofs.CalledLaws.{step_short, step_other, step_made, step_same}
use Rattle.dullavane_panel.proofs.dullavane_panel_step.Goals as goal

pub returns-then-page-lt-PAGE_WORDS : goal.returns-then-page-lt-PAGE_WORDS
returns-then-page-lt-PAGE_WORDS c = step_short c.if-page-lt-PAGE_WORDS.true c.refusal_number.ensures

pub returns-then-key-ge-KEYS : goal.returns-then-key-ge-KEYS
returns-then-key-ge-KEYS c = step_other c.if-page-lt-PAGE_WORDS.false c.if-key-ge-KEYS.true c.refusal_number-then-key-ge-KEYS.ensures

pub returns : goal.returns
returns c =
    let a = c.args in
    step_made c.if-page-lt-PAGE_WORDS.false c.if-key-ge-KEYS.false
    (c.put_page.ensures
    ∙ ap (λ (q : Page). with_page q a.page.now)
    (c.pressed.ensures ∙ step_same a.book a.requirement a.members c.page_in.ensures c.key_in.ensures))
