-- Taken, the next tally's words are put; refused, nothing is.
use Rattle.std.specs.Prelude.{Result, ⊤}
use Rattle.rules.specs.declared.Located.{Located}
use mathlib.Core.Path.{sym, ◌∙◌, ap}
use Rattle.dullavane.specs.Words.{taking_said, words_left}
use Rattle.dullavane.proofs.words.tell.Goals as goal

pub returns-in-Ok : goal.returns-in-Ok
returns-in-Ok c =
    let a = c.args in
    let e = sym c.in-Ok.is in
    (ap taking_said e, c.put_words.ensures ∙ ap (λ (k : Result ⊤ Located). words_left k a.step.tally a.words.now) e)

pub returns-in-Err : goal.returns-in-Err
returns-in-Err c =
    let a = c.args in
    let e = sym c.in-Err.is in
    (c.said.ensures ∙ ap taking_said e, ap (λ (k : Result ⊤ Located). words_left k a.step.tally a.words.now) e)
