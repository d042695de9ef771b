-- Fewer than eight words are told first; then what the table of contents starts is told.
use Rattle.std.specs.Prelude.{Ok, Err}
use mathlib.Core.Path.{refl, sym, ◌∙◌, ap}
use Rattle.dullavane.specs.Words.{said}
use Rattle.dullavane.proofs.Promises.{contents_short, contents_opened}
use Rattle.dullavane.proofs.dullavane_contents.Goals as goal

pub returns-then-tally-lt-TALLY_WORDS : goal.returns-then-tally-lt-TALLY_WORDS
returns-then-tally-lt-TALLY_WORDS c = contents_short _ _ c.if-tally-lt-TALLY_WORDS.true (c.said.ensures ∙ ap said c.locate.ensures)

pub returns-in-Ok : goal.returns-in-Ok
returns-in-Ok c =
    contents_opened _ _ c.if-tally-lt-TALLY_WORDS.false (Ok c.in-Ok.fresh) (sym c.in-Ok.is ∙ c.contents-opened.ensures.reply) refl
    c.put_words.ensures

pub returns-in-Err : goal.returns-in-Err
returns-in-Err c =
    contents_opened _ _ c.if-tally-lt-TALLY_WORDS.false (Err c.in-Err.refusal) (sym c.in-Err.is ∙ c.contents-opened.ensures.reply)
    (c.said-in-Err.ensures ∙ ap said c.locate-in-Err.ensures) refl
