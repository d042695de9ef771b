-- The laws of the set by shift and mask, then the row.
use mathlib.Core.Path.{sym, ◌∙◌, ap}
use mathlib.Core.Bool.{not}
use Rattle.laws.proofs.RecordLaws.{set_high, set_low}
use borrow.Author.Tests.{eq-eqb, ne_eqb}
use Rattle.answer.proofs.roster.asked_in_range.Goals as goal

pub returns-then-set-ne0 : goal.returns-then-set-ne0
returns-then-set-ne0 c = rw (set_high c.args.set c.if-set-ne0.true)

pub returns-then-set-eq0 : goal.returns-then-set-eq0
returns-then-set-eq0 c =
    let s = c.args.set in
    rw (sym (set_low s c.if-set-ne0.false) ∙ ap not (eq-eqb _ 0 c.if-set-eq0.true))

pub returns : goal.returns
returns c =
    let s = c.args.set in
    rw (sym (set_low s c.if-set-ne0.false) ∙ ap not (ne_eqb _ 0 c.if-set-eq0.false))
