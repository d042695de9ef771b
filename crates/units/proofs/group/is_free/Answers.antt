-- Each branch settles one of the three ways.
use Rattle.std.proofs.Common.{sym, ◌∙◌, eq-eqb, ne_eqb}
use Rattle.units.proofs.group.is_free.Goals as goal

pub returns-then-group-eq0 : goal.returns-then-group-eq0
returns-then-group-eq0 c = rw (eq-eqb _ 0 c.if-group-eq0.true)

pub returns-then-joins : goal.returns-then-joins
returns-then-joins c =
    rw (sym c.joins.ensures ∙ c.if-joins.true, ne_eqb _ 0 c.if-group-eq0.false)

pub returns : goal.returns
returns c =
    rw (sym c.joins.ensures ∙ c.if-joins.false, ne_eqb _ 0 c.if-group-eq0.false) c.is_new.ensures
