-- A number that passed the test is one of 16 bits.
use Rattle.dullavane_panel.proofs.WordsLaws.{unit_narrow, residual_in}
use Rattle.dullavane_panel.proofs.words.who_in.Goals as goal

pub overflow_cast-result : goal.overflow_cast-result
overflow_cast-result c = record { fits = unit_narrow c.args.residual c.args.number c.requires c.if-residual-eq0.true }

pub returns-then-residual-eq0 : goal.returns-then-residual-eq0
returns-then-residual-eq0 c = rw c.if-residual-eq0.true

pub returns : goal.returns
returns c = residual_in c.args.residual c.args.number c.if-residual-eq0.false
