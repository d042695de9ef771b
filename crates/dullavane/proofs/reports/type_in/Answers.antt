-- What is not 0 is a default.
use Rattle.dullavane.proofs.ReportsLaws.{default_of}
use Rattle.dullavane.proofs.reports.type_in.Goals as goal

pub returns : goal.returns
returns c = default_of c.args.number c.if-number-eq0.false
