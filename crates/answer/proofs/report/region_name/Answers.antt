-- The last is the name of the first region, and of any number past the fifth.
use Rattle.answer.proofs.ReportLaws.{first_name}
use Rattle.answer.proofs.report.region_name.Goals as goal

pub returns : goal.returns
returns c =
    first_name c.args.region c.if-region-eq1.false c.if-region-eq2.false c.if-region-eq3.false
    c.if-region-eq4.false
