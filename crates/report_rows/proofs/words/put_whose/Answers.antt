-- By whose the row is.
use Rattle.report_rows.proofs.words.put_whose.Goals as goal

pub returns-in-Unit : goal.returns-in-Unit
returns-in-Unit c = rw c.in-Unit.is c.put_unit.ensures

pub returns-in-Residual : goal.returns-in-Residual
returns-in-Residual c = rw c.in-Residual.is c.put_residual.ensures
