-- A letter is one of the four, or none of them.
use mathlib.Core.Path.{sym, ap}
use native.Mathlib.Omega.{arith}
use Rattle.report_row.specs.Reading.{region_of}
use Rattle.report_row.proofs.ReadLaws.{region_rest}
use Rattle.report_row.proofs.columns_in.region_said.Goals as goal

pub returns-in-81 : goal.returns-in-81
returns-in-81 c = sym (ap region_of c.in-81.is)

pub returns-in-78 : goal.returns-in-78
returns-in-78 c = sym (ap region_of c.in-78.is)

pub returns-in-86 : goal.returns-in-86
returns-in-86 c = sym (ap region_of c.in-86.is)

pub returns-in-83 : goal.returns-in-83
returns-in-83 c = sym (ap region_of c.in-83.is)

pub returns-in_default : goal.returns-in_default
returns-in_default c = region_rest c.args.letter (omega arith) (omega arith) (omega arith) (omega arith)
