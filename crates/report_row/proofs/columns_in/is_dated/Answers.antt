-- Each test is a bound of a date; the others are required.
use Rattle.report_row.specs.Dates.{date_of}
use Rattle.report_row.proofs.ReadLaws.{by_day}
use Rattle.report_row.proofs.columns_in.is_dated.Goals as goal

pub returns : goal.returns
returns c =
    by_day (date_of c.args.date) c.if-date-lt2000.false c.requires.0 c.if-date-lt1.false c.if-date-gt12.false c.requires.1
