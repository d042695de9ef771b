-- Each type is its word.
use Rattle.rules.specs.Text.{text}
use Rattle.report_rows.proofs.words.put_type.Goals as goal

pub returns-in-Calculated : goal.returns-in-Calculated
unfolding text
returns-in-Calculated c = rw c.in-Calculated.is c.put_word.ensures

pub returns-in-Default : goal.returns-in-Default
unfolding text
returns-in-Default c = rw c.in-Default.is c.put_word-in-Default.ensures
