-- Each name is its word.
use Rattle.rules.specs.Text.{text}
use Rattle.report_rows.proofs.words.put_region.Goals as goal

pub returns-in-Qld1 : goal.returns-in-Qld1
unfolding text
returns-in-Qld1 c = rw c.in-Qld1.is c.put_word.ensures

pub returns-in-Nsw1 : goal.returns-in-Nsw1
unfolding text
returns-in-Nsw1 c = rw c.in-Nsw1.is c.put_word-in-Nsw1.ensures

pub returns-in-Vic1 : goal.returns-in-Vic1
unfolding text
returns-in-Vic1 c = rw c.in-Vic1.is c.put_word-in-Vic1.ensures

pub returns-in-Sa1 : goal.returns-in-Sa1
unfolding text
returns-in-Sa1 c = rw c.in-Sa1.is c.put_word-in-Sa1.ensures

pub returns-in-Tas1 : goal.returns-in-Tas1
unfolding text
returns-in-Tas1 c = rw c.in-Tas1.is c.put_word-in-Tas1.ensures
