-- By who stands in the row.
use Rattle.panel.proofs.who.by_row.Goals as goal

pub returns-in-Unit : goal.returns-in-Unit
returns-in-Unit c = rw c.in-Unit.is

pub returns-in-Other : goal.returns-in-Other
returns-in-Other c = rw c.in-Other.is

pub returns-in-Refused : goal.returns-in-Refused
returns-in-Refused c = rw c.in-Refused.is
