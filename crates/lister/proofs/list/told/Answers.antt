-- A piece with lines, or why there is none.
use borrow.Author.Tests.{lt-ltb, le-ltb}
use Rattle.lister.proofs.list.told.Goals as goal

pub returns-then-done-gt0 : goal.returns-then-done-gt0
returns-then-done-gt0 c = rw (lt-ltb 0 _ c.if-done-gt0.true)

pub returns-in-On : goal.returns-in-On
returns-in-On c = rw (le-ltb 0 _ c.if-done-gt0.false, c.in-On.is)

pub returns-in-Full : goal.returns-in-Full
returns-in-Full c = rw (le-ltb 0 _ c.if-done-gt0.false, c.in-Full.is)

pub returns-in-Ended : goal.returns-in-Ended
returns-in-Ended c = rw (le-ltb 0 _ c.if-done-gt0.false, c.in-Ended.is)

pub returns-in-Refused : goal.returns-in-Refused
returns-in-Refused c = rw (le-ltb 0 _ c.if-done-gt0.false, c.in-Refused.is)
