-- Each arm knows its command, and each way of it how the requirement stands to the end.
use native.Mathlib.Omega.{arith}
use borrow.Author.Tests.{lt-ltb, le-ltb}
use borrow.Author.Rules.{rules}
use Rattle.watch.proofs.commands.turn_of.Goals as goal

pub returns-in-Page : goal.returns-in-Page
returns-in-Page c = record { value = rw c.in-Page.is; within = search rules }

pub returns-then-requirement-last : goal.returns-then-requirement-last
returns-then-requirement-last c = record { value = rw (c.in-NextRequirement.is, lt-ltb _ _ c.if-requirement-last.true); within = omega arith }

pub returns-else-requirement-last : goal.returns-else-requirement-last
returns-else-requirement-last c = record { value = rw (c.in-NextRequirement.is, le-ltb _ _ c.if-requirement-last.false); within = search rules }

pub returns-then-requirement-gt0 : goal.returns-then-requirement-gt0
returns-then-requirement-gt0 c = record { value = rw (c.in-PreviousRequirement.is, lt-ltb _ _ c.if-requirement-gt0.true); within = omega arith }

pub returns-else-requirement-gt0 : goal.returns-else-requirement-gt0
returns-else-requirement-gt0 c = record { value = rw (c.in-PreviousRequirement.is, le-ltb _ _ c.if-requirement-gt0.false); within = search rules }

pub returns-else-more : goal.returns-else-more
returns-else-more c = record { value = rw (c.in-NextBook.is, c.if-more.false); within = search rules }

pub returns-in-Nothing : goal.returns-in-Nothing
returns-in-Nothing c = record { value = rw c.in-Nothing.is; within = search rules }
