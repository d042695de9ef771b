-- The requirement on show is one of the book's.
use Rattle.std.proofs.Common.{◌≤◌}
use Rattle.watch.proofs.requirements.watch_requirements.Given as goal

abbrev pub invariant-loop : goal.invariant-loop
invariant-loop l = l.requirement ≤ l.last
