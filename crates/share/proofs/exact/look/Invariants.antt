-- All members passed so far are right; the first that is not settles it.
use Rattle.std.proofs.Common.{◌≡◌, ◌≤◌, true, length}
use Rattle.integers.specs.Sums.{every}
use Rattle.rules.specs.Sheet.{right_at}
use Rattle.share.specs.Rates.{total_of}
use Rattle.share.proofs.exact.look.Given as goal

abbrev pub invariant-loop-i : goal.invariant-loop-i
invariant-loop-i l =
    (l.i ≤ length l.performances) × (every l.i (right_at (total_of l.up) l.performances l.amounts) ≡ true)
