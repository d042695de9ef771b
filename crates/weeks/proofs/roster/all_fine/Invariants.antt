-- Every member passed so far is fine; the first that is not settles it.
use mathlib.Core.Path.{◌≡◌}
use mathlib.Core.Bool.{Bool, true}
use mathlib.Core.List.{List}
use Prim.Native.Nat.{ℕ, ◌≤◌}
use lib.ListN.{length, get_or}
use Rattle.integers.specs.Sums.{every}
use Rattle.rules.specs.Week.{whose_fine}
use Rattle.rules.specs.WeekRoster.{whose_of}
use Rattle.weeks.proofs.roster.all_fine.Given as goal

abbrev pub fine : List ℕ → ℕ → Bool
fine ms j = whose_fine (whose_of (get_or ms j 0))

abbrev pub invariant-loop-j : goal.invariant-loop-j
invariant-loop-j l =
    (l.j ≤ length l.whose) × (every l.j (fine l.whose) ≡ true)
