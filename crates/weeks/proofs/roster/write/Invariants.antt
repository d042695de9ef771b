-- The columns so far are filled with what the members passed are told; none is refused.
use mathlib.Core.Path.{◌≡◌}
use mathlib.Core.List.{List}
use Prim.Native.Nat.{ℕ, ◌≤◌}
use lib.IntN.{ℤ}
use lib.ListN.{length}
use Rattle.integers.specs.Fills.{filled}
use Rattle.rules.specs.declared.WeekDefault.{WeekDefault}
use Rattle.rules.specs.WeekRoster.{member_default}
use Rattle.weeks.proofs.roster.write.Given as goal

pub record Turn (told : ℕ → WeekDefault) (m : ℕ) (counts₀ : List ℕ) (defaults₀ : List ℤ) (counts : List ℕ) (defaults : List ℤ) (j : ℕ) : Type 0 where
  pub within : j ≤ m
  pub counted : counts ≡ filled j (λ i. (told i).count) counts₀
  pub averaged : defaults ≡ filled j (λ i. (told i).default) defaults₀

abbrev pub invariant-loop-j : goal.invariant-loop-j
invariant-loop-j l =
    Turn (member_default l.intervals l.whose l.performances l.live) (length l.whose) l.initial.counts l.initial.defaults l.counts l.defaults l.j
