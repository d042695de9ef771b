-- `ratio_of` meets its contract: after i bits, `found` times the sum and what is over are rest·2^i.
use Rattle.std.proofs.Common.{◌≡◌, ℕ, ◌+◌, ◌*◌, ◌^◌, ◌<◌, ◌≤◌}
use Rattle.share.proofs.part.ratio_of.Given as goal

pub record Turn (rest sum found over i : ℕ) : Type 0 where
  pub within : i ≤ 64
  pub below : over < sum
  pub few : found < 2 ^ i
  pub so_far : found * sum + over ≡ rest * 2 ^ i

abbrev pub invariant-loop-i : goal.invariant-loop-i
invariant-loop-i l = Turn l.rest l.sum l.found l.over l.i
