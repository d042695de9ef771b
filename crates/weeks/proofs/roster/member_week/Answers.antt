-- Its own part of the lists: they hold every member's.
use mathlib.Core.Path.{refl, ◌∙◌, ap}
use Prim.Native.Nat.{ℕ, ◌+◌, ◌*◌, ◌-◌, ◌≤◌}
use native.Mathlib.Nat.{mul-le-mul_right, add-mul}
use lib.ListN.{length}
use native.Mathlib.Omega.{arith}
use Rattle.rules.specs.Week.{bytes_for}
use Rattle.weeks.specs.Promises.{told_of}
use Rattle.weeks.proofs.Rosters.{own_part_cut}
use Rattle.weeks.proofs.roster.member_week.Goals as goal
use Rattle.weeks.proofs.roster.member_week.Goals.{Start}

module _ (s : Start) where
  abbrev n : ℕ
  n = s.args.intervals

  abbrev j : ℕ
  j = s.args.j

  abbrev m : ℕ
  m = length s.args.whose.now

  own_end : j * n + n ≤ length s.args.performances.now
  own_end = omega (arith, mul-le-mul_right {m = j + 1} {n = m} n (omega (arith, s.requires.0)), add-mul j 1 n, s.requires.1.weeks)

  bits_end : j * bytes_for n + bytes_for n ≤ length s.args.live.now
  bits_end = omega (arith, mul-le-mul_right {m = j + 1} {n = m} (bytes_for n) (omega (arith, s.requires.0)), add-mul j 1 (bytes_for n), s.requires.1.bytes)

pub returns : goal.returns
returns c =
    let a = c.args in
    c.week.ensures.reply
    ∙ ap told_of (own_part_cut a.intervals a.whose.now a.performances.now a.live.now c.requires.1 a.j c.requires.0 c.whose_of.result
    (a.j * a.intervals + a.intervals - a.j * a.intervals) (length a.live.now - a.j * c.bytes_for.result) c.bytes_for.result
    c.whose_of.ensures (omega arith) c.bytes_for.ensures refl)
