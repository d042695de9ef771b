-- The record so far is the running week of the intervals passed, each of which is within the limit.
use Rattle.std.specs.Prelude.{Ok}
use mathlib.Core.Path.{◌≡◌, sym, ◌∙◌, ap, ap₂}
use Prim.Native.Nat.{ℕ, ◌<◌}
use lib.IntN.{pos}
use lib.ListN.{length, get_or}
use native.Mathlib.Omega.{arith}
use borrow.Author.Rules.{rules}
use mir.Val.{to_z, of_z}
use mir.Syntax.{w64}
use Rattle.std.proofs.lemmas.Result.{err_from_is_err_and}
use Rattle.integers.specs.Sums.{every}
use Rattle.integers.proofs.Sums.{every_none, every_step}
use Rattle.rules.specs.declared.RunningWeek.{RunningWeek}
use Rattle.rules.specs.Week.{Interval, interval, interval_at, within}
use Rattle.weeks.specs.Promises.{added_of}
use Rattle.weeks.specs.Runs.{more_reply}
use Rattle.weeks.specs.Gather.{run_of, gathered}
use Rattle.weeks.proofs.GatherLaws.{run_none, run_of_run, more_means, more_fails}
use Rattle.weeks.proofs.list.gather.Goals as goal
use Rattle.weeks.proofs.list.gather.Goals.{After-one_more, At-loop-i, Start}

abbrev S : At-loop-i → Start
S l = (goal.at.At-loop-i l).Start

abbrev n : At-loop-i → ℕ
n l = length (S l).args.performances.now

abbrev w : At-loop-i → ℕ → Interval
w l = interval_at (S l).args.performances.now (S l).args.live.now

abbrev L : After-one_more → At-loop-i
L c = (goal.at.After-one_more c).At-loop-i

-- what a turn answers is that of the week's interval
told :
    (c : After-one_more) →
    let l = L c in c.one_more.result ≡ added_of (more_reply (S l).args.limit (run_of l.loop-i.i (w l)) (w l l.loop-i.i))
told c =
    let l = L c in
    let p = get_or (S l).args.performances.now l.loop-i.i (pos 0) in
    let kept : to_z w64 (of_z w64 p) ≡ p = search rules in
    c.one_more.ensures
    ∙ ap₂ (λ (r : RunningWeek) (x : Interval). added_of (more_reply (S l).args.limit r x)) l.loop-i.invariant.so_far
    (ap₂ interval c.is_live.ensures kept)

pub loop-i-init : goal.loop-i-init
loop-i-init c =
    record { passed = omega arith; so_far = run_none (interval_at c.args.performances.now c.args.live.now); inside = every_none _ }

pub one_more-requires : goal.one_more-requires
one_more-requires c =
    let few : c.loop-i.i < 2_016 = omega (arith, c.loop-i-test.true, c.requires.1) in (
      rw c.loop-i.invariant.so_far (run_of_run c.args.limit c.loop-i.i _ c.requires.0 (omega arith) c.loop-i.invariant.inside),
      omega (arith, ap (λ (r : RunningWeek). r.seen) c.loop-i.invariant.so_far),
      c.requires.0,
    )

pub returns-in_err-week : goal.returns-in_err-week
returns-in_err-week c =
    let l = L (goal.at.returns-in_err-week c).After-one_more in
    let p = err_from_is_err_and c.from_residual.result c.from_residual.ensures.1 in
    rw (p.1, p.2)
    (more_fails c.args.limit c.loop-i.i (w l) (n l) c.loop-i-test.true (sym c.in_err-week.was
    ∙ told (goal.at.returns-in_err-week c).After-one_more))

pub loop-i-preserved : goal.loop-i-preserved
loop-i-preserved c =
    let l = L (goal.at.loop-i-preserved c).After-one_more in
    let k = more_means c.args.limit c.loop-i.i (w l) (sym c.in_ok-week.was ∙ told (goal.at.loop-i-preserved c).After-one_more) in
    record {
      passed = omega arith;
      so_far = k.1;
      inside = every_step c.loop-i.i (λ j. within c.args.limit (w l j)) c.loop-i.invariant.inside k.0;
    }

pub returns : goal.returns
unfolding gathered
returns c =
    let w : ℕ → Interval = interval_at c.args.performances.now c.args.live.now in
    let e : c.loop-i.i ≡ length c.args.performances.now = omega arith in
    rw (ap (λ (k : ℕ). every k (λ j. within c.args.limit (w j))) (sym e) ∙ c.loop-i.invariant.inside)
    (ap Ok (c.loop-i.invariant.so_far ∙ ap (λ (k : ℕ). run_of k w) e))
