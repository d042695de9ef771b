-- The tests in their order; then what the pass finds.
use Rattle.std.specs.Prelude.{Ok}
use mathlib.Core.Path.{◌≡◌, sym, ◌∙◌, ap}
use mathlib.Core.Bool.{true}
use Prim.Native.Nat.{ℕ, ◌*◌, ◌≤◌}
use lib.ListN.{length}
use native.Mathlib.Omega.{arith}
use Rattle.std.proofs.lemmas.Result.{err_from_is_err_and}
use Rattle.rules.specs.Quantities.{performance_limit}
use Rattle.rules.specs.Week.{whose_fine, bytes_for, reach, interval_at, most_intervals}
use Rattle.rules.specs.declared.RunningWeek.{RunningWeek}
use Rattle.weeks.specs.Promises.{added_of}
use Rattle.weeks.specs.Gather.{gathered}
use Rattle.weeks.specs.Runs.{units_fine}
use Rattle.weeks.proofs.Runs.{fine_units, reach_units}
use Rattle.weeks.proofs.GatherLaws.{too_short, wrong_count, too_long, outside, inside, Read}
use Rattle.weeks.proofs.list.week.Goals as goal
use Rattle.weeks.proofs.list.week.Goals.{After-gather, After-is_fine, Else-live-bytes_for, Else-not-is_fine, Else-performances, Start}

long : (c : Else-live-bytes_for) → let a = c.args in bytes_for (length a.performances.now) ≤ length a.live.now
long c = omega (arith, c.if-live-bytes_for.false, c.bytes_for.ensures)

tested : (c : After-is_fine) → whose_fine c.args.whose ≡ c.is_fine.result
tested c = sym (c.is_fine.ensures ∙ ap units_fine c.units_of-units.ensures ∙ fine_units c.args.whose)

fine : (c : Else-not-is_fine) → whose_fine c.args.whose ≡ true
fine c = tested (goal.at.Else-not-is_fine c).After-is_fine ∙ c.if-not-is_fine.false

-- what the pass found
module _ (c : After-gather) where
  abbrev third : Else-performances
  third = (goal.at.After-gather c).Else-performances

  abbrev second : Else-not-is_fine
  second = (goal.at.Else-performances third).Else-not-is_fine

  abbrev first : Else-live-bytes_for
  first = (goal.at.Else-not-is_fine second).Else-live-bytes_for

  abbrev s : Start
  s = (goal.at.Else-live-bytes_for first).Start

  found :
      c.gather.result
      ≡ added_of (gathered (reach s.args.whose) (length s.args.performances.now) (interval_at s.args.performances.now s.args.live.now))
  found =
      c.gather.ensures
      ∙ ap (λ (k : ℕ). added_of (gathered k (length s.args.performances.now) (interval_at s.args.performances.now s.args.live.now)))
      (c.reach.ensures.0 ∙ ap (λ (k : ℕ). k * performance_limit) second.units_of-units.ensures ∙ reach_units s.args.whose)

  few : length s.args.performances.now ≤ most_intervals
  few = third.if-performances.false

  read :
      {r : RunningWeek} → c.gather.result ≡ Ok r →
      Read s.args.whose s.args.performances.now s.args.live.now (long first) (fine second) few r
  read e = inside s.args.whose s.args.performances.now s.args.live.now (long first) (fine second) few (sym e ∙ found)

pub returns-then-live-bytes_for : goal.returns-then-live-bytes_for
returns-then-live-bytes_for c =
    record { reply = too_short _ _ _ (omega (arith, c.if-live-bytes_for.true, c.bytes_for.ensures)) }

pub returns-then-not-is_fine : goal.returns-then-not-is_fine
returns-then-not-is_fine c =
    record { reply = wrong_count _ _ _ (long (goal.at.returns-then-not-is_fine c).Else-live-bytes_for) (tested (goal.at.returns-then-not-is_fine c).After-is_fine ∙ c.if-not-is_fine.true) }

pub returns-then-performances : goal.returns-then-performances
returns-then-performances c =
    record { reply = too_long _ _ _ (long (goal.at.returns-then-performances c).Else-live-bytes_for) (fine (goal.at.returns-then-performances c).Else-not-is_fine) c.if-performances.true }

pub tell-requires : goal.tell-requires
tell-requires c =
    (read (goal.at.tell-requires c).After-gather c.in_ok-week.was).run

pub returns : goal.returns
returns c =
    record { reply = c.tell.ensures ∙ (read (goal.at.returns c).After-gather c.in_ok-week.was).reads }

pub returns-in_err-week : goal.returns-in_err-week
returns-in_err-week c =
    let g = (goal.at.returns-in_err-week c).After-gather in
    let p = err_from_is_err_and c.from_residual.result c.from_residual.ensures.1 in
    record {
      reply = rw (p.1, p.2)
          (outside c.args.whose c.args.performances.now c.args.live.now (long (first g)) (fine (second g)) (few g)
          (sym c.in_err-week.was ∙ found g));
    }
