-- The tests in their order, each for all members; then what is written is every member's default.
use mathlib.Core.Path.{◌≡◌, sym, ◌∙◌}
use mathlib.Core.Bool.{true}
use lib.ListN.{length}
use Rattle.std.specs.Prelude.{Ok}
use Rattle.std.proofs.lemmas.Result.{err_from_is_err_and}
use Rattle.integers.specs.Sums.{every}
use Rattle.rules.specs.Week.{whose_fine}
use Rattle.rules.specs.WeekRoster.{long_enough, member}
use Rattle.weeks.specs.Rosters.{judged}
use Rattle.weeks.proofs.Rosters.{Roomy, roomy, roster_short, roster_unfit, roster_judged, all_told, roster_done}
use Rattle.weeks.proofs.roster.roster.Goals as goal
use Rattle.weeks.proofs.roster.roster.Goals.{Else-not-all_fine, Else-not-are_long, In_ok-judge, Start}

module _ (c : Else-not-are_long) where
  abbrev S : Start
  S = (goal.at.Else-not-are_long c).Start

  long :
      let a = S.args in true ≡ long_enough a.intervals a.whose.now a.performances.now a.live.now (length a.counts.now)
      (length a.defaults.now)
  long = sym (c.if-not-are_long.false) ∙ c.are_long.ensures

  room : let a = S.args in Roomy a.intervals a.whose.now a.performances.now a.live.now a.counts.now a.defaults.now long
  room = let a = S.args in roomy a.intervals a.whose.now a.performances.now a.live.now a.counts.now a.defaults.now long

module _ (c : Else-not-all_fine) where
  abbrev first : Else-not-are_long
  first = (goal.at.Else-not-all_fine c).Else-not-are_long

  who :
      let a = (S first).args in true ≡ every (length a.whose.now) (λ j. whose_fine
      (member a.intervals a.whose.now a.performances.now a.live.now j))
  who = sym (c.if-not-all_fine.false) ∙ c.all_fine.ensures

-- neither test of all weeks found anything
module _ (c : In_ok-judge) where
  abbrev second : Else-not-all_fine
  second = (goal.at.In_ok-judge c).Else-not-all_fine

  sound : let a = (S (first second)).args in judged a.intervals a.whose.now a.performances.now a.live.now (length a.whose.now) ≡ Ok c.in_ok-judge.field-0
  sound = sym c.judge.ensures ∙ c.in_ok-judge.was

pub returns-then-not-are_long : goal.returns-then-not-are_long
returns-then-not-are_long c =
    let a = c.args in
    roster_short a.intervals a.whose.now a.performances.now a.live.now a.counts.now a.defaults.now
    (sym (c.if-not-are_long.true) ∙ c.are_long.ensures)

pub returns-then-not-all_fine : goal.returns-then-not-all_fine
returns-then-not-all_fine c =
    let a = (S (goal.at.returns-then-not-all_fine c).Else-not-are_long).args in
    roster_unfit a.intervals a.whose.now a.performances.now a.live.now a.counts.now a.defaults.now (long (goal.at.returns-then-not-all_fine c).Else-not-are_long)
    (sym (c.if-not-all_fine.true) ∙ c.all_fine.ensures)

pub returns-in_err-judge : goal.returns-in_err-judge
returns-in_err-judge c =
    let s = (goal.at.returns-in_err-judge c).Else-not-all_fine in
    let a = (S (first s)).args in
    let p = err_from_is_err_and c.from_residual.result c.from_residual.ensures.1 in
    rw (p.1, p.2) (roster_judged a.intervals a.whose.now a.performances.now a.live.now a.counts.now a.defaults.now (long (first s)) (who s)
    (sym c.judge.ensures ∙ c.in_err-judge.was))

pub write-requires : goal.write-requires
write-requires c =
    let d = (goal.at.write-requires c).In_ok-judge in
    let s = second d in
    let a = (S (first s)).args in
    let r = room (first s) in (
      r.lists,
      all_told a.intervals a.whose.now a.performances.now a.live.now a.counts.now a.defaults.now (long (first s)) (who s) (sound d),
      r.counts_room,
      r.defaults_room,
    )

pub returns : goal.returns
returns c =
    let d = (goal.at.returns c).In_ok-judge in
    let s = second d in
    let a = (S (first s)).args in
    roster_done a.intervals a.whose.now a.performances.now a.live.now a.counts.now a.defaults.now (long (first s)) (who s) (sound d)
    c.write.ensures.0 c.write.ensures.1
