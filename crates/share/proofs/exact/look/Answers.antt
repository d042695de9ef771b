-- All members passed so far are right; the first that is not settles it.
use Rattle.std.proofs.Common.{◌≡◌, ◌<◌, List, length, ℤ, sym, ◌∙◌, ap₂, arith, to_z-of_z, w64}
use Rattle.integers.proofs.Sums.{every_none, every_step}
use Rattle.integers.proofs.Casts.{elem}
use Rattle.rules.specs.Sheet.{right, number_at, right_at}
use Rattle.share.specs.Rates.{total_of}
use Rattle.share.specs.Exact.{sums}
use Rattle.share.proofs.ExactLaws.{as_right, fits_up, fits_down, found_wrong, found_right}
use Rattle.share.proofs.exact.look.Goals as goal
use Rattle.share.proofs.exact.look.Goals.{After-is_right, After-is_right-arg-1, At-loop-i, Start}

-- the member that is looked at
module _ (c : After-is_right) where
  abbrev at : After-is_right-arg-1
  at = (goal.at.After-is_right c).After-is_right-arg-1

  abbrev l : At-loop-i
  l = (goal.at.After-is_right-arg-1 at).At-loop-i

  abbrev s : Start
  s = (goal.at.At-loop-i l).Start

  abbrev ps : List ℤ
  ps = s.args.performances.now

  abbrev fs : List ℤ
  fs = s.args.amounts.now

  there : l.loop-i.i < length ps
  there = at.loop-i-test.true

  told : c.is_right.result ≡ right_at (total_of s.args.up) ps fs l.loop-i.i
  told =
      c.is_right.ensures
      ∙ ap₂ (right (total_of s.args.up) (sums s.args.up s.args.down))
      (to_z-of_z (elem w64 (number_at ps l.loop-i.i) at.performance-1.given))
      (to_z-of_z (elem w64 (number_at fs l.loop-i.i) at.is_right-arg-1.given))
      ∙ as_right ps l.loop-i.i there s.requires.0 fs

pub loop-i-init : goal.loop-i-init
loop-i-init c = (omega arith, every_none _)

pub is_right-requires : goal.is_right-requires
is_right-requires c =
    let ps = c.args.performances.now in
    let i = c.loop-i.i in
    let back = to_z-of_z (elem w64 (number_at ps i) c.performance-1.given) in (
      c.requires.0.above.rated,
      c.requires.0.below.rated,
      c.requires.0.below.total,
      rw back (fits_up ps i c.loop-i-test.true c.requires.0),
      rw back (fits_down ps i c.loop-i-test.true c.requires.0),
    )

pub returns-then-not-is_right : goal.returns-then-not-is_right
returns-then-not-is_right c =
    found_wrong (total_of (s (goal.at.returns-then-not-is_right c).After-is_right).args.up) (ps (goal.at.returns-then-not-is_right c).After-is_right) (fs (goal.at.returns-then-not-is_right c).After-is_right) (l (goal.at.returns-then-not-is_right c).After-is_right).loop-i.i (there (goal.at.returns-then-not-is_right c).After-is_right) (l (goal.at.returns-then-not-is_right c).After-is_right).loop-i.invariant.1 (sym (told (goal.at.returns-then-not-is_right c).After-is_right) ∙ c.if-not-is_right.true)

pub loop-i-preserved : goal.loop-i-preserved
loop-i-preserved c = (
  omega (arith, there (goal.at.loop-i-preserved c).After-is_right),
  every_step (l (goal.at.loop-i-preserved c).After-is_right).loop-i.i (right_at (total_of (s (goal.at.loop-i-preserved c).After-is_right).args.up) (ps (goal.at.loop-i-preserved c).After-is_right) (fs (goal.at.loop-i-preserved c).After-is_right)) (l (goal.at.loop-i-preserved c).After-is_right).loop-i.invariant.1
      (sym (told (goal.at.loop-i-preserved c).After-is_right) ∙ c.if-not-is_right.false),
)

pub returns : goal.returns
returns c =
    let a = c.args in
    let e : c.loop-i.i ≡ length a.performances.now = omega (arith, c.loop-i.invariant.0, c.loop-i-test.false) in
    found_right (total_of a.up) a.performances.now a.amounts.now (rw e at c.loop-i.invariant.1)
