-- Before point t what is gathered is 0 exactly where every number passed is within the limit.
use Rattle.std.proofs.Common.{◌≡◌, ℕ, Bool, ◌&&◌, eqb, sym, ◌∙◌, ap₂, arith, to_z-of_z}
use borrow.Author.Rules.{sfits_of}
use Rattle.integers.proofs.Sums.{every_more, every_none}
use Rattle.rules.specs.Fields.{sized}
use Rattle.interval.specs.Lent.{each_sized}
use Rattle.units.specs.Points.{at}
use Rattle.units.proofs.RangeLaws.{none_in_both}
use Rattle.units.proofs.range.each_within.Goals as goal
use Rattle.units.proofs.range.each_within.Goals.{After-outside-any, At-loop-t}

abbrev L : After-outside-any → At-loop-t
L c = (goal.at.After-outside-any c).At-loop-t

abbrev tests : After-outside-any → ℕ → Bool
tests c i = let a = (L c).args in sized a.limit (at a.start a.numbers.now i)

told : (c : After-outside-any) → eqb c.outside-any.result 0 ≡ tests c (L c).loop-t.t
told c = rw (to_z-of_z (sfits_of c.outside-arg-1.given)) at c.outside-any.ensures

pub loop-t-init : goal.loop-t-init
loop-t-init c = (omega arith, sym (every_none _))

pub loop-t-preserved : goal.loop-t-preserved
loop-t-preserved c =
    let l = (L (goal.at.loop-t-preserved c).After-outside-any).loop-t in (
      omega arith,
      none_in_both l.any c.outside-any.result ∙ ap₂ ◌&&◌ l.invariant.1 (told (goal.at.loop-t-preserved c).After-outside-any)
          ∙ sym (every_more l.t (tests (goal.at.loop-t-preserved c).After-outside-any)),
    )

pub returns : goal.returns
unfolding each_sized
returns c = let e : c.loop-t.t ≡ c.args.many = omega arith in rw e at c.loop-t.invariant.1
