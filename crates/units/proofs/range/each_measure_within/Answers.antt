-- Before point t what is gathered is 0 exactly where the FM of every measure passed is within the limit; each adds at most 1.
use Rattle.std.proofs.Common.{◌≡◌, ℕ, Bool, ◌&&◌, eqb, sym, ◌∙◌, ap₂, arith, to_z-of_z}
use borrow.Author.Rules.{sfits_of}
use Rattle.integers.proofs.Sums.{every_more, every_none}
use Rattle.rules.specs.Quantities.{points, measure_limit}
use Rattle.rules.specs.Fields.{sized}
use Rattle.interval.specs.Lent.{measure_held, each_measured}
use Rattle.book.proofs.UnitLaws.{none_of_both}
use Rattle.units.specs.Points.{at}
use Rattle.units.proofs.range.each_measure_within.Goals as goal
use Rattle.units.proofs.range.each_measure_within.Goals.{After-past_limit-many, At-loop-t}

abbrev L : After-past_limit-many → At-loop-t
L c = (goal.at.After-past_limit-many c).At-loop-t

abbrev tests : After-past_limit-many → ℕ → Bool
tests c i = let a = (L c).args in sized measure_limit (measure_held (at a.start a.measures.now i))

told : (c : After-past_limit-many) → eqb c.past_limit-many.result 0 ≡ tests c (L c).loop-t.t
told c = rw (to_z-of_z (sfits_of c.past_limit-arg-1.given)) at c.past_limit-many.ensures.1

pub loop-t-init : goal.loop-t-init
loop-t-init c = (omega arith, omega arith, sym (every_none _))

pub overflow_add-many : goal.overflow_add-many
overflow_add-many c = omega (arith, c.past_limit-many.ensures.0)

pub loop-t-preserved : goal.loop-t-preserved
loop-t-preserved c =
    let l = (L (goal.at.loop-t-preserved c).After-past_limit-many).loop-t in (
      omega arith,
      omega (arith, c.past_limit-many.ensures.0),
      none_of_both l.many c.past_limit-many.result ∙ ap₂ ◌&&◌ l.invariant.2 (told (goal.at.loop-t-preserved c).After-past_limit-many)
          ∙ sym (every_more l.t (tests (goal.at.loop-t-preserved c).After-past_limit-many)),
    )

pub returns : goal.returns
unfolding each_measured
returns c = let e : c.loop-t.t ≡ points = omega arith in rw e at c.loop-t.invariant.2
