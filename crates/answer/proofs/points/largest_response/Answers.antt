-- Before point t the number kept is the largest over the points passed.
use mathlib.Core.Path.{◌≡◌, sym, ◌∙◌, ap₂}
use Prim.Native.Nat.{ℕ, ◌+◌, max}
use native.Mathlib.Omega.{arith}
use mathlib.Core.List.{[]}
use Rattle.integers.specs.Sums as s
use Rattle.integers.proofs.Sums.{largest_step, largest_none}
use Rattle.rules.specs.Quantities.{points}
use Rattle.answer.specs.Asked.{lent}
use Rattle.answer.specs.Rcr.{point_response}
use Rattle.answer.proofs.points.largest_response.Goals as goal
use Rattle.answer.proofs.points.largest_response.Goals.{After-larger-largest, At-loop-t}

abbrev L : After-larger-largest → At-loop-t
L c = (goal.at.After-larger-largest c).At-loop-t

abbrev here : At-loop-t → ℕ → ℕ
here l = let a = l.args in point_response a.direction a.set (lent a.measures.now a.sums.now a.figures.now [] [])

more : (c : After-larger-largest) → c.larger-largest.result ≡ s.largest ((L c).loop-t.t + 1) (here (L c))
more c = c.larger-largest.ensures ∙ ap₂ max (L c).loop-t.invariant.1 c.response_at.ensures ∙ sym (largest_step (L c).loop-t.t (here (L c)))

pub loop-t-init : goal.loop-t-init
loop-t-init c = (omega arith, sym (largest_none _))

pub response_at-requires : goal.response_at-requires
response_at-requires c = (omega arith, c.requires)

pub loop-t-preserved : goal.loop-t-preserved
loop-t-preserved c = (omega arith, more (goal.at.loop-t-preserved c).After-larger-largest)

pub returns : goal.returns
returns c = let e : c.loop-t.t ≡ points = omega arith in rw e at c.loop-t.invariant.1
