-- Each branch settles one figure, in their order; the six defaults last.
use mathlib.Core.Path.{◌≡◌, sym, ◌∙◌}
use mathlib.Core.List.{[]}
use Prim.Native.Nat.{ℕ, ◌+◌, ◌*◌}
use lib.ListN.{length}
use native.Mathlib.Omega.{arith}
use borrow.Author.Rules.{sfits_of}
use borrow.Author.Tests.{le-leb}
use lib.IntN.{ℤ, pos, neg_ℤ}
use mir.Facts.{to_z-of_z}
use Rattle.rules.specs.Quantities.{amount_limit, residual_default_limit}
use Rattle.interval.specs.Lent.{figures_each}
use Rattle.kept.specs.Kept.{figure}
use Rattle.kept.specs.Range.{from_0}
use Rattle.answer.specs.Asked.{lent_members}
use Rattle.interval.proofs.RangesLaws.{six_behind}
use Rattle.answer.proofs.figures.region_within.Goals as goal
use Rattle.answer.proofs.figures.region_within.Goals.{After-within_bounds, After-within_bounds-2, After-within_bounds-3, Start}

abbrev S : After-within_bounds → Start
S c = (goal.at.After-within_bounds c).Start

abbrev number : Start → ℕ → ℤ
number s i = figure (lent_members s.args.figures.now [] []) s.args.region i

generation_told : (c : After-within_bounds) → from_0 amount_limit (number (S c) 1) ≡ c.within_bounds.result
generation_told c = sym (rw (to_z-of_z (sfits_of c.within_bounds-arg-1.given)) at c.within_bounds.ensures)

raise_told : (c : After-within_bounds-2) → from_0 1 (number (S (goal.at.After-within_bounds-2 c).After-within_bounds) 2) ≡ c.within_bounds-2.result
raise_told c = sym (rw (to_z-of_z (sfits_of c.within_bounds-arg-2-1.given)) at c.within_bounds-2.ensures)

lower_told : (c : After-within_bounds-3) → from_0 1 (number (S (goal.at.After-within_bounds-3 c).After-within_bounds) 3) ≡ c.within_bounds-3.result
lower_told c = sym (rw (to_z-of_z (sfits_of c.within_bounds-arg-3-1.given)) at c.within_bounds-3.ensures)

pub returns-then-not-within_bounds : goal.returns-then-not-within_bounds
returns-then-not-within_bounds c = rw (generation_told (goal.at.returns-then-not-within_bounds c).After-within_bounds ∙ c.if-not-within_bounds.true)

pub returns-then-not-within_bounds-2 : goal.returns-then-not-within_bounds-2
returns-then-not-within_bounds-2 c =
    rw (generation_told (goal.at.returns-then-not-within_bounds-2 c).After-within_bounds ∙ c.if-not-within_bounds.false, raise_told (goal.at.returns-then-not-within_bounds-2 c).After-within_bounds-2 ∙ c.if-not-within_bounds-2.true)

pub returns-then-not-within_bounds-3 : goal.returns-then-not-within_bounds-3
returns-then-not-within_bounds-3 c =
    rw (
      generation_told (goal.at.returns-then-not-within_bounds-3 c).After-within_bounds ∙ c.if-not-within_bounds.false,
      raise_told (goal.at.returns-then-not-within_bounds-3 c).After-within_bounds-2 ∙ c.if-not-within_bounds-2.false,
      lower_told (goal.at.returns-then-not-within_bounds-3 c).After-within_bounds-3 ∙ c.if-not-within_bounds-3.true,
    )

pub returns : goal.returns
returns c =
    let a = (S (goal.at.returns c).After-within_bounds).args in
    rw (
      generation_told (goal.at.returns c).After-within_bounds ∙ c.if-not-within_bounds.false,
      raise_told (goal.at.returns c).After-within_bounds-2 ∙ c.if-not-within_bounds-2.false,
      lower_told (goal.at.returns c).After-within_bounds-3 ∙ c.if-not-within_bounds-3.false,
    )
    (rw (le-leb (figures_each * a.region + 4 + 6) (length a.figures.now) (omega arith)) at c.six_in_range.ensures
    ∙ six_behind 4 (neg_ℤ (pos residual_default_limit)) (figures_each * a.region) a.figures.now)
