-- The turns left fall; the listing comes from the cursor on as far as lines have room, unless a test refuses it at once.
use mathlib.Core.Path.{◌≡◌, refl, sym, ◌∙◌, subst}
use mathlib.Core.Bool.{true}
use Prim.Native.Nat.{ℕ, ◌+◌, ◌<◌}
use native.Mathlib.Omega.{arith}
use Rattle.interval.specs.Lent.{Lent}
use Rattle.answer.specs.Asked.{no_lists}
use Rattle.answer.specs.Promises.{Columns, columns}
use Rattle.lister.specs.declared.Cursor.{Cursor}
use Rattle.lister.specs.declared.Halt.{Halt}
use Rattle.lister.specs.Steps.{lent_listing, is_on, turns_left, cursor_left}
use Rattle.lister.proofs.ListLaws.{so_far_first, so_far_ready, so_far_turn, so_far_told}
use Rattle.lister.proofs.list.list.Goals as goal
use Rattle.lister.proofs.list.list.Goals.{After-turn-step, At-loop-halt, In-loop-halt, Start}

abbrev start : At-loop-halt → Start
start l = (goal.at.At-loop-halt l).Start

abbrev lists : Start → Lent → Lent
lists s rest = let a = s.args in lent_listing rest a.measures.now a.sums.now a.figures.now a.numbers.now a.homes.now a.rows.now

abbrev cols : Start → Columns
cols s = let a = s.args in columns a.performances.now a.factors.now a.payments.now a.used.now a.unused.now

abbrev begun : After-turn-step → In-loop-halt
begun w = (goal.at.After-turn-step w).In-loop-halt

abbrev turned : After-turn-step → At-loop-halt
turned w = (goal.at.In-loop-halt (begun w)).At-loop-halt

-- it goes on
on : (n : In-loop-halt) → is_on n.loop-halt.halt ≡ true
on n = sym n.goes_on.ensures ∙ n.loop-halt-test.true

on_left : (requirements : ℕ) (c : Cursor) (h : Halt) → is_on h ≡ true → turns_left requirements c h ≡ 1 + cursor_left requirements c
on_left requirements c h e = rw e

pub loop-halt-init : goal.loop-halt-init
loop-halt-init c =
    let a = c.args in
    record {
      performances = refl;
      factors = refl;
      payments = refl;
      used = refl;
      unused = refl;
      so_far = λ rest. so_far_first a.tally a.bytes.now (lists (goal.at.loop-halt-init c).Start rest) a.cursor (cols (goal.at.loop-halt-init c).Start) a.text.now c.tested-halt.result c.tested-halt.ensures;
    }

pub turn-step-requires : goal.turn-step-requires
turn-step-requires c =
    let s = start (goal.at.turn-step-requires c).At-loop-halt in
    let a = s.args in
    so_far_ready a.tally a.bytes.now (lists s no_lists) a.cursor (cols s) a.text.now (c.loop-halt.invariant.so_far no_lists) (on (goal.at.turn-step-requires c).In-loop-halt)

pub loop-halt-smaller : goal.loop-halt-smaller
loop-halt-smaller c =
    let l = turned (goal.at.loop-halt-smaller c).After-turn-step in
    let few = (c.turn-step.ensures no_lists).less in
    subst (λ (n : ℕ). turns_left (start l).args.tally.requirements c.turn-step.result.at c.turn-step.result.halt < n)
    (sym (on_left (start l).args.tally.requirements l.loop-halt.at l.loop-halt.halt (on (begun (goal.at.loop-halt-smaller c).After-turn-step)))) few

pub loop-halt-preserved : goal.loop-halt-preserved
loop-halt-preserved c =
    let l = turned (goal.at.loop-halt-preserved c).After-turn-step in
    let i = l.loop-halt.invariant in
    let s = start l in
    let a = s.args in
    record {
      performances = omega (arith, c.turn-step.auto, i.performances);
      factors = omega (arith, c.turn-step.auto, i.factors);
      payments = omega (arith, c.turn-step.auto, i.payments);
      used = omega (arith, c.turn-step.auto, i.used);
      unused = omega (arith, c.turn-step.auto, i.unused);
      so_far = λ rest. so_far_turn a.tally a.bytes.now (lists s rest) a.cursor (cols s) a.text.now (i.so_far rest) (on (begun (goal.at.loop-halt-preserved c).After-turn-step)) (c.turn-step.ensures rest);
    }

pub returns : goal.returns
returns c =
    let s = start (goal.at.returns c).At-loop-halt in
    let a = s.args in
    λ rest. so_far_told a.tally a.bytes.now (lists s rest) a.cursor (cols s) a.text.now (c.loop-halt.invariant.so_far rest)
    (sym c.goes_on.ensures ∙ c.loop-halt-test.false) c.told.ensures
