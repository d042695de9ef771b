-- Before a row both numbers are counts over the rows passed, so they are at most as many.
use mathlib.Core.Path.{◌≡◌, sym, ap}
use Prim.Native.Nat.{ℕ, ◌+◌}
use native.Mathlib.Omega.{arith}
use Rattle.integers.proofs.Sums.{count_≤, sumℕ_step, sumℕ_none}
use mathlib.Core.List.{[]}
use Rattle.integers.specs.Sums.{count}
use Rattle.answer.specs.Asked.{lent_members}
use Rattle.answer.specs.Values.{meant}
use Rattle.answer.specs.Rcr.{bad_there}
use Rattle.answer.proofs.units.count_units.Goals as goal
use Rattle.answer.proofs.units.count_units.Goals.{After-counted-all, After-counted-bad, After-shared_slice_known-in-loop-row-1, At-loop-row, Start}

abbrev L : After-shared_slice_known-in-loop-row-1 → At-loop-row
L c = (goal.at.After-shared_slice_known-in-loop-row-1 c).At-loop-row

abbrev S : After-shared_slice_known-in-loop-row-1 → Start
S c = (goal.at.After-shared_slice_known-in-loop-row-1 c).Start

more :
    (c : After-counted-all) → (L (goal.at.After-counted-all c).After-shared_slice_known-in-loop-row-1).loop-row.all + c.counted-all.result ≡ count ((L (goal.at.After-counted-all c).After-shared_slice_known-in-loop-row-1).loop-row.row + 1)
    (meant (S (goal.at.After-counted-all c).After-shared_slice_known-in-loop-row-1).args.set (lent_members [] (S (goal.at.After-counted-all c).After-shared_slice_known-in-loop-row-1).args.homes.now []))
more c =
    rw (sumℕ_step, ← (L (goal.at.After-counted-all c).After-shared_slice_known-in-loop-row-1).loop-row.invariant.1, ← c.in_set.ensures)
    (ap (λ (n : ℕ). (L (goal.at.After-counted-all c).After-shared_slice_known-in-loop-row-1).loop-row.all + n) c.counted-all.ensures)

more_bad :
    (c : After-counted-bad) → (L (goal.at.After-counted-bad c).After-shared_slice_known-in-loop-row-1).loop-row.bad + c.counted-bad.result ≡ count
    ((L (goal.at.After-counted-bad c).After-shared_slice_known-in-loop-row-1).loop-row.row + 1)
    (bad_there (S (goal.at.After-counted-bad c).After-shared_slice_known-in-loop-row-1).args.set (lent_members [] (S (goal.at.After-counted-bad c).After-shared_slice_known-in-loop-row-1).args.homes.now []))
more_bad c =
    rw (sumℕ_step, ← (L (goal.at.After-counted-bad c).After-shared_slice_known-in-loop-row-1).loop-row.invariant.2, ← c.bad_in_set.ensures)
    (ap (λ (n : ℕ). (L (goal.at.After-counted-bad c).After-shared_slice_known-in-loop-row-1).loop-row.bad + n) c.counted-bad.ensures)

pub loop-row-init : goal.loop-row-init
loop-row-init c = (omega arith, sym (sumℕ_none _), sym (sumℕ_none _))

pub bounds-homes-row : goal.bounds-homes-row
bounds-homes-row c = omega (arith, c.requires.1.long)

pub in_set-requires : goal.in_set-requires
in_set-requires c = omega (arith, (S (goal.at.in_set-requires c).After-shared_slice_known-in-loop-row-1).requires.1.here (L (goal.at.in_set-requires c).After-shared_slice_known-in-loop-row-1).loop-row.row (omega arith))

pub overflow_add-all : goal.overflow_add-all
overflow_add-all c =
    omega (
      arith,
      more (goal.at.overflow_add-all c).After-counted-all,
      count_≤ ((L (goal.at.overflow_add-all c).After-shared_slice_known-in-loop-row-1).loop-row.row + 1)
          (meant (S (goal.at.overflow_add-all c).After-shared_slice_known-in-loop-row-1).args.set (lent_members [] (S (goal.at.overflow_add-all c).After-shared_slice_known-in-loop-row-1).args.homes.now [])),
    )

pub bad_in_set-requires : goal.bad_in_set-requires
bad_in_set-requires c = omega (arith, (S (goal.at.bad_in_set-requires c).After-shared_slice_known-in-loop-row-1).requires.1.here (L (goal.at.bad_in_set-requires c).After-shared_slice_known-in-loop-row-1).loop-row.row (omega arith))

pub overflow_add-bad : goal.overflow_add-bad
overflow_add-bad c =
    omega (
      arith,
      more_bad (goal.at.overflow_add-bad c).After-counted-bad,
      count_≤ ((L (goal.at.overflow_add-bad c).After-shared_slice_known-in-loop-row-1).loop-row.row + 1)
          (bad_there (S (goal.at.overflow_add-bad c).After-shared_slice_known-in-loop-row-1).args.set (lent_members [] (S (goal.at.overflow_add-bad c).After-shared_slice_known-in-loop-row-1).args.homes.now [])),
    )

pub loop-row-preserved : goal.loop-row-preserved
loop-row-preserved c = (omega arith, more (goal.at.loop-row-preserved c).After-counted-all, more_bad (goal.at.loop-row-preserved c).After-counted-bad)

pub returns : goal.returns
returns c =
    let e : c.loop-row.row ≡ c.args.units = omega arith in
    record { all = rw e at c.loop-row.invariant.1; bad = rw e at c.loop-row.invariant.2 }
