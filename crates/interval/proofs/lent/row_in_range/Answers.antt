-- Each test settles one part: the numbers of units and of the row, the row's place, both performances, then the defaults.
use mathlib.Core.Path.{◌≡◌, ◌∙◌, ap}
use mathlib.Core.Bool.{true, false}
use Prim.Native.Nat.{ℕ, ◌+◌, ◌*◌, ◌≤◌, ◌<◌}
use native.Mathlib.Omega.{arith}
use lib.Dec.{leb, ltb}
use lib.IntN.{ℤ, pos, neg_ℤ, nat_abs}
use lib.ListN.{length}
use mir.Facts.{to_z-of_z}
use borrow.Author.Rules.{sfits_of}
use borrow.Author.Tests.{le-leb, lt-leb, lt-ltb, le-ltb}
use Rattle.rules.specs.Quantities.{performance_limit, unit_default_limit}
use Rattle.rules.specs.Fields.{sized}
use Rattle.interval.specs.Lent.{row_each, in_row, row_fine}
use Rattle.interval.proofs.RangesLaws.{six_behind}
use Rattle.interval.proofs.lent.row_in_range.Goals as goal
use Rattle.interval.proofs.lent.row_in_range.Goals.{After-size, After-size-2, Else-most-size, Else-row, Else-rows-start, Else-units-gt-MOST_UNITS, Start}

few : (c : Else-units-gt-MOST_UNITS) → leb c.args.units 512 ≡ true
few c = le-leb _ _ c.if-units-gt-MOST_UNITS.false

inside : (c : Else-row) → ltb c.args.row 512 ≡ true
inside c = lt-ltb _ _ c.if-row.false

abbrev S : Else-rows-start → Start
S c = (goal.at.Else-rows-start c).Start

there : (c : Else-rows-start) → leb (8 * (S c).args.row + 8) (length (S c).args.rows.now) ≡ true
there c = le-leb _ _ c.if-rows-start.false

-- both performances are measured against their limit
abbrev number : Start → ℕ → ℤ
number s i = in_row s.args.rows.now s.args.row i

first : (c : After-size) → c.size.result ≡ nat_abs (number (S (goal.at.After-size c).Else-rows-start) 0)
first c = rw (to_z-of_z (sfits_of c.size-arg-1.given)) at c.size.ensures

abbrev T : After-size-2 → Else-rows-start
T c = (goal.at.After-size-2 c).Else-rows-start

second : (c : After-size-2) → c.size-2.result ≡ nat_abs (number (S (T c)) 1)
second c = rw (to_z-of_z (sfits_of c.size-arg-2-1.given)) at c.size-2.ensures

past : (units : ℕ) (z : ℤ) (n : ℕ) → n ≡ nat_abs z → 5_625_000_000_000_000 * units < n → sized (performance_limit * units) z ≡ false
past units z n e h = lt-leb (nat_abs z) (performance_limit * units) (omega (arith, e))

within : (units : ℕ) (z : ℤ) (n : ℕ) → n ≡ nat_abs z → n ≤ 5_625_000_000_000_000 * units → sized (performance_limit * units) z ≡ true
within units z n e h = le-leb (nat_abs z) (performance_limit * units) (omega (arith, e))

abbrev all : Else-rows-start → Type 0
all c = (leb (S c).args.units 512 ≡ true) × (ltb (S c).args.row 512 ≡ true) × (leb (8 * (S c).args.row + 8) (length (S c).args.rows.now) ≡ true)

tested : (c : Else-rows-start) → all c
tested c = (few (goal.at.Else-rows-start c).Else-units-gt-MOST_UNITS, inside (goal.at.Else-rows-start c).Else-row, there c)

raised : (c : Else-most-size) → sized (performance_limit * (S (goal.at.Else-most-size c).Else-rows-start).args.units) (number (S (goal.at.Else-most-size c).Else-rows-start) 0) ≡ true
raised c = within (S (goal.at.Else-most-size c).Else-rows-start).args.units (number (S (goal.at.Else-most-size c).Else-rows-start) 0) c.size.result (first (goal.at.Else-most-size c).After-size) c.if-most-size.false

pub returns-then-units-gt-MOST_UNITS : goal.returns-then-units-gt-MOST_UNITS
returns-then-units-gt-MOST_UNITS c = rw (lt-leb _ _ c.if-units-gt-MOST_UNITS.true)

pub returns-then-row : goal.returns-then-row
returns-then-row c = rw (few (goal.at.returns-then-row c).Else-units-gt-MOST_UNITS, le-ltb _ _ c.if-row.true)

pub returns-then-rows-start : goal.returns-then-rows-start
returns-then-rows-start c = rw (few (goal.at.returns-then-rows-start c).Else-units-gt-MOST_UNITS, inside (goal.at.returns-then-rows-start c).Else-row, lt-leb _ _ c.if-rows-start.true)

pub returns-then-most-size : goal.returns-then-most-size
unfolding row_fine
returns-then-most-size c =
    let t = tested (goal.at.returns-then-most-size c).Else-rows-start in
    rw (t.0, t.1, t.2, past (S (goal.at.returns-then-most-size c).Else-rows-start).args.units (number (S (goal.at.returns-then-most-size c).Else-rows-start) 0) c.size.result (first (goal.at.returns-then-most-size c).After-size) c.if-most-size.true)

pub returns-then-most-size-2 : goal.returns-then-most-size-2
unfolding row_fine
returns-then-most-size-2 c =
    let e = T (goal.at.returns-then-most-size-2 c).After-size-2 in
    let t = tested e in
    rw (
      t.0,
      t.1,
      t.2,
      raised (goal.at.returns-then-most-size-2 c).Else-most-size,
      past (S e).args.units (number (S e) 1) c.size-2.result (second (goal.at.returns-then-most-size-2 c).After-size-2) c.if-most-size-2.true,
    )

pub returns : goal.returns
unfolding row_fine
returns c =
    let e = T (goal.at.returns c).After-size-2 in
    let s = S e in
    let t = tested e in
    let here : leb (8 * s.args.row + 2 + 6) (length s.args.rows.now) ≡ true = ap (λ (n : ℕ). leb n (length s.args.rows.now)) (omega arith) ∙ t.2 in
    rw (
      t.0,
      t.1,
      t.2,
      raised (goal.at.returns c).Else-most-size,
      within s.args.units (number s 1) c.size-2.result (second (goal.at.returns c).After-size-2) c.if-most-size-2.false,
    )
    (rw here at c.six_in_range.ensures ∙ six_behind 2 (neg_ℤ (pos unit_default_limit)) (row_each * s.args.row) s.args.rows.now)
