-- The tests in their order, each settled by the call that made it; past them the record's reader answers.
use Rattle.std.specs.Prelude.{Result}
use Rattle.rules.specs.declared.Refusal.{Refusal}
use Rattle.book.specs.declared.UnitFields.{UnitFields}
use Rattle.std.proofs.Common.{◌≡◌, ℕ, ◌+◌, ◌*◌, Bool, true, ◌&&◌, leb, length, sym, ap, ◌∙◌, ap₂, arith}
use Rattle.interval.specs.Tally.{in_range, unit_turn, units_taken}
use Rattle.interval.specs.Lent.{Lent, lent_unit, regions_long, of_interval, named_group, series_in_range, plant_in_range}
use Rattle.interval.specs.Calls.{unit_long, unit_reply}
use Rattle.units.specs.Groups.{lent_in_range, free_group, grouped}
use Rattle.units.proofs.TestedLaws.{unit_comes, RegionsLong, regions_are_long, UnitsLong, units_are_long, stands_in}
use Rattle.units.proofs.tested.tested_unit.Goals as goal
use Rattle.units.proofs.tested.tested_unit.Goals.{After-is_free-free, After-lent_in_range, After-next_row-row, After-of_interval, After-units_long, Else-not-regions_long, Else-not-unit_turn, Else-not-units_long, Start}

abbrev lent : Start → Lent
lent s =
    let a = s.args in
    lent_unit a.measures.now a.sums.now a.figures.now a.numbers.now a.homes.now a.rows.now a.groups.now
    a.deviations.now

abbrev start : Else-not-unit_turn → Start
start c = (goal.at.Else-not-unit_turn c).Start

in_turn : (c : Else-not-unit_turn) → (in_range (start c).args.tally && unit_turn (start c).args.tally) ≡ true
in_turn c = sym c.unit_turn.ensures ∙ c.if-not-unit_turn.false

abbrev first : Else-not-regions_long → Else-not-unit_turn
first c = (goal.at.Else-not-regions_long c).Else-not-unit_turn

long : (c : Else-not-regions_long) → regions_long (lent (start (first c))) ≡ true
long c = sym c.regions_long.ensures ∙ c.if-not-regions_long.false

lengths : (c : Else-not-regions_long) → let a = (start (first c)).args in RegionsLong (length a.measures.now) (length a.sums.now) (length a.figures.now)
lengths c = let a = (start (first c)).args in regions_are_long (length a.measures.now) (length a.sums.now) (length a.figures.now) (long c)

-- with the regions' lists long, the units' settle whether all are
all_told : (c : After-units_long) → let s = start (first (goal.at.After-units_long c).Else-not-regions_long) in unit_long (units_taken s.args.tally + 1) (lent s) ≡
    c.units_long.result
all_told c =
    let a = (start (first (goal.at.After-units_long c).Else-not-regions_long)).args in
    rw (long (goal.at.After-units_long c).Else-not-regions_long)
    (ap
    (λ (k : ℕ).
    leb (k + 1) (length a.numbers.now)
    && ((leb (k + 1) (length a.homes.now) && leb (8 * (k + 1)) (length a.rows.now))
    && (leb (k + 1) (length a.groups.now) && leb 75 (length a.deviations.now))))
    (sym c.next_row-row.ensures) ∙ sym c.units_long.ensures)

abbrev rowed : Else-not-units_long → After-next_row-row
rowed c = (goal.at.Else-not-units_long c).After-next_row-row

all_long : (c : Else-not-units_long) → let s = start (first (goal.at.After-next_row-row (rowed c)).Else-not-regions_long) in unit_long (units_taken s.args.tally + 1) (lent s) ≡ true
all_long c = all_told (goal.at.Else-not-units_long c).After-units_long ∙ c.if-not-units_long.false

all_lengths : (c : Else-not-units_long) → let s = start (first (goal.at.After-next_row-row (rowed c)).Else-not-regions_long) in UnitsLong (units_taken s.args.tally) (lent s)
all_lengths c = let s = start (first (goal.at.After-next_row-row (rowed c)).Else-not-regions_long) in units_are_long (units_taken s.args.tally) (lent s) (all_long c)

-- whether its group is free, by bytes 70 and 71
free_told : (c : After-is_free-free) → let s = start (first (goal.at.After-next_row-row (rowed (goal.at.After-is_free-free c).Else-not-units_long)).Else-not-regions_long) in
    c.is_free-free.result ≡ free_group (named_group s.args.part.now) (units_taken s.args.tally) s.args.groups.now
free_told c =
    let n = rowed (goal.at.After-is_free-free c).Else-not-units_long in
    let s = start (first (goal.at.After-next_row-row n).Else-not-regions_long) in
    c.is_free-free.ensures
    ∙ ap₂ (λ (group row : ℕ). free_group group row s.args.groups.now) c.named_group.ensures n.next_row-row.ensures

of_book : (c : After-of_interval) → let a = (start (first (goal.at.After-next_row-row (rowed (goal.at.After-of_interval c).Else-not-units_long)).Else-not-regions_long)).args in
    of_interval a.tally.interval a.figures.now ≡ c.of_interval.result
of_book c = sym (rw (lengths (goal.at.After-next_row-row (rowed (goal.at.After-of_interval c).Else-not-units_long)).Else-not-regions_long).figures_long at c.of_interval.ensures)

-- what is read of the region and of the group is in range
range_told : (c : After-lent_in_range) → let s = start (first (goal.at.After-next_row-row (rowed (goal.at.After-lent_in_range c).Else-not-units_long)).Else-not-regions_long) in
    lent_in_range s.args.part.now (units_taken s.args.tally) (lent s) ≡ c.lent_in_range.result
unfolding series_in_range plant_in_range
range_told c =
    let n = rowed (goal.at.After-lent_in_range c).Else-not-units_long in
    let s = start (first (goal.at.After-next_row-row n).Else-not-regions_long) in
    ap (λ (row : ℕ). lent_in_range s.args.part.now row (lent s)) (sym n.next_row-row.ensures) ∙ sym c.lent_in_range.ensures

pub returns-then-not-unit_turn : goal.returns-then-not-unit_turn
unfolding unit_reply
returns-then-not-unit_turn c = rw (sym c.unit_turn.ensures ∙ c.if-not-unit_turn.true)

pub returns-then-not-regions_long : goal.returns-then-not-regions_long
unfolding unit_reply
returns-then-not-regions_long c = rw (in_turn (goal.at.returns-then-not-regions_long c).Else-not-unit_turn, sym c.regions_long.ensures ∙ c.if-not-regions_long.true)

pub next_row-row-requires : goal.next_row-row-requires
next_row-row-requires c = (unit_comes _ (in_turn (first (goal.at.next_row-row-requires c).Else-not-regions_long))).begun

pub units_long-requires : goal.units_long-requires
units_long-requires c = let row = (unit_comes _ (in_turn (first (goal.at.units_long-requires c).Else-not-regions_long))).row in rw c.next_row-row.ensures (omega arith)

pub returns-then-not-units_long : goal.returns-then-not-units_long
unfolding unit_reply
returns-then-not-units_long c = rw (in_turn (first (goal.at.returns-then-not-units_long c).Else-not-regions_long), all_told (goal.at.returns-then-not-units_long c).After-units_long ∙ c.if-not-units_long.true)

pub is_free-free-requires : goal.is_free-free-requires
is_free-free-requires c =
    let n = rowed (goal.at.is_free-free-requires c).Else-not-units_long in
    let k = all_lengths (goal.at.is_free-free-requires c).Else-not-units_long in
    rw n.next_row-row.ensures ((unit_comes _ (in_turn (first (goal.at.After-next_row-row n).Else-not-regions_long))).row, omega (arith, k.groups_long))

pub returns-then-not-of_interval : goal.returns-then-not-of_interval
unfolding unit_reply
returns-then-not-of_interval c =
    rw (in_turn (first (goal.at.After-next_row-row (rowed (goal.at.returns-then-not-of_interval c).Else-not-units_long)).Else-not-regions_long), all_long (goal.at.returns-then-not-of_interval c).Else-not-units_long, of_book (goal.at.returns-then-not-of_interval c).After-of_interval ∙ c.if-not-of_interval.true)

pub lent_in_range-requires : goal.lent_in_range-requires
lent_in_range-requires c =
    let n = rowed (goal.at.lent_in_range-requires c).Else-not-units_long in
    let r = lengths (goal.at.After-next_row-row n).Else-not-regions_long in
    let k = all_lengths (goal.at.lent_in_range-requires c).Else-not-units_long in
    rw n.next_row-row.ensures (
      (unit_comes _ (in_turn (first (goal.at.After-next_row-row n).Else-not-regions_long))).row,
      r.measures_long,
      r.sums_long,
      k.homes_long,
      k.rows_long,
      k.groups_long,
      k.deviations_long,
    )

pub returns-then-not-lent_in_range : goal.returns-then-not-lent_in_range
unfolding unit_reply
returns-then-not-lent_in_range c =
    rw (in_turn (first (goal.at.After-next_row-row (rowed (goal.at.returns-then-not-lent_in_range c).Else-not-units_long)).Else-not-regions_long), all_long (goal.at.returns-then-not-lent_in_range c).Else-not-units_long, of_book (goal.at.returns-then-not-lent_in_range c).After-of_interval ∙ c.if-not-of_interval.false, range_told (goal.at.returns-then-not-lent_in_range c).After-lent_in_range ∙ c.if-not-lent_in_range.true)

pub in_group-requires : goal.in_group-requires
in_group-requires c =
    let n = rowed (goal.at.in_group-requires c).Else-not-units_long in
    let k = all_lengths (goal.at.in_group-requires c).Else-not-units_long in
    rw n.next_row-row.ensures (k.homes_long, k.groups_long)

pub returns : goal.returns
unfolding unit_reply
returns c =
    let n = rowed (goal.at.returns c).Else-not-units_long in
    let s = start (first (goal.at.After-next_row-row n).Else-not-regions_long) in
    rw (in_turn (first (goal.at.After-next_row-row n).Else-not-regions_long), all_long (goal.at.returns c).Else-not-units_long, of_book (goal.at.returns c).After-of_interval ∙ c.if-not-of_interval.false, range_told (goal.at.returns c).After-lent_in_range ∙ c.if-not-lent_in_range.false)
    (c.in_group.ensures
    ∙ ap (λ (free : Bool). grouped free n.next_row-row.result s.args.homes.now s.args.groups.now c.read_unit.result)
    (free_told (goal.at.returns c).After-is_free-free)
    ∙ ap₂
    (λ (row : ℕ) (read : Result UnitFields Refusal).
    grouped (free_group (named_group s.args.part.now) (units_taken s.args.tally) s.args.groups.now) row s.args.homes.now
    s.args.groups.now read)
    n.next_row-row.ensures c.read_unit.ensures.reply
    ∙ stands_in (units_taken s.args.tally) s.args.tally.least s.args.part.now (lent s))
