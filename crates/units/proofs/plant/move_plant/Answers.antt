-- Before each point the trajectory is the ramp where the points passed have left it, and the deviations and the region's sums of the points passed are
-- those of the plant with the unit.
use Rattle.std.proofs.Common.{◌≡◌, ℕ, ◌+◌, ◌<◌, ◌≤◌, ◌&&◌, List, length, get_or, ℤ, pos, ◌+ℤ◌, ◌-ℤ◌, ◌*ℤ◌, sym, ap, ◌∙◌, ap₂, arith, to_z-of_z, w32, w64, SFits, to_z, of_z}
use borrow.Author.Rules.{sfits_of}
use Rattle.integers.proofs.Pairs.{ring, v, ◌⊕◌, ◌⊖◌, ◌⊗◌}
use Rattle.integers.specs.Bounds.{Within}
use Rattle.integers.proofs.Bounds.{within_difference, within_sum, fits_within}
use Rattle.integers.proofs.Casts.{back}
use Rattle.integers.proofs.Fills.{filled_none, filled_store, filled_length, filled_past}
use Rattle.rules.specs.Quantities.{points}
use Rattle.rules.specs.declared.Direction.TheVariants.{Raise, Lower}
use Rattle.rules.specs.Deviation.{turned}
use Rattle.rules.specs.Performance.{wanted}
use Rattle.laws.proofs.DeviationLaws.{line_within, turned_within}
use Rattle.book.specs.Unit.{reading_at}
use Rattle.interval.specs.Lent.{sums_start, sums_each}
use Rattle.book.proofs.UnitHeld.{reading_inside}
use Rattle.units.specs.Points.{held, deviated, ramp}
use Rattle.units.specs.Groups.{with_unit, most_deviation, change}
use Rattle.units.proofs.PointsLaws.{next_step, off_ramp, ramp_within, none_yet, all_added, above, below, far, two_more, part_above, part_below}
use Rattle.units.proofs.plant.move_plant.Invariants.{more}
use Rattle.units.proofs.plant.move_plant.Goals as goal
use Rattle.units.proofs.plant.move_plant.Goals.{After-deviation, After-old-1, After-reading, After-struct_told-1, After-struct_told-2-1, At-loop-t, In-loop-t, Start}

abbrev S : At-loop-t → Start
S l = (goal.at.At-loop-t l).Start

abbrev L : After-deviation → At-loop-t
L c = (goal.at.After-deviation c).At-loop-t

-- the numbers of the call, as the invariant reads them
module _ (s : Start) where
  abbrev from : ℕ
  from = sums_start s.args.fields.region

  abbrev devs : ℕ → ℤ
  devs = with_unit s.args.fields (reading_at s.args.part.now) s.args.deviations.now

  abbrev moves : ℕ → ℤ
  moves = more s.args.fields s.args.before (reading_at s.args.part.now) s.args.deviations.now

  reach : from + sums_each ≤ length s.args.sums.now
  reach = omega (arith, s.requires.sums_long, s.requires.region)

  moves_above : (t : ℕ) → t < points → let a = s.args in
      change a.before (wanted Raise (held a.deviations.now t)) (a.before && a.fields.good) (wanted Raise (devs t)) ≡ moves t
  moves_above t l =
      let a = s.args in
      sym (ap₂ (λ (x y : ℤ). x -ℤ y) (part_above (a.before && a.fields.good) devs t l) (part_above a.before (held a.deviations.now) t l))

  moves_below : (t : ℕ) → t < points → let a = s.args in
      change a.before (wanted Lower (held a.deviations.now t)) (a.before && a.fields.good) (wanted Lower (devs t)) ≡ moves (t + points)
  moves_below t l =
      let a = s.args in
      sym (ap₂ (λ (x y : ℤ). x -ℤ y) (part_below (a.before && a.fields.good) devs t l) (part_below a.before (held a.deviations.now) t l))

-- the step, and the ramp a step further
abbrev step : After-struct_told-1 → ℤ
step c = let f = c.args.fields in to_z w32 (of_z w32 f.end) -ℤ to_z w32 (of_z w32 f.start)

start_is : (c : After-struct_told-1) → let z = c.args.fields.start in to_z w32 (of_z w32 z) ≡ z
start_is c = to_z-of_z {w = w32} (sfits_of c.type_inv.fields.1.1.1.0.1)

end_is : (c : After-struct_told-1) → let z = c.args.fields.end in to_z w32 (of_z w32 z) ≡ z
end_is c = to_z-of_z {w = w32} (sfits_of c.type_inv.fields.1.1.1.1.0.1)

step_is : (c : After-struct_told-1) → let f = c.args.fields in step c ≡ f.end -ℤ f.start
step_is c = ap₂ (λ (x y : ℤ). x -ℤ y) (end_is c) (start_is c)

step_fits : (c : After-struct_told-1) → SFits w32 (step c)
step_fits c = let h = c.requires in rw (step_is c) (fits_within {k = 200_000} tt (within_difference h.end h.start))

first_is : (c : After-struct_told-2-1) → let z = c.args.fields.start in
    to_z w32 (of_z w32 z) ≡ z
first_is c = to_z-of_z {w = w32} (sfits_of c.type_inv.fields.1.1.1.0.1)

starts : (c : After-struct_told-2-1) → let f = c.args.fields in
    pos 75 *ℤ to_z w32 (of_z w32 f.start) ≡ ramp f 0
starts c =
    let f = c.args.fields in
    ap (λ (z : ℤ). pos 75 *ℤ z) (first_is c)
    ∙ ring (v (pos 75) ⊗ v f.start) (v (pos 75) ⊗ v f.start ⊕ (v f.end ⊖ v f.start) ⊗ v (pos 0)) (omega arith)

starts_fits : (c : After-struct_told-2-1) → let f = c.args.fields in
    SFits w32 (pos 75 *ℤ to_z w32 (of_z w32 f.start))
starts_fits c =
    rw (starts c) (fits_within {k = 22_500_000} tt (ramp_within c.args.fields c.requires.start c.requires.end (omega arith)))

abbrev T : In-loop-t → After-struct_told-1
T c = (goal.at.In-loop-t c).After-struct_told-1

abbrev further : In-loop-t → ℤ
further c = to_z w32 c.loop-t.trajectory-bits +ℤ to_z w32 (of_z w32 (step (T c)))

further_is : (c : In-loop-t) → further c ≡ ramp (S (goal.at.In-loop-t c).At-loop-t).args.fields (c.loop-t.t + 1)
further_is c =
    ap₂ (λ (x y : ℤ). x +ℤ y) c.loop-t.invariant.1 (to_z-of_z (step_fits (T c)) ∙ step_is (T c))
    ∙ next_step (S (goal.at.In-loop-t c).At-loop-t).args.fields c.loop-t.t

further_within : (c : In-loop-t) → Within 22_500_000 (ramp (S (goal.at.In-loop-t c).At-loop-t).args.fields (c.loop-t.t + 1))
further_within c = let s = S (goal.at.In-loop-t c).At-loop-t in ramp_within s.args.fields s.requires.start s.requires.end (omega arith)

further_fits : (c : In-loop-t) → SFits w32 (further c)
further_fits c = rw (further_is c) (fits_within {k = 22_500_000} tt (further_within c))

-- what stands at the point, what is read, and what comes of it
deviations_many : (l : At-loop-t) → length l.loop-t.deviations ≡ length (S l).args.deviations.now
deviations_many l = ap length l.loop-t.invariant.2 ∙ filled_length l.loop-t.t (devs (S l)) (S l).args.deviations.now

old_is : (c : After-old-1) → to_z w64 (of_z w64 (get_or c.loop-t.deviations c.loop-t.t (pos 0))) ≡ held (S (goal.at.After-old-1 c).At-loop-t).args.deviations.now c.loop-t.t
old_is c =
    to_z-of_z {w = w64} (sfits_of c.old-1.given) ∙ ap (λ (xs : List ℤ). get_or xs c.loop-t.t (pos 0)) c.loop-t.invariant.2
    ∙ filled_past c.loop-t.t (devs (S (goal.at.After-old-1 c).At-loop-t)) (S (goal.at.After-old-1 c).At-loop-t).args.deviations.now c.loop-t.t (pos 0) (omega arith)

read : (c : After-reading) → to_z w32 (of_z w32 c.reading.result) ≡ reading_at (S (goal.at.After-reading c).At-loop-t).args.part.now c.loop-t.t
read c =
    back w32 c.reading.type_inv (c.reading.ensures ∙ reading_inside (S (goal.at.After-reading c).At-loop-t).args.part.now c.loop-t.t (omega arith))

off_is : (c : After-deviation) → let l = L c in
    to_z w64 (of_z w64 c.deviation.result) ≡ deviated (S l).args.fields (reading_at (S l).args.part.now) l.loop-t.t
off_is c =
    let l = L c in
    let f = (S l).args.fields in
    back w64 c.deviation.type_inv (rw (read (goal.at.After-deviation c).After-reading, to_z-of_z (further_fits (goal.at.After-deviation c).In-loop-t), further_is (goal.at.After-deviation c).In-loop-t) at c.deviation.ensures)
    ∙ ap (λ (z : ℤ). turned f.kind z) (off_ramp f (reading_at (S l).args.part.now l.loop-t.t) l.loop-t.t)

abbrev added : After-deviation → ℤ
added c = let l = L c in to_z w64 (of_z w64 (get_or l.loop-t.deviations l.loop-t.t (pos 0))) +ℤ to_z w64 (of_z w64 c.deviation.result)

added_is : (c : After-deviation) → added c ≡ devs (S (L c)) (L c).loop-t.t
added_is c = ap₂ (λ (x y : ℤ). x +ℤ y) (old_is (goal.at.After-deviation c).After-old-1) (off_is c)

new_within : (c : After-deviation) → Within most_deviation (devs (S (L c)) (L c).loop-t.t)
new_within c =
    let l = L c in
    let s = S l in
    let f = s.args.fields in
    let t = l.loop-t.t in
    let k : t < points = omega arith in
    within_sum (s.requires.deviations.here t k)
    (turned_within f.kind (line_within (reading_at s.args.part.now t) f.start f.end t k (s.requires.readings.here t k) s.requires.start
    s.requires.end))

new_fits : (c : After-deviation) → SFits w64 (added c)
new_fits c = rw (added_is c) (fits_within {k = most_deviation} tt (new_within c))

new_is : (c : After-deviation) → to_z w64 (of_z w64 (added c)) ≡ devs (S (L c)) (L c).loop-t.t
new_is c = to_z-of_z (new_fits c) ∙ added_is c

pub overflow_sub-step : goal.overflow_sub-step
overflow_sub-step c = step_fits (goal.at.overflow_sub-step c).After-struct_told-1

pub overflow_mul-trajectory : goal.overflow_mul-trajectory
overflow_mul-trajectory c = starts_fits (goal.at.overflow_mul-trajectory c).After-struct_told-2-1

pub loop-t-init : goal.loop-t-init
loop-t-init c =
    (omega arith, to_z-of_z (starts_fits (goal.at.loop-t-init c).After-struct_told-2-1) ∙ starts (goal.at.loop-t-init c).After-struct_told-2-1, sym (filled_none _ _), none_yet (from (goal.at.loop-t-init c).Start) (moves (goal.at.loop-t-init c).Start) c.args.sums.now)

pub overflow_add-trajectory : goal.overflow_add-trajectory
overflow_add-trajectory c = further_fits (goal.at.overflow_add-trajectory c).In-loop-t

pub offset_bounds-deviations-t : goal.offset_bounds-deviations-t
offset_bounds-deviations-t c = omega (arith, (S (goal.at.offset_bounds-deviations-t c).At-loop-t).requires.deviations_long)

pub slice_copy_out-old : goal.slice_copy_out-old
slice_copy_out-old c = omega (arith, (S (goal.at.slice_copy_out-old c).At-loop-t).requires.deviations_long, deviations_many (goal.at.slice_copy_out-old c).At-loop-t)

pub deviation-requires : goal.deviation-requires
deviation-requires c =
    rw (read (goal.at.deviation-requires c).After-reading, to_z-of_z (further_fits (goal.at.deviation-requires c).In-loop-t), further_is (goal.at.deviation-requires c).In-loop-t) ((S (goal.at.deviation-requires c).At-loop-t).requires.readings.here c.loop-t.t (omega arith), further_within (goal.at.deviation-requires c).In-loop-t)

pub overflow_add-new : goal.overflow_add-new
overflow_add-new c = new_fits (goal.at.overflow_add-new c).After-deviation

pub offset_bounds-deviations-t-in-loop-t : goal.offset_bounds-deviations-t-in-loop-t
offset_bounds-deviations-t-in-loop-t c = omega (arith, (S (L (goal.at.offset_bounds-deviations-t-in-loop-t c).After-deviation)).requires.deviations_long)

pub bounds-deviations-t : goal.bounds-deviations-t
bounds-deviations-t c = omega (arith, (S (L (goal.at.bounds-deviations-t c).After-deviation)).requires.deviations_long, deviations_many (L (goal.at.bounds-deviations-t c).After-deviation))

pub overflow_add-start : goal.overflow_add-start
overflow_add-start c = omega (arith, (S (L (goal.at.overflow_add-start c).After-deviation)).requires.region)

pub move_part-requires : goal.move_part-requires
move_part-requires c =
    let l = L (goal.at.move_part-requires c).After-deviation in
    let s = S l in
    rw (new_is (goal.at.move_part-requires c).After-deviation, old_is (goal.at.move_part-requires c).After-old-1)
    (record {
      before = s.requires.deviations.here l.loop-t.t (omega arith);
      after = new_within (goal.at.move_part-requires c).After-deviation;
      long = far (from s) (moves s) s.args.sums.now (reach s) (omega arith) l.loop-t.invariant.3;
      above = rw (above (from s) (moves s) s.args.sums.now (reach s) (omega arith) l.loop-t.invariant.3) (s.requires.sums.here l.loop-t.t (omega arith));
      below =
          rw (below (from s) (moves s) s.args.sums.now (reach s) (omega arith) l.loop-t.invariant.3)
          (s.requires.sums.here (l.loop-t.t + points) (omega arith));
    })

pub loop-t-preserved : goal.loop-t-preserved
loop-t-preserved c =
    let l = L (goal.at.loop-t-preserved c).After-deviation in
    let s = S l in
    let t = l.loop-t.t in (
      omega arith,
      to_z-of_z (further_fits (goal.at.loop-t-preserved c).In-loop-t) ∙ further_is (goal.at.loop-t-preserved c).In-loop-t,
      filled_store t (devs s) s.args.deviations.now l.loop-t.deviations _ l.loop-t.invariant.2 (new_is (goal.at.loop-t-preserved c).After-deviation),
      (rw (new_is (goal.at.loop-t-preserved c).After-deviation, old_is (goal.at.loop-t-preserved c).After-old-1) at c.move_part.ensures)
          ∙ two_more (from s) (moves s) s.args.sums.now (reach s) (omega arith) l.loop-t.invariant.3 (moves_above s t (omega arith))
          (moves_below s t (omega arith)),
    )

pub returns : goal.returns
returns c =
    let s = S (goal.at.returns c).At-loop-t in
    let all : c.loop-t.t ≡ points = omega arith in
    record {
      sums = (rw all at c.loop-t.invariant.3) ∙ all_added (from s) (moves s) s.args.sums.now;
      deviations = rw all at c.loop-t.invariant.2;
    }
