-- Each of the two sums has its part changed: the larger and the smaller of 0 and a deviation are its parts above and below zero.
use Rattle.std.proofs.Common.{◌≡◌, ◌+◌, Bool, ◌&&◌, List, length, get_or, set, ℤ, pos, ◌+ℤ◌, sym, ap, ◌∙◌, ap₂, arith, length-set, get_or-set_other, to_z-of_z, w64, SFits, to_z, of_z}
use Rattle.integers.specs.Bounds.{Within}
use Rattle.integers.proofs.Bounds.{within_difference, within_sum, within_wider, fits_within}
use Rattle.integers.proofs.Casts.{back}
use Rattle.rules.specs.declared.Direction.{Direction}
use Rattle.rules.specs.declared.Direction.TheVariants.{Raise, Lower}
use Rattle.rules.specs.Quantities.{points}
use Rattle.rules.specs.Performance.{wanted}
use Rattle.laws.proofs.PerformanceLaws.{wanted_within}
use Rattle.laws.proofs.SeriesLaws.{wanted_raise, wanted_lower}
use Rattle.units.specs.Points.{most_sum}
use Rattle.units.specs.Groups.{most_deviation, change}
use Rattle.units.proofs.GroupsLaws.{when_within}
use Rattle.units.proofs.plant.move_part.Goals as goal
use Rattle.units.proofs.plant.move_part.Goals.{After-change, After-change-2, After-max, After-max-2, After-min, After-min-2, After-sums-1, After-sums-2-1, Start}

abbrev A : After-max-2 → Start
A c = (goal.at.After-max-2 c).Start

abbrev C : After-sums-2-1 → After-sums-1
C c = (goal.at.After-sums-2-1 c).After-sums-1

abbrev B : After-min-2 → Start
B c = A (goal.at.After-min-2 c).After-max-2

-- the parts of both deviations
larger_old : (c : After-max) → to_z w64 (of_z w64 c.max.result) ≡ wanted Raise c.args.old
larger_old c =
    back w64 c.max.type_inv ((rw (to_z-of_z c.ranges.old) at c.max.ensures) ∙ sym (wanted_raise c.args.old))

larger_new : (c : After-max-2) → to_z w64 (of_z w64 c.max-2.result) ≡ wanted Raise (A c).args.new
larger_new c = back w64 c.max-2.type_inv ((rw (to_z-of_z (A c).ranges.new) at c.max-2.ensures) ∙ sym (wanted_raise (A c).args.new))

smaller_old : (c : After-min) → let s = A (goal.at.After-min c).After-max-2 in to_z w64 (of_z w64 c.min.result) ≡ wanted Lower s.args.old
smaller_old c =
    let s = A (goal.at.After-min c).After-max-2 in
    back w64 c.min.type_inv ((rw (to_z-of_z s.ranges.old) at c.min.ensures) ∙ sym (wanted_lower s.args.old))

smaller_new : (c : After-min-2) → to_z w64 (of_z w64 c.min-2.result) ≡ wanted Lower (B c).args.new
smaller_new c = back w64 c.min-2.type_inv ((rw (to_z-of_z (B c).ranges.new) at c.min-2.ensures) ∙ sym (wanted_lower (B c).args.new))

module _ (s : Start) where
  old_within : (d : Direction) → Within most_deviation (wanted d s.args.old)
  old_within d = wanted_within d s.args.old (within_wider (omega arith) s.requires.before)

  new_within : (d : Direction) → Within most_deviation (wanted d s.args.new)
  new_within d = wanted_within d s.args.new s.requires.after

  -- what is added on a side
  abbrev changed : Direction → ℤ
  changed d = change s.args.before (wanted d s.args.old) (s.args.before && s.args.good) (wanted d s.args.new)

  changed_within : (d : Direction) → Within (most_deviation + most_deviation) (changed d)
  changed_within d = within_difference (when_within (s.args.before && s.args.good) (new_within d)) (when_within s.args.before (old_within d))

  sum_fits : (d : Direction) {x : ℤ} → Within most_sum x → SFits w64 (x +ℤ changed d)
  sum_fits d h = fits_within {k = most_sum + (most_deviation + most_deviation)} tt (within_sum h (changed_within d))

  -- the sum below is not the one above
  stays : (v : ℤ) → get_or (set s.args.sums.now s.args.place v) (s.args.place + points) (pos 0)
      ≡ get_or s.args.sums.now (s.args.place + points) (pos 0)
  stays v = get_or-set_other s.args.sums.now s.args.place (s.args.place + points) v (pos 0) (λ z. omega arith)

above_is : (c : After-change) → to_z w64 (of_z w64 c.change.result) ≡ changed (A (goal.at.After-change c).After-max-2) Raise
above_is c =
    let s = A (goal.at.After-change c).After-max-2 in
    back w64 c.change.type_inv
    ((rw (larger_old (goal.at.After-change c).After-max, larger_new (goal.at.After-change c).After-max-2) at c.change.ensures)
    ∙ ap (λ (t : Bool). change s.args.before (wanted Raise s.args.old) t (wanted Raise s.args.new)) c.both-after.ensures)

below_is : (c : After-change-2) → to_z w64 (of_z w64 c.change-2.result) ≡ changed (B (goal.at.After-change-2 c).After-min-2) Lower
below_is c =
    let s = B (goal.at.After-change-2 c).After-min-2 in
    back w64 c.change-2.type_inv
    ((rw (smaller_old (goal.at.After-change-2 c).After-min, smaller_new (goal.at.After-change-2 c).After-min-2) at c.change-2.ensures)
    ∙ ap (λ (t : Bool). change s.args.before (wanted Lower s.args.old) t (wanted Lower s.args.new))
    c.both-after.ensures)

above_fits : (c : After-sums-1) → let s = A (goal.at.After-sums-1 c).After-max-2 in
    SFits w64 (to_z w64 (of_z w64 (get_or s.args.sums.now s.args.place (pos 0))) +ℤ to_z w64 (of_z w64 c.change.result))
above_fits c =
    let s = A (goal.at.After-sums-1 c).After-max-2 in
    rw (to_z-of_z (fits_within {w = w64} {k = most_sum} tt s.requires.above), above_is (goal.at.After-sums-1 c).After-change) (sum_fits s Raise s.requires.above)

stored : (c : After-sums-1) → let s = A (goal.at.After-sums-1 c).After-max-2 in
    to_z w64 (of_z w64 (to_z w64 (of_z w64 (get_or s.args.sums.now s.args.place (pos 0))) +ℤ to_z w64 (of_z w64 c.change.result)))
    ≡ get_or s.args.sums.now s.args.place (pos 0) +ℤ changed s Raise
stored c =
    let s = A (goal.at.After-sums-1 c).After-max-2 in
    to_z-of_z (above_fits c) ∙ ap₂ (λ (x y : ℤ). x +ℤ y) (to_z-of_z (fits_within {w = w64} {k = most_sum} tt s.requires.above)) (above_is (goal.at.After-sums-1 c).After-change)

-- the list with the first of the two sums
abbrev half : After-sums-1 → List ℤ
half c =
    let s = A (goal.at.After-sums-1 c).After-max-2 in
    set s.args.sums.now s.args.place
    (to_z w64 (of_z w64 (to_z w64 (of_z w64 (get_or s.args.sums.now s.args.place (pos 0))) +ℤ to_z w64 (of_z w64 c.change.result))))

half_long : (c : After-sums-1) → length (half c) ≡ length (A (goal.at.After-sums-1 c).After-max-2).args.sums.now
half_long c = simp length-set

below_comes : (c : After-sums-2-1) → let s = B (goal.at.After-sums-2-1 c).After-min-2 in
    to_z w64 (of_z w64 (get_or (half (C c)) (s.args.place + points) (pos 0))) ≡ get_or s.args.sums.now (s.args.place + points) (pos 0)
below_comes c =
    let s = B (goal.at.After-sums-2-1 c).After-min-2 in
    ap (λ (z : ℤ). to_z w64 (of_z w64 z)) (stays s _) ∙ to_z-of_z (fits_within {w = w64} {k = most_sum} tt s.requires.below)

below_fits : (c : After-sums-2-1) → let s = B (goal.at.After-sums-2-1 c).After-min-2 in
    SFits w64 (to_z w64 (of_z w64 (get_or (half (C c)) (s.args.place + points) (pos 0))) +ℤ to_z w64 (of_z w64 c.change-2.result))
below_fits c = let s = B (goal.at.After-sums-2-1 c).After-min-2 in rw (below_comes c, below_is (goal.at.After-sums-2-1 c).After-change-2) (sum_fits s Lower s.requires.below)

pub change-requires : goal.change-requires
change-requires c = rw (larger_old (goal.at.change-requires c).After-max, larger_new (goal.at.change-requires c).After-max-2) (old_within (A (goal.at.change-requires c).After-max-2) Raise, new_within (A (goal.at.change-requires c).After-max-2) Raise)

pub overflow_add-sums : goal.overflow_add-sums
overflow_add-sums c = above_fits (goal.at.overflow_add-sums c).After-sums-1

pub change-requires-2 : goal.change-requires-2
change-requires-2 c = rw (smaller_old (goal.at.change-requires-2 c).After-min, smaller_new (goal.at.change-requires-2 c).After-min-2) (old_within (B (goal.at.change-requires-2 c).After-min-2) Lower, new_within (B (goal.at.change-requires-2 c).After-min-2) Lower)

pub slice_copy_out-sums-2 : goal.slice_copy_out-sums-2
slice_copy_out-sums-2 c = omega (arith, (B (goal.at.slice_copy_out-sums-2 c).After-min-2).requires.long, half_long (goal.at.slice_copy_out-sums-2 c).After-sums-1)

pub overflow_add-sums-2 : goal.overflow_add-sums-2
overflow_add-sums-2 c = below_fits (goal.at.overflow_add-sums-2 c).After-sums-2-1

pub bounds-sums-below : goal.bounds-sums-below
bounds-sums-below c = omega (arith, (B (goal.at.bounds-sums-below c).After-min-2).requires.long, half_long (C (goal.at.bounds-sums-below c).After-sums-2-1))

pub returns : goal.returns
returns c =
    let f = C (goal.at.returns c).After-sums-2-1 in
    let s = A (goal.at.After-sums-1 f).After-max-2 in
    ap₂ (λ (v w : ℤ). set (set s.args.sums.now s.args.place v) (s.args.place + points) w) (stored f)
    (to_z-of_z (below_fits (goal.at.returns c).After-sums-2-1) ∙ ap₂ (λ (x y : ℤ). x +ℤ y) (below_comes (goal.at.returns c).After-sums-2-1 ∙ sym (stays s _)) (below_is (goal.at.returns c).After-change-2))
