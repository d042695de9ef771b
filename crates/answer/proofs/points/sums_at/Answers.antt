-- Before a region each sum is that over the regions passed; a region adds at most 10,000,000,000,000 in size, so no step of a turn wraps.
use mathlib.Core.Path.{◌≡◌, sym, ◌∙◌, ap}
use mathlib.Core.Bool.{Bool}
use mathlib.Core.List.{[]}
use Prim.Native.Nat.{◌+◌}
use native.Mathlib.Omega.{arith}
use borrow.Author.Rules.{sfits_of}
use lib.IntN.{ℤ, pos, ◌*ℤ◌}
use lib.ListN.{get_or}
use mir.Syntax.{w32, w64}
use mir.Val.{SFits, to_z, of_z}
use mir.Facts.{to_z-of_z}
use Rattle.integers.proofs.Bounds.{fits_within}
use Rattle.integers.proofs.Casts.{back}
use Rattle.integers.specs.Sums.{when}
use Rattle.integers.proofs.Sums.{sum_none}
use Rattle.rules.specs.Quantities.{regions}
use Rattle.rules.specs.declared.Direction.TheVariants.{Raise, Lower}
use Rattle.interval.specs.Lent.{Lent, series_start, measure_held, sum_place}
use Rattle.kept.specs.Kept.{generation_of}
use Rattle.answer.specs.Asked.{lent}
use Rattle.answer.specs.Rcr.{weighed_part, sum_part}
use Rattle.answer.proofs.RcrLaws.{Turn, product_fits, weighed_turn, sum_turn}
use Rattle.answer.proofs.points.sums_at.Goals as goal
use Rattle.answer.proofs.points.sums_at.Goals.{After-covers-counts, After-if_counted-arg-1, After-if_counted-fallen, After-if_counted-risen, After-if_counted-weighed, After-measure_held-measure, At-loop-region, Start}

abbrev L : After-covers-counts → At-loop-region
L c = (goal.at.After-covers-counts c).At-loop-region

abbrev S : After-covers-counts → Start
S c = (goal.at.At-loop-region (L c)).Start

abbrev lists : After-covers-counts → Lent
lists c = lent (S c).args.measures.now (S c).args.sums.now (S c).args.figures.now [] []

abbrev generated : After-covers-counts → ℤ
generated c = generation_of (lists c) (L c).loop-region.region

abbrev kept : After-covers-counts → ℤ
kept c = get_or (S c).args.measures.now (series_start (L c).loop-region.region + (S c).args.t) (pos 0)

abbrev measured : After-covers-counts → ℤ
measured c = measure_held (kept c)

whole_fits : (c : After-covers-counts) → SFits w64 (generated c *ℤ measured c)
whole_fits c = product_fits (S c).requires.1 (S c).args.set (S c).args.t (S c).requires.0 (L c).loop-region.region (omega arith)

-- FM at the point
abbrev C : After-measure_held-measure → After-covers-counts
C c = (goal.at.After-measure_held-measure c).After-covers-counts

told : (c : After-measure_held-measure) → to_z w32 (of_z w32 c.measure_held-measure.result) ≡ measured (C c)
told c = back w32 c.measure_held-measure.type_inv (c.measure_held-measure.ensures ∙ ap measure_held (to_z-of_z {w = w32} (sfits_of c.measure_held-arg-1.given)))

measure_fits : (c : After-measure_held-measure) → SFits w64 (measured (C c))
measure_fits c = fits_within tt ((S (C c)).requires.1.measures_within (L (C c)).loop-region.region (S (C c)).args.t (omega arith) (S (C c)).requires.0)

measure_is : (c : After-measure_held-measure) → to_z w64 (of_z w64 (to_z w32 (of_z w32 c.measure_held-measure.result))) ≡ measured (C c)
measure_is c = ap (λ (z : ℤ). to_z w64 (of_z w64 z)) (told c) ∙ to_z-of_z (measure_fits c)

generated_fits : (c : After-if_counted-arg-1) → SFits w64 (generated (C (goal.at.After-if_counted-arg-1 c).After-measure_held-measure))
generated_fits c = sfits_of c.if_counted-arg-1.given

abbrev W : After-if_counted-weighed → After-covers-counts
W c = C (goal.at.After-if_counted-weighed c).After-measure_held-measure

weighing :
    (c : After-if_counted-weighed) → Turn (weighed_part (S (W c)).args.set (lists (W c)) (S (W c)).args.t) (L (W c)).loop-region.region
    (to_z w64 (L (W c)).loop-region.weighed-bits) c.if_counted-weighed.result
weighing c =
    let d = W c in
    weighed_turn (S d).requires.1 (S d).args.set (S d).args.t (S d).requires.0 _ _ _ (omega arith) (L d).loop-region.invariant.1
    (simp (to_z-of_z, generated_fits (goal.at.After-if_counted-weighed c).After-if_counted-arg-1, measure_is (goal.at.After-if_counted-weighed c).After-measure_held-measure, whole_fits d) at c.if_counted-weighed.ensures
    ∙ ap (λ (s : Bool). when s (generated d *ℤ measured d)) d.covers-counts.ensures)

abbrev R : After-if_counted-risen → After-covers-counts
R c = W (goal.at.After-if_counted-risen c).After-if_counted-weighed

rising :
    (c : After-if_counted-risen) → Turn (sum_part Raise (S (R c)).args.set (lists (R c)) (S (R c)).args.t) (L (R c)).loop-region.region
    (to_z w64 (L (R c)).loop-region.risen-bits) c.if_counted-risen.result
rising c =
    let d = R c in
    sum_turn (S d).requires.1 (S d).args.set (S d).args.t (S d).requires.0 Raise _ _ _ (omega arith) (L d).loop-region.invariant.2
    (rw (to_z-of_z (sfits_of c.if_counted-arg-in-loop-region-1.given)) at c.if_counted-risen.ensures
    ∙ ap (λ (s : Bool). when s (get_or (S d).args.sums.now (sum_place Raise (L d).loop-region.region (S d).args.t) (pos 0))) d.covers-counts.ensures)

abbrev P : After-if_counted-fallen → After-covers-counts
P c = R (goal.at.After-if_counted-fallen c).After-if_counted-risen

falling :
    (c : After-if_counted-fallen) → Turn (sum_part Lower (S (P c)).args.set (lists (P c)) (S (P c)).args.t) (L (P c)).loop-region.region
    (to_z w64 (L (P c)).loop-region.fallen-bits) c.if_counted-fallen.result
falling c =
    let d = P c in
    sum_turn (S d).requires.1 (S d).args.set (S d).args.t (S d).requires.0 Lower _ _ _ (omega arith) (L d).loop-region.invariant.3
    (rw (to_z-of_z (sfits_of c.if_counted-arg-in-loop-region-2-1.given)) at c.if_counted-fallen.ensures
    ∙ ap (λ (s : Bool). when s (get_or (S d).args.sums.now (sum_place Lower (L d).loop-region.region (S d).args.t) (pos 0))) d.covers-counts.ensures)

pub loop-region-init : goal.loop-region-init
loop-region-init c = (omega arith, sym (sum_none _), sym (sum_none _), sym (sum_none _))

pub bounds-measures-region : goal.bounds-measures-region
bounds-measures-region c = omega (arith, (S (goal.at.bounds-measures-region c).After-covers-counts).requires.1.measures_long)

pub overflow_cast-measure : goal.overflow_cast-measure
overflow_cast-measure c = rw (told (goal.at.overflow_cast-measure c).After-measure_held-measure) (measure_fits (goal.at.overflow_cast-measure c).After-measure_held-measure)

pub bounds-figures-region : goal.bounds-figures-region
bounds-figures-region c = omega (arith, (S (C (goal.at.bounds-figures-region c).After-measure_held-measure)).requires.1.figures_long)

pub overflow_mul-figures : goal.overflow_mul-figures
overflow_mul-figures c = simp (to_z-of_z, generated_fits (goal.at.overflow_mul-figures c).After-if_counted-arg-1, measure_is (goal.at.overflow_mul-figures c).After-measure_held-measure) (whole_fits (C (goal.at.overflow_mul-figures c).After-measure_held-measure))

pub overflow_add-weighed : goal.overflow_add-weighed
overflow_add-weighed c = let k = weighing (goal.at.overflow_add-weighed c).After-if_counted-weighed in rw (to_z-of_z k.part_fits) k.sum_fits

pub bounds-sums-start : goal.bounds-sums-start
bounds-sums-start c = omega (arith, (S (W (goal.at.bounds-sums-start c).After-if_counted-weighed)).requires.1.sums_long)

pub overflow_add-risen : goal.overflow_add-risen
overflow_add-risen c = let k = rising (goal.at.overflow_add-risen c).After-if_counted-risen in rw (to_z-of_z k.part_fits) k.sum_fits

pub bounds-sums-start-in-loop-region : goal.bounds-sums-start-in-loop-region
bounds-sums-start-in-loop-region c = omega (arith, (S (R (goal.at.bounds-sums-start-in-loop-region c).After-if_counted-risen)).requires.1.sums_long)

pub overflow_add-fallen : goal.overflow_add-fallen
overflow_add-fallen c = let k = falling (goal.at.overflow_add-fallen c).After-if_counted-fallen in rw (to_z-of_z k.part_fits) k.sum_fits

pub loop-region-preserved : goal.loop-region-preserved
loop-region-preserved c =
    let w = weighing (goal.at.loop-region-preserved c).After-if_counted-weighed in
    let r = rising (goal.at.loop-region-preserved c).After-if_counted-risen in
    let f = falling (goal.at.loop-region-preserved c).After-if_counted-fallen in
    rw (to_z-of_z w.part_fits, to_z-of_z w.sum_fits, to_z-of_z r.part_fits, to_z-of_z r.sum_fits, to_z-of_z f.part_fits, to_z-of_z f.sum_fits)
    (omega arith, w.sum_is, r.sum_is, f.sum_is)

pub returns : goal.returns
returns c =
    let e : c.loop-region.region ≡ regions = omega arith in
    record { weighed = rw e at c.loop-region.invariant.1; positive = rw e at c.loop-region.invariant.2; negative = rw e at c.loop-region.invariant.3 }
