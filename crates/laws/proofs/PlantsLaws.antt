-- Laws of the plants of a roster: every unit is of one plant; a plant's deviation stays within a unit's limit for each of its units; a region's deviations
-- close; a roster without groups has its units as plants; a unit without a group parts a roster.
use mathlib.Core.Path.{◌≡◌, refl, sym, ◌∙◌, ap}
use mathlib.Core.Bool.{Bool, true, false, cond, not, ◌&&◌, ◌||◌}
use mathlib.Core.List.{List, [], ◌∷◌, ◌++◌, map}
use Prim.Native.Nat.{ℕ, suc, ◌+◌, ◌≤◌, ◌<◌}
use native.Mathlib.Nat.{add-mul}
use native.Mathlib.Omega.{arith}
use lib.Dec.{eqb}
use lib.IntN.{pos, ◌+ℤ◌, +ℤ_invr}
use lib.ListN.{length}
use borrow.Author.Tests.{eq-eqb, ne_eqb, eqb-false}
use Rattle.integers.specs.Bounds.{Within}
use Rattle.integers.proofs.Bounds.{within_sum, within_wider}
use Rattle.integers.specs.Totals.{total, totalℕ, All}
use Rattle.rules.specs.Quantities.{points, deviation_limit}
use Rattle.rules.specs.Book.{Unit}
use Rattle.rules.specs.Groups.{same_group, new_among, group_fine}
use Rattle.rules.specs.Deviation.{deviation}
use Rattle.rules.specs.Plants.{Plant, alone, with_unit, plants_from, plants, good_plants, residual_deviation}
use Rattle.laws.proofs.DeviationLaws.{deviation_within}
use Rattle.laws.proofs.Limits.{UnitFits, PlantFits}

-- ---- every unit is of one plant
many_from : (p : Plant) (us : List Unit) → totalℕ (λ p. p.units) (plants_from p us) ≡ p.units + length us
unfolding plants_from totalℕ
many_from p [] = refl
many_from p (u ∷ us) = go (λ q. many_from q us) (same_group p.group u.group)
  where
    go : ((q : Plant) → totalℕ (λ p. p.units) (plants_from q us) ≡ q.units + length us) → (t : Bool) →
        totalℕ (λ p. p.units) (cond t (plants_from (cond t (with_unit p u) (alone u)) us) (p ∷ plants_from (cond t (with_unit p u) (alone u)) us)) ≡
        p.units + suc (length us)
    go ih true = omega (arith, ih (with_unit p u))
    go ih false = omega (arith, ih (alone u))

pub plants_many : (us : List Unit) → totalℕ (λ p. p.units) (plants us) ≡ length us
unfolding plants totalℕ
plants_many [] = refl
plants_many (u ∷ us) = omega (arith, many_from (alone u) us)

few_from : (p : Plant) (us : List Unit) → length (plants_from p us) ≤ suc (length us)
unfolding plants_from
few_from p [] = omega arith
few_from p (u ∷ us) = go (λ q. few_from q us) (same_group p.group u.group)
  where
    go : ((q : Plant) → length (plants_from q us) ≤ suc (length us)) → (t : Bool) →
        length (cond t (plants_from (cond t (with_unit p u) (alone u)) us) (p ∷ plants_from (cond t (with_unit p u) (alone u)) us)) ≤ suc (suc (length us))
    go ih true = omega (arith, ih (with_unit p u))
    go ih false = omega (arith, ih (alone u))

pub plants_few : (us : List Unit) → length (plants us) ≤ length us
unfolding plants
plants_few [] = omega arith
plants_few (u ∷ us) = few_from (alone u) us

-- ---- limits
deviation_fits : (u : Unit) → UnitFits u → (t : ℕ) → t < points → Within deviation_limit (deviation u t)
deviation_fits u f = deviation_within u f.start f.end f.reading

pub alone_fits : (u : Unit) → UnitFits u → PlantFits (alone u)
alone_fits u f =
    record {
      region = f.region;
      some = omega arith;
      defaults = f.defaults;
      deviation = λ t l. within_wider (omega arith) (deviation_fits u f t l);
    }

pub with_fits : (p : Plant) (u : Unit) → PlantFits p → UnitFits u → PlantFits (with_unit p u)
with_fits p u g f =
    record {
      region = g.region;
      some = omega (arith, g.some);
      defaults = g.defaults;
      deviation = λ t l. within_wider (omega (arith, add-mul p.units 1 deviation_limit)) (within_sum (g.deviation t l) (deviation_fits u f t l));
    }

plants_from_fit : (p : Plant) (us : List Unit) → PlantFits p → All UnitFits us → All PlantFits (plants_from p us)
unfolding plants_from All
plants_from_fit p [] g a = (g, tt)
plants_from_fit p (u ∷ us) g a = go (λ q h. plants_from_fit q us h a.1) (same_group p.group u.group)
  where
    go : ((q : Plant) → PlantFits q → All PlantFits (plants_from q us)) → (t : Bool) →
        All PlantFits (cond t (plants_from (cond t (with_unit p u) (alone u)) us) (p ∷ plants_from (cond t (with_unit p u) (alone u)) us))
    go ih true = ih (with_unit p u) (with_fits p u g a.0)
    go ih false = (g, ih (alone u) (alone_fits u a.0))

pub plants_fit : (us : List Unit) → All UnitFits us → All PlantFits (plants us)
unfolding plants All
plants_fit [] a = tt
plants_fit (u ∷ us) a = plants_from_fit (alone u) us (alone_fits u a.0) a.1

-- ---- good plants and residual add up to zero at every point
pub deviation_closes : (ps : List Plant) (t : ℕ) → total (λ p. p.deviation t) (good_plants ps) +ℤ residual_deviation ps t ≡ pos 0
deviation_closes ps t = +ℤ_invr (total (λ p. p.deviation t) (good_plants ps))

-- ---- without a group: behind a plant without one, or before a unit without one, a plant ends
same_before : (g h : ℕ) → h ≡ 0 → same_group g h ≡ false
same_before g h e = rw (eq-eqb h 0 e)

same_behind : (g h : ℕ) → g ≡ 0 → same_group g h ≡ false
same_behind g h e = go (eqb h 0) refl
  where
    go : (t : Bool) → eqb h 0 ≡ t → not t && eqb g h ≡ false
    go true f = refl
    go false f = ne_eqb g h (λ q. eqb-false h 0 f (sym q ∙ e))

behind_none : (p : Plant) (us : List Unit) → p.group ≡ 0 → plants_from p us ≡ p ∷ plants us
unfolding plants_from plants
behind_none p [] e = refl
behind_none p (u ∷ us) e = rw (same_behind p.group u.group e)

parts_from : (p : Plant) (xs ys : List Unit) (u : Unit) → u.group ≡ 0 → plants_from p (xs ++ (u ∷ ys)) ≡ plants_from p xs ++ (alone u ∷ plants ys)
unfolding plants_from
parts_from p [] ys u e = rw (same_before p.group u.group e) (ap (λ (l : List Plant). p ∷ l) (behind_none (alone u) ys e))
parts_from p (x ∷ xs) ys u e = go (λ q. parts_from q xs ys u e) (same_group p.group x.group)
  where
    go : ((q : Plant) → plants_from q (xs ++ (u ∷ ys)) ≡ plants_from q xs ++ (alone u ∷ plants ys)) → (t : Bool) →
        cond t (plants_from (cond t (with_unit p x) (alone x)) (xs ++ (u ∷ ys))) (p ∷ plants_from (cond t (with_unit p x) (alone x)) (xs ++ (u ∷ ys))) ≡
        cond t (plants_from (cond t (with_unit p x) (alone x)) xs) (p ∷ plants_from (cond t (with_unit p x) (alone x)) xs) ++ (alone u ∷ plants ys)
    go ih true = ih (with_unit p x)
    go ih false = ap (λ (l : List Plant). p ∷ l) (ih (alone x))

-- a unit without a group is a plant of its own, wherever it stands
pub unit_parts : (xs ys : List Unit) (u : Unit) → u.group ≡ 0 → plants (xs ++ (u ∷ ys)) ≡ plants xs ++ (alone u ∷ plants ys)
unfolding plants
unit_parts [] ys u e = behind_none (alone u) ys e
unit_parts (x ∷ xs) ys u e = parts_from (alone x) xs ys u e

-- A ROSTER WITHOUT GROUPS HAS ITS UNITS AS PLANTS, each with its own number, region, defaults, deviation and goodness
pub ungrouped : (us : List Unit) → All (λ u. u.group ≡ 0) us → plants us ≡ map alone us
unfolding All plants
ungrouped [] a = refl
ungrouped (u ∷ us) a = behind_none (alone u) us a.0 ∙ ap (λ (l : List Plant). alone u ∷ l) (ungrouped us a.1)

-- a group of one is a unit without a group but for the number of the group
pub group_of_one : (u : Unit) → plants (u ∷ []) ≡ alone u ∷ []
unfolding plants plants_from
group_of_one u = refl

-- a plant ends before a unit without a group, and right behind such a unit no group goes on: the next unit is without one too, or of a new one
pub plant_ends : (p : Plant) (us : List Unit) (u : Unit) → u.group ≡ 0 → plants_from p (u ∷ us) ≡ p ∷ alone u ∷ plants us
unfolding plants_from
plant_ends p us u e = parts_from p [] us u e

pub fine_behind : (v : Unit) (vs : List Unit) (u : Unit) → v.group ≡ 0 → group_fine (v ∷ vs) u ≡ eqb u.group 0 || new_among u.group (v ∷ vs)
unfolding group_fine
fine_behind v vs u e = rw (same_behind v.group u.group e)
