-- Plants (02, R-5; 01, The rules): what a roster has as members. A plant is a unit without a group, or a group of units that are dispatched together.
use Rattle.std.specs.Prelude.{Bool, cond, ◌&&◌, List, [], ◌∷◌, ℕ, ◌+◌, ℤ, neg_ℤ, ◌+ℤ◌}
use Rattle.integers.specs.Totals.{total, those}
use Rattle.rules.specs.Book.{ByDirection, Defaults, Unit}
use Rattle.rules.specs.Groups.{same_group}
use Rattle.rules.specs.Deviation.{deviation, good}

pub record Plant : Type 0 where
  pub number : ℕ
  pub region : ℕ
  pub group : ℕ
  pub defaults : ByDirection Defaults
  pub units : ℕ
  pub deviation : ℕ → ℤ
  pub good : Bool

-- a unit by itself; it is the primary of the group that it may start
abbrev pub alone : Unit → Plant
alone u =
    record { number = u.number; region = u.region; group = u.group; defaults = u.defaults; units = 1; deviation = deviation u; good = good u }

-- the group goes by its primary's number and defaults; its deviation is the sum of its units', each with its own kind's sign; one bad unit makes it bad
abbrev pub with_unit : Plant → Unit → Plant
with_unit p u =
    record {
      number = p.number;
      region = p.region;
      group = p.group;
      defaults = p.defaults;
      units = p.units + 1;
      deviation = λ t. p.deviation t +ℤ deviation u t;
      good = p.good && good u;
    }

-- the plant that a unit is of, behind another one: that one with it, or its own
abbrev pub behind : Plant → Unit → Plant
behind p u = cond (same_group p.group u.group) (with_unit p u) (alone u)

-- the plants of units that follow a plant, with it, in roster order
unfoldable pub plants_from : Plant → List Unit → List Plant
plants_from p [] = p ∷ []
plants_from p (u ∷ us) = let rest = plants_from (behind p u) us in cond (same_group p.group u.group) rest (p ∷ rest)

unfoldable pub plants : List Unit → List Plant
plants [] = []
plants (u ∷ us) = plants_from (alone u) us

-- the plants of some regions, in roster order, and the good ones among plants
abbrev pub plants_in : (ℕ → Bool) → List Plant → List Plant
plants_in set ps = those (λ p. set p.region) ps

abbrev pub good_plants : List Plant → List Plant
good_plants ps = those (λ p. p.good) ps

-- the residual deviation is minus the sum over the good ones
abbrev pub residual_deviation : List Plant → ℕ → ℤ
residual_deviation ps t = neg_ℤ (total (λ p. p.deviation t) (good_plants ps))
