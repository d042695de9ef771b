-- Whether a unit may stand where it stands in its group (02, R-5): refused with 16 are a group that was left and returns, a group in two regions, and a
-- default off the primary.
use Rattle.std.specs.Prelude.{Bool, true, cond, not, ◌&&◌, ◌||◌, List, [], ◌∷◌, ℕ, eqb, ℤ, nat_abs}
use Rattle.rules.specs.declared.Refusal.TheVariants.{WrongGroup}
use Rattle.rules.specs.Refusals.{Reply, taken, unless}
use Rattle.rules.specs.Book.{ByDirection, Defaults, Unit}

-- units of a group stand next to each other and have one group number; 0 means none
abbrev pub same_group : ℕ → ℕ → Bool
same_group g h = not (eqb h 0) && eqb g h

-- a unit off the primary holds defaults of 0
abbrev pub none : ℤ → Bool
none x = eqb (nat_abs x) 0

abbrev pub three_none : Defaults → Bool
three_none f = none f.payment && (none f.used && none f.unused)

abbrev pub no_defaults : ByDirection Defaults → Bool
no_defaults f = three_none f.raise && three_none f.lower

-- no unit among these has the group number
unfoldable pub new_among : ℕ → List Unit → Bool
new_among g [] = true
new_among g (v ∷ vs) = new_among g vs && not (eqb v.group g)

-- behind the units before, the last of them first: a unit of its group right before is in one region with it and it has no defaults of its own; else no unit
-- before is of its group
unfoldable pub group_fine : List Unit → Unit → Bool
group_fine [] u = true
group_fine (v ∷ vs) u =
    cond (same_group v.group u.group) (eqb v.region u.region && no_defaults u.defaults) (eqb u.group 0 || new_among u.group (v ∷ vs))

abbrev pub in_its_group : List Unit → Unit → Reply Unit
in_its_group before u = unless (group_fine before u) WrongGroup (taken u)
