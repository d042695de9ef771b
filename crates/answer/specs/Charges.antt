-- A requirement's cost, charged to its members: the unused part over their unused defaults, then the used part over their used ones.
use Rattle.std.specs.Prelude.{◌≡◌, Bool, List, ℕ, ◌-◌, ◌≤◌, ◌<◌, ℤ}
use Rattle.rules.specs.Quantities.{cost_limit, amount_limit}
use Rattle.interval.specs.Lent.{Lent}
use Rattle.book.specs.declared.RequirementFields.{RequirementFields}
use Rattle.answer.specs.declared.Field.TheVariants.{Used, Unused}
use Rattle.answer.specs.declared.Member.{Member}
use Rattle.answer.specs.declared.charges.Charges.{Charges}
use Rattle.answer.specs.Lists.{headed}
use Rattle.answer.specs.Values.{numbers, MembersThere}
use Rattle.answer.specs.Pools.{used_cents}
use Rattle.answer.specs.Shares.{MembersCharged}

pub record CostTested (f : RequirementFields) (units : ℕ) (l : Lent) (residual : Member) (values_length used_length unused_length : ℕ) : Type 0 where
  pub cost : f.cost ≤ cost_limit
  pub enabled : f.enabled ≤ amount_limit
  pub used : units < used_length
  pub unused : units < unused_length
  pub members : MembersThere units f.direction f.set l residual values_length

module _ (f : RequirementFields) (reliable : Bool) (units : ℕ) (l : Lent) where
  -- the column of numbers between the two
  abbrev pub middle : List ℤ → List ℤ
  middle old = headed (numbers Unused units f.direction f.set l) old

  pub record CostCharged (old was_used was_unused : List ℤ) (r : Charges) (new now_used now_unused : List ℤ) : Type 0 where
    pub used : r.used.pool ≡ used_cents f.cost f.enabled f.used reliable
    pub unused : r.unused.pool ≡ f.cost - r.used.pool
    pub over_unused :
        MembersCharged Unused r.unused.pool units f.direction f.set l old was_unused r.unused.reply (middle old) now_unused
    pub over_used : MembersCharged Used r.used.pool units f.direction f.set l (middle old) was_used r.used.reply new now_used
