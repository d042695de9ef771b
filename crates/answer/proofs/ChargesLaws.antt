-- Laws of the definitions in specs/Charges.antt.
use mathlib.Core.Path.{◌≡◌}
use mathlib.Core.Bool.{Bool}
use mathlib.Core.List.{List}
use Prim.Native.Nat.{ℕ, ◌-◌}
use lib.IntN.{ℤ}
use Rattle.interval.specs.Lent.{Lent}
use Rattle.book.specs.declared.RequirementFields.{RequirementFields}
use Rattle.answer.specs.declared.Field.TheVariants.{Used, Unused}
use Rattle.answer.specs.declared.charges.Charges.{Charges}
use Rattle.answer.specs.Pools.{used_cents}
use Rattle.answer.specs.Shares.{MembersCharged}
use Rattle.answer.specs.Charges.{CostCharged}

module _ (f : RequirementFields) (reliable : Bool) (units : ℕ) (l : Lent) where
  pub cost_charged :
      {r : Charges} {old middle new was_used was_unused now_used now_unused : List ℤ} → r.used.pool ≡ used_cents f.cost f.enabled f.used reliable →
      r.unused.pool ≡ f.cost - r.used.pool → MembersCharged Unused r.unused.pool units f.direction f.set l old was_unused
      r.unused.reply middle now_unused → MembersCharged Used r.used.pool units f.direction f.set l middle was_used r.used.reply
      new now_used → (CostCharged f reliable units l) old was_used was_unused r new now_used now_unused
  cost_charged eu ev first second =
      record {
        used = eu;
        unused = ev;
        over_unused = rw first.column at first;
        over_used = rw first.column at second;
      }
