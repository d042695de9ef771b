-- Both pools are within the cost, and the column that holds the members' numbers keeps its length.
use mathlib.Core.Path.{◌≡◌, refl, ◌∙◌, ap}
use Prim.Native.Nat.{◌≤◌}
use lib.ListN.{length}
use native.Mathlib.Omega.{arith}
use Rattle.answer.specs.Asked.{lent_members}
use Rattle.answer.proofs.Lists.{headed_length}
use Rattle.answer.proofs.PoolsLaws.{used_cents_≤}
use Rattle.answer.proofs.ChargesLaws.{cost_charged}
use Rattle.answer.proofs.charges.charge_cost.Goals as goal
use Rattle.answer.proofs.charges.charge_cost.Goals.{After-charge_members-unused_reply, After-used_pool-used_cents, Start}

abbrev start : After-used_pool-used_cents → Start
start c = (goal.at.After-used_pool-used_cents c).Start

abbrev pooled : After-charge_members-unused_reply → After-used_pool-used_cents
pooled c = (goal.at.After-charge_members-unused_reply c).After-used_pool-used_cents

within_cost : (c : After-used_pool-used_cents) → c.used_pool-used_cents.result ≤ (start c).args.fields.cost
within_cost c =
    let a = (start c).args in
    let f = a.fields in
    omega (arith, c.used_pool-used_cents.ensures, used_cents_≤ f.cost f.enabled f.used a.reliable)

same_long : (c : After-charge_members-unused_reply) → length c.charge_members-unused_reply.new.values ≡ length (start (pooled c)).args.values.now
same_long c = ap length c.charge_members-unused_reply.ensures.column ∙ headed_length _ _

pub overflow_sub-unused_cents : goal.overflow_sub-unused_cents
overflow_sub-unused_cents c = omega (arith, within_cost (goal.at.overflow_sub-unused_cents c).After-used_pool-used_cents)

pub charge_members-used_reply-requires : goal.charge_members-used_reply-requires
charge_members-used_reply-requires c =
    let u = pooled (goal.at.charge_members-used_reply-requires c).After-charge_members-unused_reply in
    let h = (start u).requires in
    (omega (arith, h.cost, within_cost u), h.used, rw (same_long (goal.at.charge_members-used_reply-requires c).After-charge_members-unused_reply) h.members)

pub returns : goal.returns
returns c =
    let u = pooled (goal.at.returns c).After-charge_members-unused_reply in
    let a = (start u).args in
    cost_charged a.fields a.reliable a.units (lent_members a.figures.now a.homes.now a.rows.now)
    u.used_pool-used_cents.ensures refl c.charge_members-unused_reply.ensures c.charge_members-used_reply.ensures
