-- What was listed is within the limits of both shares; the factors' unplaced tell the pool.
use mathlib.Core.Path.{sym, ◌∙◌}
use Prim.Native.Nat.{◌≤◌}
use lib.Dec.{eqb}
use native.Mathlib.Omega.{arith}
use Rattle.integers.specs.Pairs.{gain, loss}
use Rattle.integers.proofs.Bounds.{gain_≤, loss_≤}
use Rattle.rules.specs.Quantities.{total_limit}
use Rattle.answer.proofs.PoolsLaws.{pool_cents_within}
use Rattle.answer.proofs.SharesLaws.{front, front_shareable, members_513, members_paid, not_refused}
use Rattle.answer.proofs.shares.pay.Goals as goal
use Rattle.answer.proofs.shares.pay.Goals.{After-pool-pool, After-put_members-n, After-share_both, Start}

abbrev start : After-put_members-n → Start
start c = (goal.at.After-put_members-n c).Start

abbrev listed : After-share_both → After-put_members-n
listed c = (goal.at.After-share_both c).After-put_members-n

abbrev shared : After-pool-pool → After-share_both
shared c = (goal.at.After-pool-pool c).After-share_both

small : (c : After-pool-pool) → c.pool-pool.result ≤ total_limit
small c =
    let s = start (listed (shared c)) in
    rw c.pool-pool.ensures (pool_cents_within s.args.price s.args.rcr (eqb c.in_ok-up.up 0)
    (eqb c.in_ok-up.down 0) s.requires.0 s.requires.1)

pub share_both-requires : goal.share_both-requires
share_both-requires c =
    let s = start (goal.at.share_both-requires c).After-put_members-n in
    let l = c.put_members-n.ensures in (
      (front s.requires.4 l).0,
      front_shareable s.requires.4 l _ gain gain_≤ (omega arith) _ s.requires.2,
      front_shareable s.requires.4 l _ loss loss_≤ (omega arith) _ s.requires.2,
    )

pub pay_pool-requires : goal.pay_pool-requires
pay_pool-requires c =
    let g = listed (shared (goal.at.pay_pool-requires c).After-pool-pool) in
    let s = start g in
    let l = g.put_members-n.ensures in (
      members_513 s.requires.4 l,
      (front s.requires.4 l).0,
      front_shareable s.requires.4 l c.pool-pool.result gain gain_≤ (small (goal.at.pay_pool-requires c).After-pool-pool) _ s.requires.3,
      front_shareable s.requires.4 l c.pool-pool.result loss loss_≤ (small (goal.at.pay_pool-requires c).After-pool-pool) _ s.requires.3,
    )

pub returns : goal.returns
returns c =
    let h = shared (goal.at.returns c).After-pool-pool in
    let g = listed h in
    members_paid (start g).requires.4 g.put_members-n.ensures h.share_both.ensures c.in_ok-up.was c.pool-pool.ensures
    c.pay_pool.ensures

pub returns-in_err-up : goal.returns-in_err-up
returns-in_err-up c = not_refused c.in_err-up.field-0.0 (sym c.in_err-up.was ∙ c.share_both.ensures.reply)
