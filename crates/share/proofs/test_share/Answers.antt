-- `test_share` meets its contract: at each answer the tests that led there are those of the definition.
use Rattle.std.proofs.Common.{◌≡◌, ℕ, ◌≤◌, List, length, sym, ap, ◌∙◌, arith, eq-eqb, ne_eqb, le-leb}
use borrow.Author.Tests.{lt-leb}
use Rattle.rules.specs.Quantities.{total_limit, weight_limit}
use Rattle.std.specs.Prelude.{Some, Ok}
use Rattle.share.specs.Weighing.{weighed, sum_of}
use Rattle.share.proofs.Weighing.{over_limit, within_limit}
use Rattle.share.specs.Promises.{tested}
use Rattle.share.proofs.test_share.Goals as goal
use Rattle.share.proofs.test_share.Goals.{After-sum_of-sum, Else-sum-gt-WEIGHT_LIMIT, Start}

abbrev xs : Start → List ℕ
xs s = weighed s.args.source s.args.weights.now s.args.performances.now

-- what has been tested at W
module _ (c : After-sum_of-sum) where
  abbrev S : Start
  S = (goal.at.After-sum_of-sum c).Start

  roomy : length (xs S) ≤ S.args.room
  roomy = omega (arith, c.members.ensures, c.if-room-members.false)

  total : S.args.total ≤ total_limit
  total = c.if-total-gt-TOTAL_LIMIT.false

module _ (c : Else-sum-gt-WEIGHT_LIMIT) where
  sum : c.sum_of-sum.result ≡ sum_of (xs (S (goal.at.Else-sum-gt-WEIGHT_LIMIT c).After-sum_of-sum))
  sum = within_limit (sum_of (xs (S (goal.at.Else-sum-gt-WEIGHT_LIMIT c).After-sum_of-sum))) c.sum_of-sum.result c.sum_of-sum.ensures c.if-sum-gt-WEIGHT_LIMIT.false

  small : sum_of (xs (S (goal.at.Else-sum-gt-WEIGHT_LIMIT c).After-sum_of-sum)) ≤ weight_limit
  small = omega (arith, sum, c.if-sum-gt-WEIGHT_LIMIT.false)

pub returns-then-room-members : goal.returns-then-room-members
unfolding tested
returns-then-room-members c =
    rw (lt-leb (length (xs (goal.at.returns-then-room-members c).Start)) c.args.room (omega (arith, c.members.ensures, c.if-room-members.true)))

pub returns-then-total-gt-TOTAL_LIMIT : goal.returns-then-total-gt-TOTAL_LIMIT
unfolding tested
returns-then-total-gt-TOTAL_LIMIT c =
    rw (
      le-leb (length (xs (goal.at.returns-then-total-gt-TOTAL_LIMIT c).Start)) c.args.room (omega (arith, c.members.ensures, c.if-room-members.false)),
      lt-leb c.args.total total_limit c.if-total-gt-TOTAL_LIMIT.true,
    )

pub returns-then-sum-gt-WEIGHT_LIMIT : goal.returns-then-sum-gt-WEIGHT_LIMIT
unfolding tested
returns-then-sum-gt-WEIGHT_LIMIT c =
    let s = S (goal.at.returns-then-sum-gt-WEIGHT_LIMIT c).After-sum_of-sum in
    rw (
      le-leb (length (xs s)) s.args.room (roomy (goal.at.returns-then-sum-gt-WEIGHT_LIMIT c).After-sum_of-sum),
      le-leb s.args.total total_limit (total (goal.at.returns-then-sum-gt-WEIGHT_LIMIT c).After-sum_of-sum),
      lt-leb (sum_of (xs s)) weight_limit (over_limit (sum_of (xs s)) c.sum_of-sum.result c.sum_of-sum.ensures c.if-sum-gt-WEIGHT_LIMIT.true),
    )

pub returns-then-sum-eq0 : goal.returns-then-sum-eq0
unfolding tested
returns-then-sum-eq0 c =
    let s = S (goal.at.returns-then-sum-eq0 c).After-sum_of-sum in
    rw (
      le-leb (length (xs s)) s.args.room (roomy (goal.at.returns-then-sum-eq0 c).After-sum_of-sum),
      le-leb s.args.total total_limit (total (goal.at.returns-then-sum-eq0 c).After-sum_of-sum),
      le-leb (sum_of (xs s)) weight_limit (small (goal.at.returns-then-sum-eq0 c).Else-sum-gt-WEIGHT_LIMIT),
      eq-eqb (sum_of (xs s)) 0 (sym (sum (goal.at.returns-then-sum-eq0 c).Else-sum-gt-WEIGHT_LIMIT) ∙ c.if-sum-eq0.true),
    )

pub returns : goal.returns
unfolding tested
returns c =
    let s = S (goal.at.returns c).After-sum_of-sum in
    rw (
      le-leb (length (xs s)) s.args.room (roomy (goal.at.returns c).After-sum_of-sum),
      le-leb s.args.total total_limit (total (goal.at.returns c).After-sum_of-sum),
      le-leb (sum_of (xs s)) weight_limit (small (goal.at.returns c).Else-sum-gt-WEIGHT_LIMIT),
      ne_eqb (sum_of (xs s)) 0 (λ e. c.if-sum-eq0.false (sum (goal.at.returns c).Else-sum-gt-WEIGHT_LIMIT ∙ e)),
    ) (ap (λ (W : ℕ). Ok (Some W)) (sum (goal.at.returns c).Else-sum-gt-WEIGHT_LIMIT))
