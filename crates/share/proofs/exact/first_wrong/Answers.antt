-- The tests in their order; then what is found, with the ratios of both sides.
use Rattle.std.proofs.Common.{◌≡◌, ℕ, ◌≤◌, List, length, ℤ, sym, refl, ap, ◌∙◌, arith, eq-eqb, ne_eqb, le-leb}
use Rattle.std.specs.Prelude.{Ok}
use borrow.Author.Tests.{lt-leb}
use Rattle.rules.specs.declared.Side.TheVariants.{Positive, Negative}
use Rattle.rules.specs.Quantities.{total_limit, weight_limit}
use Rattle.rules.specs.Sheet.{side_total, members_reply}
use Rattle.share.specs.Exact.{Sided, looked}
use Rattle.share.proofs.Weighing.{over_limit, within_limit}
use Rattle.share.proofs.exact.first_wrong.Goals as goal
use Rattle.share.proofs.exact.first_wrong.Goals.{After-side_rate, After-side_rate-2, After-side_sum-down, After-side_sum-up, Else-down-gt-WEIGHT_LIMIT, Else-up-gt-WEIGHT_LIMIT, Start}

abbrev ps : Start → List ℤ
ps s = s.args.performances.now

abbrev fs : Start → List ℤ
fs s = s.args.amounts.now

-- the positive side's total
module _ (c : Else-up-gt-WEIGHT_LIMIT) where
  abbrev u : After-side_sum-up
  u = (goal.at.Else-up-gt-WEIGHT_LIMIT c).After-side_sum-up

  abbrev s : Start
  s = (goal.at.After-side_sum-up u).Start

  up_is : u.side_sum-up.result ≡ side_total Positive (ps s)
  up_is = within_limit (side_total Positive (ps s)) u.side_sum-up.result u.side_sum-up.ensures c.if-up-gt-WEIGHT_LIMIT.false

  up_small : side_total Positive (ps s) ≤ weight_limit
  up_small = omega (arith, up_is, c.if-up-gt-WEIGHT_LIMIT.false)

-- and the negative side's
module _ (c : Else-down-gt-WEIGHT_LIMIT) where
  abbrev v : After-side_sum-down
  v = (goal.at.Else-down-gt-WEIGHT_LIMIT c).After-side_sum-down

  abbrev e : Else-up-gt-WEIGHT_LIMIT
  e = (goal.at.After-side_sum-down v).Else-up-gt-WEIGHT_LIMIT

  down_is : v.side_sum-down.result ≡ side_total Negative (ps (s e))
  down_is = within_limit (side_total Negative (ps (s e))) v.side_sum-down.result v.side_sum-down.ensures c.if-down-gt-WEIGHT_LIMIT.false

  down_small : side_total Negative (ps (s e)) ≤ weight_limit
  down_small = omega (arith, down_is, c.if-down-gt-WEIGHT_LIMIT.false)

-- their ratios
module _ (c : After-side_rate-2) where
  abbrev r : After-side_rate
  r = (goal.at.After-side_rate-2 c).After-side_rate

  abbrev k : Else-down-gt-WEIGHT_LIMIT
  k = (goal.at.After-side_rate r).Else-down-gt-WEIGHT_LIMIT

  rates : Sided r.side_rate.result c.side_rate-2.result (ps (s (e k)))
  rates =
      let a = r.side_rate.ensures in
      let b = c.side_rate-2.ensures in
      record {
        above = record { rated = a.rated; total = refl; sum = λ h. a.sum (rw (up_is (e k)) h) ∙ up_is (e k) };
        below = record { rated = b.rated; total = b.total ∙ sym a.total; sum = λ h. b.sum (rw (down_is k) h) ∙ down_is k };
      }

pub returns-then-performances-amounts : goal.returns-then-performances-amounts
unfolding members_reply
returns-then-performances-amounts c =
    record { reply = rw (ne_eqb (length (ps (goal.at.returns-then-performances-amounts c).Start)) (length (fs (goal.at.returns-then-performances-amounts c).Start)) c.if-performances-amounts.true) }

pub returns-then-total-gt-TOTAL_LIMIT : goal.returns-then-total-gt-TOTAL_LIMIT
unfolding members_reply
returns-then-total-gt-TOTAL_LIMIT c =
    record { reply = rw (eq-eqb (length (ps (goal.at.returns-then-total-gt-TOTAL_LIMIT c).Start)) (length (fs (goal.at.returns-then-total-gt-TOTAL_LIMIT c).Start)) c.if-performances-amounts.false, lt-leb c.args.total total_limit c.if-total-gt-TOTAL_LIMIT.true) }

pub returns-then-up-gt-WEIGHT_LIMIT : goal.returns-then-up-gt-WEIGHT_LIMIT
unfolding members_reply
returns-then-up-gt-WEIGHT_LIMIT c =
    record {
      reply = rw (
        eq-eqb (length (ps (goal.at.returns-then-up-gt-WEIGHT_LIMIT c).Start)) (length (fs (goal.at.returns-then-up-gt-WEIGHT_LIMIT c).Start)) c.if-performances-amounts.false,
        le-leb c.args.total total_limit c.if-total-gt-TOTAL_LIMIT.false,
        lt-leb (side_total Positive (ps (goal.at.returns-then-up-gt-WEIGHT_LIMIT c).Start)) weight_limit (over_limit (side_total Positive (ps (goal.at.returns-then-up-gt-WEIGHT_LIMIT c).Start)) c.side_sum-up.result c.side_sum-up.ensures c.if-up-gt-WEIGHT_LIMIT.true),
      );
    }

pub returns-then-down-gt-WEIGHT_LIMIT : goal.returns-then-down-gt-WEIGHT_LIMIT
unfolding members_reply
returns-then-down-gt-WEIGHT_LIMIT c =
    let s = s (goal.at.returns-then-down-gt-WEIGHT_LIMIT c).Else-up-gt-WEIGHT_LIMIT in
    record {
      reply = rw (
        eq-eqb (length (ps s)) (length (fs s)) (u (goal.at.returns-then-down-gt-WEIGHT_LIMIT c).Else-up-gt-WEIGHT_LIMIT).if-performances-amounts.false,
        le-leb s.args.total total_limit (u (goal.at.returns-then-down-gt-WEIGHT_LIMIT c).Else-up-gt-WEIGHT_LIMIT).if-total-gt-TOTAL_LIMIT.false,
        le-leb (side_total Positive (ps s)) weight_limit (up_small (goal.at.returns-then-down-gt-WEIGHT_LIMIT c).Else-up-gt-WEIGHT_LIMIT),
        lt-leb (side_total Negative (ps s)) weight_limit
            (over_limit (side_total Negative (ps s)) c.side_sum-down.result c.side_sum-down.ensures c.if-down-gt-WEIGHT_LIMIT.true),
      );
    }

pub returns : goal.returns
unfolding members_reply
returns c =
    let f = k (goal.at.returns c).After-side_rate-2 in
    let s = s (e f) in
    record {
      reply = rw (
        eq-eqb (length (ps s)) (length (fs s)) (u (e f)).if-performances-amounts.false,
        le-leb s.args.total total_limit (u (e f)).if-total-gt-TOTAL_LIMIT.false,
        le-leb (side_total Positive (ps s)) weight_limit (up_small (e f)),
        le-leb (side_total Negative (ps s)) weight_limit (down_small f),
      ) (ap Ok c.look.ensures ∙ ap (λ (T : ℕ). Ok (looked T (ps s) (fs s))) (r (goal.at.returns c).After-side_rate-2).side_rate.ensures.total);
    }
