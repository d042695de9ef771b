-- `share_from` meets its contract: what the tests find decides; a column that is cleared first has nobody's key in it, and what is placed
-- in it is each member's share.
use Rattle.std.proofs.Common.{◌≡◌, ℕ, ◌≤◌, List, length, ℤ, pos, sym, refl, ap, ◌∙◌, subst, arith, None, Some, Ok, Err}
use Rattle.std.proofs.lemmas.Result.{err_from_is_err_and}
use Rattle.integers.specs.Fills.{filled}
use Rattle.integers.proofs.Fills.{filled_length}
use Rattle.share.specs.Weighing.{weighed, signed}
use Rattle.share.specs.Column.{shared_at, Clear}
use Rattle.share.proofs.Column.{clear_column, all_placed, nothing_placed}
use Rattle.share.specs.Promises.{tested}
use Rattle.share.proofs.Promises.{passed, weightless, fitted, met}
use Rattle.share.proofs.share_from.Goals as goal
use Rattle.share.proofs.share_from.Goals.{After-clear, In_ok-test, In-None, In-Some, Start}

abbrev xs : Start → List ℕ
xs s = weighed s.args.source s.args.weights.now s.args.performances.now

abbrev old : Start → List ℤ
old s = s.args.amounts.now

-- what the tests found
module _ (c : In_ok-test) where
  abbrev S : Start
  S = (goal.at.In_ok-test c).Start

  told : Ok c.in_ok-test.test ≡ tested S.args.total (xs S) (length (old S))
  told = sym c.in_ok-test.was ∙ c.test_share.ensures

  roomy : length (xs S) ≤ length (old S)
  roomy = (fitted S.args.total (xs S) (length (old S)) c.in_ok-test.test told).roomy

-- the cleared column
module _ (c : After-clear) where
  abbrev test : In_ok-test
  test = (goal.at.After-clear c).In_ok-test

  cleared : c.clear.new.amounts ≡ filled (length (xs (S test))) (λ i. pos 0) (old (S test))
  cleared = c.clear.ensures ∙ ap (λ (m : ℕ). filled m (λ i. pos 0) (old (S test))) c.members-n.ensures

ready : (c : In-Some) → let s = S (test (goal.at.In-Some c).After-clear) in Ok (Some c.in-Some.sum) ≡ tested s.args.total (xs s) (length (old s))
ready c = ap Ok (sym c.in-Some.is) ∙ told (test (goal.at.In-Some c).After-clear)

pub returns-in_err-test : goal.returns-in_err-test
returns-in_err-test c =
    let s = (goal.at.returns-in_err-test c).Start in
    let p = err_from_is_err_and c.from_residual.result c.from_residual.ensures.1 in
    met (signed s.args.source) s.args.total (xs s) (old s) (Err c.in_err-test.field-0.0) (sym c.in_err-test.was ∙ c.test_share.ensures)
    (p.1 ∙ ap Err p.2) refl

pub clear-requires : goal.clear-requires
clear-requires c = omega (arith, roomy (goal.at.clear-requires c).In_ok-test, c.members-n.ensures)

pub place-requires : goal.place-requires
place-requires c =
    let k = (goal.at.place-requires c).After-clear in
    let s = S (test k) in (
      (passed s.args.total (xs s) (length (old s)) (ready (goal.at.place-requires c).In-Some)).shares,
      omega (arith, ap length (cleared k), filled_length (length (xs s)) (λ i. pos 0) (old s), roomy (test k)),
      subst (λ (z : List ℤ). Clear z (length (xs s))) (sym (cleared k)) (clear_column s.args.source s.args.total (xs s) (old s) (roomy (test k))),
    )

pub returns-in-Some : goal.returns-in-Some
returns-in-Some c =
    let k = (goal.at.In-Some (goal.at.returns-in-Some c).In-Some).After-clear in
    let s = S (test k) in
    met (signed s.args.source) s.args.total (xs s) (old s) (Ok (Some c.in-Some.sum)) (ready (goal.at.returns-in-Some c).In-Some) refl
    (c.place.ensures ∙ ap (λ (z : List ℤ). filled (length (xs s)) (shared_at s.args.source s.args.total (xs s) z) z) (cleared k)
    ∙ all_placed s.args.source s.args.total (xs s) (old s) (roomy (test k)))

pub returns-in-None : goal.returns-in-None
returns-in-None c =
    let k = (goal.at.returns-in-None c).After-clear in
    let s = S (test k) in
    let e : Ok None ≡ tested s.args.total (xs s) (length (old s)) = ap Ok (sym c.in-None.is) ∙ told (test k) in
    met (signed s.args.source) s.args.total (xs s) (old s) (Ok None) e refl
    (cleared k ∙ nothing_placed s.args.source s.args.total (xs s) (old s) (weightless s.args.total (xs s) (length (old s)) e).1)
