-- `share_signs` meets its contract: both sides are tested on the column as it came; the positive side is placed in the cleared column and leaves
-- nothing below zero, so that the negative side's keys stand out in it.
use Rattle.std.proofs.Common.{◌≡◌, ℕ, ◌≤◌, List, map, length, ℤ, pos, Ok, Err, sym, refl, ap, ◌∙◌, ap₂, arith}
use Rattle.std.proofs.lemmas.Result.{err_from_is_err_and}
use lib.ListN.{length-map}
use Rattle.integers.specs.Pairs.{gain, loss}
use Rattle.integers.specs.Fills.{filled}
use Rattle.integers.proofs.Fills.{filled_length}
use Rattle.rules.specs.Refusals.{taken, refused}
use Rattle.rules.specs.Share.{share_reply}
use Rattle.share.specs.Promises.{tested}
use Rattle.share.proofs.Promises.{Fitted, fitted, found, tests_tell}
use Rattle.share.proofs.Signs.{side_taken, first_refused, both_answered, credits, first_clear, first_placed, second_clear, second_placed}
use Rattle.share.proofs.share_signs.Goals as goal
use Rattle.share.proofs.share_signs.Goals.{After-clear, After-place_side-up, In_ok-helpful, In_ok-unhelpful, Start}

abbrev ps : Start → List ℤ
ps s = s.args.performances.now

abbrev old : Start → List ℤ
old s = s.args.amounts.now

helpful : (c : In_ok-helpful) → let s = (goal.at.In_ok-helpful c).Start in Fitted s.args.total (map gain (ps s)) (length (old s))
helpful c =
    let s = (goal.at.In_ok-helpful c).Start in
    fitted s.args.total (map gain (ps s)) (length (old s)) c.in_ok-helpful.helpful (sym c.in_ok-helpful.was ∙ c.test_share.ensures)

abbrev S : In_ok-helpful → Start
S c = (goal.at.In_ok-helpful c).Start

unhelpful : (c : In_ok-unhelpful) → let s = S (goal.at.In_ok-unhelpful c).In_ok-helpful in Fitted s.args.total (map loss (ps s)) (length (old s))
unhelpful c =
    let s = S (goal.at.In_ok-unhelpful c).In_ok-helpful in
    fitted s.args.total (map loss (ps s)) (length (old s)) c.in_ok-unhelpful.unhelpful (sym c.in_ok-unhelpful.was ∙ c.test_share-2.ensures)

-- the column after each call
module _ (c : After-clear) where
  abbrev both : In_ok-unhelpful
  both = (goal.at.After-clear c).In_ok-unhelpful

  abbrev start : Start
  start = S (goal.at.In_ok-unhelpful both).In_ok-helpful

  long : length (ps start) ≤ length (old start)
  long = omega (arith, (helpful (goal.at.In_ok-unhelpful both).In_ok-helpful).roomy, length-map (ps start) gain)

  same : length (old start) ≡ length c.clear.new.amounts
  same = sym (ap length c.clear.ensures ∙ filled_length (length (ps start)) (λ i. pos 0) (old start))

module _ (c : After-place_side-up) where
  abbrev cleared : After-clear
  cleared = (goal.at.After-place_side-up c).After-clear

  abbrev s : Start
  s = start cleared

  abbrev fit : Fitted s.args.total (map gain (ps s)) (length (old s))
  fit = helpful (goal.at.In_ok-unhelpful (both cleared)).In_ok-helpful

  taken_up : (c.place_side-up.result ≡ fit.unplaced_is) × (c.place_side-up.new.amounts ≡
      filled (length (ps s)) (credits s.args.total (ps s) (old s) (long cleared)) (old s))
  taken_up =
      let p = side_taken c.place_side-up.ensures (ap (share_reply s.args.total (map gain (ps s))) (sym (same cleared)) ∙ fit.told) in
      (p.0, p.1 ∙ first_placed s.args.total (ps s) (old s) (long cleared) cleared.clear.new.amounts cleared.clear.ensures)

  same_again : length (old s) ≡ length c.place_side-up.new.amounts
  same_again = sym (ap length taken_up.1 ∙ filled_length (length (ps s)) (credits s.args.total (ps s) (old s) (long cleared)) (old s))

pub returns-in_err-helpful : goal.returns-in_err-helpful
returns-in_err-helpful c =
    let s = (goal.at.returns-in_err-helpful c).Start in
    let p = err_from_is_err_and c.from_residual.result c.from_residual.ensures.1 in
    rw (p.1, p.2) (first_refused s.args.total (ps s) (old s) (tests_tell s.args.total (map gain (ps s)) (length (old s))
    ∙ ap (found s.args.total) (sym c.test_share.ensures ∙ c.in_err-helpful.was)))

pub returns-in_err-unhelpful : goal.returns-in_err-unhelpful
returns-in_err-unhelpful c =
    let k = (goal.at.returns-in_err-unhelpful c).In_ok-helpful in
    let s = S k in
    let p = err_from_is_err_and c.from_residual-in_err-unhelpful.result c.from_residual-in_err-unhelpful.ensures.1 in
    both_answered s.args.total (ps s) (old s) (refused c.in_err-unhelpful.field-0.0) (helpful k).told
    (tests_tell s.args.total (map loss (ps s)) (length (old s)) ∙ ap (found s.args.total) (sym c.test_share-2.ensures ∙ c.in_err-unhelpful.was))
    (p.1 ∙ ap Err p.2) refl

pub clear-requires : goal.clear-requires
clear-requires c =
    let k = (goal.at.In_ok-unhelpful (goal.at.clear-requires c).In_ok-unhelpful).In_ok-helpful in
    omega (arith, (helpful k).roomy, length-map (ps (S k)) gain)

pub place_side-up-requires : goal.place_side-up-requires
place_side-up-requires c =
    let s = start (goal.at.place_side-up-requires c).After-clear in (
      sym c.in_ok-helpful.was ∙ c.test_share.ensures ∙ ap (tested s.args.total (map gain (ps s))) (same (goal.at.place_side-up-requires c).After-clear),
      first_clear s.args.total (ps s) (old s) (long (goal.at.place_side-up-requires c).After-clear) c.clear.new.amounts c.clear.ensures,
    )

pub place_side-down-requires : goal.place_side-down-requires
place_side-down-requires c = (
  sym c.in_ok-unhelpful.was ∙ c.test_share-2.ensures ∙ ap (tested (s (goal.at.place_side-down-requires c).After-place_side-up).args.total (map loss (ps (s (goal.at.place_side-down-requires c).After-place_side-up)))) (same_again (goal.at.place_side-down-requires c).After-place_side-up),
  second_clear (s (goal.at.place_side-down-requires c).After-place_side-up).args.total (ps (s (goal.at.place_side-down-requires c).After-place_side-up)) (old (s (goal.at.place_side-down-requires c).After-place_side-up)) (long (cleared (goal.at.place_side-down-requires c).After-place_side-up)) c.place_side-up.new.amounts (taken_up (goal.at.place_side-down-requires c).After-place_side-up).1,
)

pub returns : goal.returns
returns c =
    let f = unhelpful (both (cleared (goal.at.returns c).After-place_side-up)) in
    let p = side_taken c.place_side-down.ensures (ap (share_reply (s (goal.at.returns c).After-place_side-up).args.total (map loss (ps (s (goal.at.returns c).After-place_side-up)))) (sym (same_again (goal.at.returns c).After-place_side-up)) ∙ f.told) in
    both_answered (s (goal.at.returns c).After-place_side-up).args.total (ps (s (goal.at.returns c).After-place_side-up)) (old (s (goal.at.returns c).After-place_side-up)) (taken f.unplaced_is) (fit (goal.at.returns c).After-place_side-up).told f.told (ap₂ (λ (x y : ℕ). Ok (x, y)) (taken_up (goal.at.returns c).After-place_side-up).0 p.0)
    (p.1 ∙ second_placed (s (goal.at.returns c).After-place_side-up).args.total (ps (s (goal.at.returns c).After-place_side-up)) (old (s (goal.at.returns c).After-place_side-up)) (long (cleared (goal.at.returns c).After-place_side-up)) c.place_side-up.new.amounts (taken_up (goal.at.returns c).After-place_side-up).1)
