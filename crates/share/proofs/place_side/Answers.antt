-- `place_side` meets its contract: what was tested decides; without weight the column stays as it is.
use Rattle.std.proofs.Common.{◌≡◌, ℕ, List, length, ℤ, sym, refl, ap, ◌∙◌}
use Rattle.std.specs.Prelude.{None, Some, Ok}
use Rattle.share.specs.Weighing.{weighed}
use Rattle.share.specs.Promises.{tested}
use Rattle.share.proofs.Promises.{Passed, passed, weightless}
use Rattle.share.proofs.Signs.{side_met, all_stay}
use Rattle.share.proofs.place_side.Goals as goal
use Rattle.share.proofs.place_side.Goals.{In-Some, Start}

abbrev xs : Start → List ℕ
xs s = weighed s.args.source s.args.weights.now s.args.performances.now

abbrev old : Start → List ℤ
old s = s.args.amounts.now

module _ (c : In-Some) where
  abbrev S : Start
  S = (goal.at.In-Some c).Start

  ready : Ok (Some c.in-Some.sum) ≡ tested S.args.total (xs S) (length (old S))
  ready = ap Ok (sym c.in-Some.is) ∙ S.requires.0

  known : Passed S.args.total (xs S) (length (old S)) c.in-Some.sum
  known = passed S.args.total (xs S) (length (old S)) ready

pub place-requires : goal.place-requires
place-requires c =
    ((known (goal.at.place-requires c).In-Some).shares, (known (goal.at.place-requires c).In-Some).roomy, (S (goal.at.place-requires c).In-Some).requires.1)

pub returns-in-Some : goal.returns-in-Some
returns-in-Some c =
    let s = S (goal.at.returns-in-Some c).In-Some in
    side_met s.args.source s.args.total (xs s) (old s) (Ok (Some c.in-Some.sum)) (ready (goal.at.returns-in-Some c).In-Some) refl c.place.ensures

pub returns-in-None : goal.returns-in-None
returns-in-None c =
    let e : Ok None ≡ tested c.args.total (xs (goal.at.returns-in-None c).Start) (length (old (goal.at.returns-in-None c).Start)) = ap Ok (sym c.in-None.is) ∙ c.requires.0 in
    side_met c.args.source c.args.total (xs (goal.at.returns-in-None c).Start) (old (goal.at.returns-in-None c).Start) (Ok None) e refl
    (all_stay c.args.source c.args.total (xs (goal.at.returns-in-None c).Start) (old (goal.at.returns-in-None c).Start) (weightless c.args.total (xs (goal.at.returns-in-None c).Start) (length (old (goal.at.returns-in-None c).Start)) e).1)
