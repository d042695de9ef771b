-- `whole_of` meets its contract: where the weight has room between the remainder and W, the ratio rounded up gives the quotient, which is at most
-- the total.
use Rattle.std.proofs.Common.{◌≡◌, ℕ, ◌+◌, ◌*◌, ◌/◌, ◌%◌, ◌^◌, ◌≤◌, sym, ap, ◌∙◌, arith}
use Rattle.share.specs.Rates.{total_of}
use Rattle.share.proofs.Rates.{rounded_up}
use Rattle.share.proofs.part.whole_of.Goals as goal
use Rattle.share.proofs.part.whole_of.Goals.{Else-rate-weight, Start}

module _ (c : Else-rate-weight) where
  abbrev s : Start
  s = (goal.at.Else-rate-weight c).Start

  is : total_of s.args.rate * s.args.weight / s.args.rate.sum ≡ s.args.rate.whole * s.args.weight + (s.args.rate.ratio + 1) * s.args.weight /
      2 ^ 64
  is =
      let room : total_of s.args.rate * s.args.weight % s.args.rate.sum + s.args.weight ≤ s.args.rate.sum =
      omega (arith, s.requires.2, s.requires.3, c.if-rate-weight.false) in
      rounded_up s.args.rate s.args.weight s.requires.0 s.requires.1 room

pub returns : goal.returns
returns c =
    sym (is (goal.at.returns c).Else-rate-weight ∙ ap (λ (m : ℕ). (s (goal.at.returns c).Else-rate-weight).args.rate.whole * (s (goal.at.returns c).Else-rate-weight).args.weight + m) (sym c.upper.ensures))
