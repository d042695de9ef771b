-- What was listed is within the share's limits, and the share goes over it.
use Rattle.integers.specs.Pairs.{loss}
use Rattle.integers.proofs.Bounds.{loss_≤}
use Rattle.answer.proofs.SharesLaws.{front, front_shareable, members_charged}
use Rattle.answer.proofs.shares.charge_members.Goals as goal

pub charge-requires : goal.charge-requires
charge-requires c =
    let l = c.put_members-n.ensures in
    ((front c.requires.2 l).0, front_shareable c.requires.2 l c.args.pool loss loss_≤ c.requires.0 _ c.requires.1)

pub returns : goal.returns
returns c =
    members_charged c.requires.2 c.put_members-n.ensures c.charge.ensures
