-- Two stores in a row are the two words.
use Rattle.dullavane.proofs.WeeklyLaws.{two_stores}
use Rattle.dullavane.proofs.weekly.put_week.Goals as goal

pub returns : goal.returns
returns c =
    two_stores c.args.words.now _ _ c.requires
