-- One store.
use Rattle.dullavane.proofs.TrendsLaws.{one_store}
use Rattle.dullavane.proofs.trends.put_drawn.Goals as goal

pub returns : goal.returns
returns c = one_store c.args.drawn.now c.args.points c.requires
