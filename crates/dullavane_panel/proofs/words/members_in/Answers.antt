-- Words that no answer leaves say none.
use Rattle.dullavane_panel.proofs.WordsLaws.{members_over, standing_over, members_there}
use Rattle.dullavane_panel.proofs.words.members_in.Goals as goal

pub returns-then-members : goal.returns-then-members
returns-then-members c = members_over c.args.members c.args.standing c.if-members.true

pub returns-then-standing : goal.returns-then-standing
returns-then-standing c = standing_over c.args.members c.args.standing c.if-members.false c.if-standing.true

pub returns : goal.returns
returns c = members_there c.args.members c.args.standing c.if-members.false c.if-standing.false
