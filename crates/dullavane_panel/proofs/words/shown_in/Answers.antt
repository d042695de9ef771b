-- The words as they stand, but for those that no answer leaves.
use Rattle.dullavane_panel.specs.Words.{shown_of}
use Rattle.dullavane_panel.proofs.words.shown_in.Goals as goal

pub returns : goal.returns
unfolding shown_of
returns c =
    rw (c.members_in.ensures, c.standing_in.ensures)
