-- The requirement on show is one of the book's, and its record within the bytes.
use Rattle.watch.proofs.requirements.watch_requirement.Goals as goal

pub watch_keys-requires : goal.watch_keys-requires
watch_keys-requires c =
    c.requires.0
