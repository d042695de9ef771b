-- The longest line has room for any; in a shorter text only the requirement that is yet to be answered is asked for.
use mathlib.Core.Path.{sym}
use borrow.Author.Tests.{lt-leb}
use Rattle.lister.proofs.ListLaws.{any_room}
use Rattle.lister.proofs.list.room_for_any.Goals as goal

pub returns-then-room-ge-LINE : goal.returns-then-room-ge-LINE
returns-then-room-ge-LINE c =
    sym (any_room c.args.tally c.args.cursor c.args.room c.if-room-ge-LINE.true)

pub returns-in-Requirement : goal.returns-in-Requirement
returns-in-Requirement c =
    rw c.in-Requirement.is (rw (lt-leb 165 _ c.if-room-ge-LINE.false))
