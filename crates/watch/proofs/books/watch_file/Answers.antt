-- A book that was taken announces no more requirements than there is room for.
use mathlib.Core.Path.{subst}
use Rattle.intake.specs.Came.{RoomFor}
use Rattle.watch.proofs.books.watch_file.Goals as goal

pub watch_requirements-requires : goal.watch_requirements-requires
watch_requirements-requires c =
    subst (RoomFor 32) c.in-Taken.is c.take_book-next.ensures.room_for
