-- A book that was written is within its place.
use mathlib.Core.Path.{subst}
use Rattle.writer.specs.Promise.{WithinRoom}
use Rattle.write_book.proofs.output.tell.Goals as goal

pub print_book-requires : goal.print_book-requires
print_book-requires c = subst (WithinRoom 193532) c.in-Ok.is c.requires
