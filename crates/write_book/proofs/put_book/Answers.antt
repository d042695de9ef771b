-- What the call promises of the length it gives, and how long the book's place is.
use mathlib.Core.Path.{subst}
use Prim.Native.Nat.{ℕ}
use Rattle.writer.specs.Promise.{WithinRoom}
use borrow.Author.Rules.{rules}
use Rattle.write_book.proofs.put_book.Goals as goal

pub tell-requires : goal.tell-requires
tell-requires c = subst (λ (n : ℕ). WithinRoom n c.write-written.result) (search rules) c.write-written.ensures.within_room
