-- What the writer promises (02, R-4): its reply and the lent book, on refusals too.
use Rattle.rules.specs.declared.Located.{Located}
use Rattle.std.specs.Prelude.{◌≡◌, List, ◌++◌, ℕ, ◌≤◌, length, drop, Result, Ok, Err}
use Rattle.rules.specs.Refusals.{LocatedReply, taken, refused}
use Rattle.rules.specs.Given.{Given}
use Rattle.rules.specs.Written.{written}

-- the book's length, or the refusal
abbrev pub write_reply : LocatedReply (List ℕ) → Result ℕ Located
write_reply (taken bs) = Ok (length bs)
write_reply (refused w) = Err w

-- bytes at the front of a buffer, whose bytes past them are as they were
abbrev pub at_front : List ℕ → List ℕ → List ℕ
at_front bs old = bs ++ drop (length bs) old

-- the book at the front; a refusal writes nothing
abbrev pub write_kept : LocatedReply (List ℕ) → List ℕ → List ℕ
write_kept (taken bs) old = at_front bs old
write_kept (refused w) old = old

pub record WritePromise (g : Given) (old : List ℕ) (r : Result ℕ Located) (new : List ℕ) : Type 0 where
  pub reply : r ≡ write_reply (written g (length old))
  pub book : new ≡ write_kept (written g (length old)) old

-- a book that is written is within its buffer
abbrev pub WithinRoom : ℕ → Result ℕ Located → Type 0
WithinRoom room (Ok n) = n ≤ room
WithinRoom room (Err w) = Unit {0}
