-- The call that writes a book (02, R-4): what is told of it, in one number of 64 bits, and what it leaves in the buffer.
use Rattle.rules.specs.declared.Located.{Located}
use Rattle.std.specs.Prelude.{◌≡◌, List, ℕ, ◌*◌, ℤ, length, Result, Ok, Err}
use Rattle.rules.specs.Refusals.{LocatedReply, taken, refused}
use Rattle.rules.specs.Given.{Given}
use Rattle.rules.specs.Written.{written}
use Rattle.writer.specs.Values.{values}
use Rattle.writer.specs.Promise.{write_kept}
use Rattle.dullavane.specs.Words.{said}

-- all that is handed in, the settings number by number
abbrev pub handed_in : ℤ → ℤ → ℤ → ℤ → List ℤ → List ℕ → List ℕ → ℕ → List ℤ → List ℕ → List ℤ → ℕ → List ℤ → Given
handed_in smoothing limit percent interval = values (record { smoothing = smoothing; limit = limit; percent = percent; interval = interval })

-- the book's length in bits 32 to 63, above 0; or the refusal and where it is
abbrev pub written_told : LocatedReply (List ℕ) → ℕ
written_told (taken bs) = length bs * 0x1_0000_0000
written_told (refused r) = said r

pub record WriteCalled (g : Given) (old : List ℕ) (r : ℕ) (new : List ℕ) : Type 0 where
  pub reply : r ≡ written_told (written g (length old))
  pub book : new ≡ write_kept (written g (length old)) old

-- what is told of the writer's answer
abbrev pub answer_told : Result ℕ Located → ℕ
answer_told (Ok n) = n * 0x1_0000_0000
answer_told (Err r) = said r
