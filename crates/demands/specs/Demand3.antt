-- What proofs/Demand3.antt speaks of.
use Rattle.rules.specs.declared.Refusal.{Refusal}
use Rattle.std.specs.Prelude.{◌≡◌, Bool, true, List, ℤ, pos, take, Result, Ok}
use Rattle.std.specs.Int.Signed.{lt_z}
use Rattle.integers.specs.Pairs.{gain, loss}
use Rattle.integers.specs.Totals.{totalℕ}
use Rattle.rules.specs.Book.{Requirement, Book}
use Rattle.answer.specs.declared.Answer.{Answer}
use Rattle.answer.specs.Promises.{Columns}
use Rattle.closing.specs.Parties.{some, no_default}

-- ---- what a caller has in the columns: the first so many numbers of each are its members'
abbrev pub helps : List ℤ → Bool
helps = some (λ x. lt_z (pos 0) x)

abbrev pub harms : List ℤ → Bool
harms = some (λ x. lt_z x (pos 0))

pub record ColumnsClose (b : Book) (q : Requirement) (r : Result Answer Refusal) (new : Columns) : Type 0 where
  pub figures : Answer
  pub given : r ≡ Ok figures
  -- 'a helpful party exactly when it has an unhelpful one'
  pub parties : no_default b q ≡ true → helps (take figures.members new.performances) ≡ harms (take figures.members new.performances)
  -- 'where both are there, the payments' credits, the payments' debits and the pool are equal to the cent'
  pub credits :
      helps (take figures.members new.performances) ≡ true → harms (take figures.members new.performances) ≡ true →
      totalℕ gain (take figures.members new.payments) ≡ figures.pool
  pub debits :
      helps (take figures.members new.performances) ≡ true → harms (take figures.members new.performances) ≡ true →
      totalℕ loss (take figures.members new.payments) ≡ figures.pool
