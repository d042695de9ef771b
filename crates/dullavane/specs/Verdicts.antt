-- The call that judges a factor sheet (02, R-12): its verdict stands in two words.
use Rattle.rules.specs.declared.Refusal.{Refusal}
use Rattle.std.specs.Prelude.{◌≡◌, List, ◌∷◌, ℕ, leb, ℤ, length, drop, Result, Ok, Err}
use Rattle.rules.specs.declared.Refusal.TheVariants.{TooShort}
use Rattle.rules.specs.declared.Side.TheVariants.{Positive, Negative}
use Rattle.rules.specs.declared.Verdict.{Verdict}
use Rattle.rules.specs.declared.Verdict.TheVariants.{Possible, WrongMember, WrongSide}
use Rattle.rules.specs.Refusals.{Reply, unless, number}
use Rattle.rules.specs.Sheet.{sheet_reply}
use Rattle.interval.specs.Calls.{left}
use Rattle.dullavane.specs.Words.{reply_number}

-- what is wrong, as a number: nothing, a member, the positive side, the negative side
abbrev pub wrong_number : Verdict → ℕ
wrong_number Possible = 0
wrong_number (WrongMember k) = 1
wrong_number (WrongSide Positive) = 2
wrong_number (WrongSide Negative) = 3

-- the member, from 1; 0 where it is none
abbrev pub member_number : Verdict → ℕ
member_number Possible = 0
member_number (WrongMember k) = k
member_number (WrongSide s) = 0

-- words past the two as they were
abbrev pub verdict_words : ℕ
verdict_words = 2

abbrev pub with_verdict : Verdict → List ℕ → List ℕ
with_verdict v ws = wrong_number v ∷ member_number v ∷ drop verdict_words ws

-- 12 for fewer than two words, before anything else
abbrev pub sheet_answer : List ℤ → List ℤ → List ℕ → Reply Verdict
sheet_answer ps fs ws = unless (leb verdict_words (length ws)) TooShort (sheet_reply ps fs)

pub record SheetCalled (ps fs : List ℤ) (ws : List ℕ) (r : ℕ) (ws' : List ℕ) : Type 0 where
  pub reply : r ≡ reply_number (sheet_answer ps fs ws)
  pub words : ws' ≡ left with_verdict (sheet_answer ps fs ws) ws

-- ---- what is told of the answer of `sheets`
abbrev pub told_number : Result Verdict Refusal → ℕ
told_number (Ok v) = 0
told_number (Err r) = number r

abbrev pub verdict_after : Result Verdict Refusal → List ℕ → List ℕ
verdict_after (Ok v) ws = with_verdict v ws
verdict_after (Err r) ws = ws
