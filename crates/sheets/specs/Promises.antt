-- What the call promises, whole: the reply, on refusals too. It is lent two lists and writes neither.
use Rattle.std.specs.Prelude.{◌≡◌, true, cond, List, ℤ, length, Result, Ok, Err}
use Rattle.integers.specs.Sums.{every}
use Rattle.rules.specs.declared.Refusal.{Refusal}
use Rattle.rules.specs.declared.Side.TheVariants.{Positive, Negative}
use Rattle.rules.specs.declared.Verdict.{Verdict}
use Rattle.rules.specs.declared.Verdict.TheVariants.{Possible, WrongSide}
use Rattle.rules.specs.Quantities.{billion}
use Rattle.rules.specs.Refusals.{Reply, taken, refused}
use Rattle.rules.specs.Sheet.{right_at, side_right, sheet_reply}

-- what the code answers for the definition's reply
abbrev pub told_of : Reply Verdict → Result Verdict Refusal
told_of (taken v) = Ok v
told_of (refused refusal) = Err refusal

pub record SheetPromise (ps fs : List ℤ) (r : Result Verdict Refusal) : Type 0 where
  pub reply : r ≡ told_of (sheet_reply ps fs)

-- ---- the parts
-- no member is wrong
pub record AllRight (ps fs : List ℤ) : Type 0 where
  pub long : length fs ≡ length ps
  pub all : every (length ps) (right_at billion ps fs) ≡ true

abbrev pub sides_verdict : List ℤ → List ℤ → Verdict
sides_verdict ps fs =
    cond (side_right Positive ps fs) (cond (side_right Negative ps fs) Possible (WrongSide Negative)) (WrongSide Positive)
