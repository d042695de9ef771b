-- What each line's function promises (01, One listing in full).
use Rattle.std.specs.Prelude.{◌≡◌, List, [], ◌++◌, ℕ, ◌+◌, length, take, drop}
use Rattle.rules.specs.declared.Standing.{Standing}
use Rattle.rules.specs.Members.{unit, residual}
use Rattle.rules.specs.Answer.{Line, Answer}
use Rattle.rules.specs.Text.{integer}
use Rattle.rules.specs.Listing.{standing_word}
use Rattle.listing.specs.declared.RequirementLine.{RequirementLine}
use Rattle.listing.specs.declared.Amounts.{Amounts}
use Rattle.listing.specs.Pieces.{after_space}

-- the text ends with the line, which starts at r; the bytes before it are as they came
pub record LineWritten (line old : List ℕ) (r : ℕ) (new : List ℕ) : Type 0 where
  pub place : r + length line ≡ 165
  pub bytes : drop r new ≡ line
  pub before : take r new ≡ take r old

-- what a requirement's line reads of an answer, which is everything but its members
abbrev pub answer_of : RequirementLine → Answer
answer_of f =
    record {
      number = f.number;
      direction = f.direction;
      rcr = f.rcr;
      pool = f.pool;
      used_pool = f.used.cents;
      unused_pool = f.unused.cents;
      unplaced_used = f.used.unplaced;
      unplaced_unused = f.unused.unplaced;
      lines = [];
    }

abbrev pub unit_of : ℕ → Standing → Amounts → Line
unit_of number standing a =
    record {
      name = unit number;
      standing = standing;
      performance = a.performance;
      factor = a.factor;
      payment = a.payment;
      used = a.used;
      unused = a.unused;
    }

abbrev pub residual_of : Standing → Amounts → Line
residual_of standing a =
    record { name = residual; standing = standing; performance = a.performance; factor = a.factor; payment = a.payment; used = a.used; unused = a.unused }

-- the words of a member's line after its name, and those of a direction, each after its space
unfoldable pub amounts_words : Standing → Amounts → List ℕ
amounts_words standing a =
    after_space (standing_word standing)
    ++ (after_space (integer a.performance)
    ++ (after_space (integer a.factor)
    ++ (after_space (integer a.payment)
    ++ (after_space (integer a.used)
    ++ after_space (integer a.unused)))))
