-- What `answer` promises, completely: its reply and each number of the five columns, on refusals too (01, Factors, RCR, Cents; Numbers the box can say no
-- with). The answer is the one that what is kept gives, `kept_answer`; its lines' numbers go to the columns, one row a member.
use Rattle.rules.specs.declared.Refusal.{Refusal}
use Rattle.std.specs.Prelude.{◌≡◌, Bool, false, ◌&&◌, List, [], ◌∷◌, map, ℕ, ltb, ℤ, length, Result, Ok, Err}
use Rattle.rules.specs.declared.Refusal.TheVariants.{WrongState, TooShort}
use Rattle.rules.specs.declared.Standing.{Standing}
use Rattle.rules.specs.declared.Standing.TheVariants.{Live}
use Rattle.rules.specs.Refusals.{Reply, taken, refused, unless}
use Rattle.rules.specs.Book.{Requirement}
use Rattle.rules.specs.RequirementRecord.{requirement_record}
use Rattle.rules.specs.Answer.{Line, Answer as Full}
use Rattle.interval.specs.declared.Tally.{Tally}
use Rattle.interval.specs.Tally.{in_range, answer_turn}
use Rattle.interval.specs.Lent.{Lent, regions_long, rows_long}
use Rattle.interval.specs.Calls.{left}
use Rattle.kept.specs.Kept.{kept_answer}
use Rattle.kept.specs.Range.{kept_fine}
use Rattle.answer.specs.Lists.{headed}
use Rattle.answer.specs.declared.Answer.{Answer}

-- ---- the five columns; each takes one number more than there are units
pub record Columns : Type 0 where
  pub performances : List ℤ
  pub factors : List ℤ
  pub payments : List ℤ
  pub used : List ℤ
  pub unused : List ℤ

abbrev pub columns : List ℤ → List ℤ → List ℤ → List ℤ → List ℤ → Columns
columns performances factors payments used unused =
    record { performances = performances; factors = factors; payments = payments; used = used; unused = unused }

abbrev pub columns_long : ℕ → Columns → Bool
columns_long units c =
    ltb units (length c.performances)
    && (ltb units (length c.factors) && (ltb units (length c.payments) && (ltb units (length c.used) && ltb units (length c.unused))))

-- ---- the requirement, as its record says, wherever it stands; before it 11 out of turn, 12 for a short list, 11 for a lent number out of range
unfoldable pub answer_reply : Tally → List ℕ → Lent → Columns → Reply Requirement
answer_reply t part l c =
    unless (in_range t && answer_turn t) WrongState
    (unless ((regions_long l && rows_long t.units l) && columns_long t.units c) TooShort
    (unless (kept_fine t l) WrongState
    (requirement_record 0 false part)))

-- the standing of the last line, the residual's
abbrev pub last_standing : List Line → Standing
last_standing [] = Live
last_standing (l ∷ []) = l.standing
last_standing (l ∷ m ∷ ls) = last_standing (m ∷ ls)

-- the figures of an answer to a requirement
abbrev pub shown : Requirement → Full → Answer
shown q a =
    record {
      number = a.number;
      direction = a.direction;
      set = q.set;
      members = length a.lines;
      residual = last_standing a.lines;
      rcr = a.rcr;
      pool = a.pool;
      used = record { pool = a.used_pool; unplaced = a.unplaced_used };
      unused = record { pool = a.unused_pool; unplaced = a.unplaced_unused };
    }

abbrev pub replied : Tally → Lent → Reply Requirement → Result Answer Refusal
replied t l (taken q) = Ok (shown q (kept_answer t l q))
replied t l (refused r) = Err r

-- a number of each line, from the front of each column on
abbrev pub with_lines : Full → Columns → Columns
with_lines a old =
    record {
      performances = headed (map (λ x. x.performance) a.lines) old.performances;
      factors = headed (map (λ x. x.factor) a.lines) old.factors;
      payments = headed (map (λ x. x.payment) a.lines) old.payments;
      used = headed (map (λ x. x.used) a.lines) old.used;
      unused = headed (map (λ x. x.unused) a.lines) old.unused;
    }

-- ---- the promise
pub record AnswerPromise (t : Tally) (part : List ℕ) (l : Lent) (old : Columns) (r : Result Answer Refusal) (new : Columns) : Type 0 where
  pub reply : r ≡ replied t l (answer_reply t part l old)
  pub written : new ≡ left (λ q. with_lines (kept_answer t l q)) (answer_reply t part l old) old
