-- A listing is made of moves (01, One listing in full): each says a line, or none, and goes on to the next cursor. The interval comes first; then each
-- requirement is answered, its line said, and that of each of its members in roster order, the residual's last. The columns hold the answer whose members come.
use Rattle.std.specs.Prelude.{Bool, cond, ◌&&◌, List, [], ℕ, suc, ◌*◌, leb, ltb, pos, get_or, drop}
use Rattle.rules.specs.declared.Refusal.{Refusal}
use Rattle.rules.specs.declared.Refusal.TheVariants.{WrongState, TooShort}
use Rattle.rules.specs.Refusals.{Reply, taken, refused}
use Rattle.rules.specs.Contents.{requirement_size}
use Rattle.rules.specs.Book.{Requirement}
use Rattle.rules.specs.Listing.{interval_line, requirement_line, member_line}
use Rattle.interval.specs.declared.Tally.{Tally}
use Rattle.interval.specs.Lent.{Lent}
use Rattle.kept.specs.Kept.{kept_answer}
use Rattle.answer.specs.declared.Answer.{Answer}
use Rattle.answer.specs.declared.Row.{Row}
use Rattle.answer.specs.declared.Row.TheVariants as who
use Rattle.answer.specs.Promises.{Columns, columns_long, answer_reply, shown, with_lines}
use Rattle.answer.specs.Roster.{member_reply, row_answer}
use Rattle.listing.specs.declared.RequirementLine.{RequirementLine}
use Rattle.listing.specs.declared.Amounts.{Amounts}
use Rattle.listing.specs.Lines.{answer_of, unit_of, residual_of}
use Rattle.lister.specs.declared.Cursor.{Cursor}
use Rattle.lister.specs.declared.Cursor.TheVariants as at

-- a line is said, or none, what comes next, and the columns then; or nothing is left; or it is refused
pub data Move : Type 0 where
  moves : List ℕ → Cursor → Columns → Move
  ends : Move
  refuses : Refusal → Move

-- what a requirement's line reads of its answer's figures
abbrev pub line_of : Answer → RequirementLine
line_of a =
    record {
      number = a.number;
      direction = a.direction;
      rcr = a.rcr;
      pool = a.pool;
      used = record { cents = a.used.pool; unplaced = a.used.unplaced };
      unused = record { cents = a.unused.pool; unplaced = a.unused.unplaced };
    }

-- a member's numbers, by how many members stand before it
abbrev pub amounts_at : Columns → ℕ → Amounts
amounts_at c place =
    record {
      performance = get_or c.performances place (pos 0);
      factor = get_or c.factors place (pos 0);
      payment = get_or c.payments place (pos 0);
      used = get_or c.used place (pos 0);
      unused = get_or c.unused place (pos 0);
    }

-- a requirement of the book, a row of its roster or the residual's behind it, and no more members before it than rows
abbrev pub among : Tally → ℕ → ℕ → ℕ → Bool
among t requirement row place = ltb requirement t.requirements && (leb row t.units && leb place row)

module _ (t : Tally) (bytes : List ℕ) (l : Lent) where
  -- the requirement is answered
  abbrev pub answering : ℕ → Columns → Reply Requirement → Move
  answering k c (taken q) = moves [] (at.Answered k (shown q (kept_answer t l q))) (with_lines (kept_answer t l q) c)
  answering k c (refused r) = refuses r

  -- a row's unit, where it is a member
  abbrev pub row_move : ℕ → Answer → ℕ → ℕ → Columns → Row → Move
  row_move k a row place c (who.Unit number standing) =
      moves (member_line (unit_of number standing (amounts_at c place))) (at.Members k a (suc row) (suc place)) c
  row_move k a row place c who.Other = moves [] (at.Members k a (suc row) place) c
  row_move k a row place c (who.Refused r) = refuses r

  -- behind the last row the residual, and then the next requirement
  abbrev pub member_move : ℕ → Answer → ℕ → ℕ → Columns → Move
  member_move k a row place c =
      cond (ltb row t.units) (row_move k a row place c (row_answer (member_reply t row a.direction a.set l)))
      (moves (member_line (residual_of a.residual (amounts_at c place))) (at.Requirement (suc k)) c)

  unfoldable pub move : Cursor → Columns → Move
  move at.Interval c = moves (interval_line t.interval) (at.Requirement 0) c
  move (at.Requirement k) c =
      cond (ltb k t.requirements) (answering k c (answer_reply t (drop (requirement_size * k) bytes) l c))
      (cond (ltb t.requirements k) (refuses WrongState) ends)
  move (at.Answered k a) c =
      cond (ltb k t.requirements) (moves (requirement_line (answer_of (line_of a))) (at.Members k a 0 0) c) (refuses WrongState)
  move (at.Members k a row place) c =
      cond (among t k row place) (cond (columns_long t.units c) (member_move k a row place c) (refuses TooShort)) (refuses WrongState)
