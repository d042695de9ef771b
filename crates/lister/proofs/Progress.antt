-- A listing comes to its end, whatever is lent to it: each move leaves fewer moves, and so does each piece, since it has a line.
use mathlib.Core.Path.{◌≡◌, refl, sym, ◌∙◌, ap, subst}
use mathlib.Core.Bool.{Bool, true, false, cond, true≢false}
use mathlib.Core.List.{List, [], ◌∷◌}
use Prim.Native.Nat.{ℕ, suc, ◌+◌, ◌-◌, ◌*◌, ◌≤◌, ◌<◌}
use native.Mathlib.Omega.{arith}
use native.Mathlib.Nat.{suc-mul}
use lib.Dec.{ltb}
use lib.ListN.{length, drop}
use borrow.Author.Tests.{ltb-true}
use Rattle.rules.specs.declared.Refusal.{Refusal}
use Rattle.rules.specs.declared.Refusal.TheVariants.{WrongState, TooShort}
use Rattle.rules.specs.Contents.{requirement_size}
use Rattle.rules.specs.Refusals.{Reply, taken, refused}
use Rattle.rules.specs.Book.{Requirement}
use Rattle.rules.specs.Listing.{requirement_line}
use Rattle.interval.specs.declared.Tally.{Tally}
use Rattle.interval.specs.Lent.{Lent}
use Rattle.answer.specs.declared.Answer.{Answer}
use Rattle.answer.specs.declared.Row.{Row}
use Rattle.answer.specs.declared.Row.TheVariants as who
use Rattle.answer.specs.Promises.{Columns, columns_long, answer_reply}
use Rattle.answer.specs.Roster.{member_reply, row_answer}
use Rattle.listing.specs.Lines.{answer_of}
use Rattle.lister.specs.declared.Cursor.{Cursor}
use Rattle.lister.specs.declared.Cursor.TheVariants as at
use Rattle.lister.specs.declared.Listed.TheVariants.{Written, Refused}
use Rattle.lister.specs.Move.{Move, moves, ends, refuses, move, among, line_of, answering, row_move, member_move}
use Rattle.lister.specs.Promises.{Goes, stays, and_then, piece_told, ListedPiece, Unlisted, ByTests, ListPromise}
use Rattle.lister.proofs.MoveLaws.{among_means}
use Rattle.lister.proofs.ListLaws.{EachTest, passes, fails, by_each_test, tests_passed}

-- how many moves may be left at a cursor: to each requirement its answer, its line and those of all rows and the residual
abbrev pub moves_left : Tally → Cursor → ℕ
moves_left t at.Interval = suc ((t.requirements - 0) * (t.units + 4))
moves_left t (at.Requirement k) = (t.requirements - k) * (t.units + 4)
moves_left t (at.Answered k a) = (t.requirements - suc k) * (t.units + 4) + (t.units + 3)
moves_left t (at.Members k a row place) = (t.requirements - suc k) * (t.units + 4) + (suc t.units - row)

abbrev Falls : Tally → ℕ → Move → Type 0
Falls t n (moves line next c) = moves_left t next < n
Falls t n ends = Unit {0}
Falls t n (refuses r) = Unit {0}

-- a requirement's moves
one_requirement : (t : Tally) (k : ℕ) → k < t.requirements → (t.requirements - k) * (t.units + 4) ≡ (t.requirements - suc k) * (t.units + 4) + (t.units +
    4)
one_requirement t k h =
    let next : t.requirements - k ≡ suc (t.requirements - suc k) = omega arith in
    ap (λ (m : ℕ). m * (t.units + 4)) next ∙ suc-mul (t.requirements - suc k) (t.units + 4)

module _ (t : Tally) (bytes : List ℕ) (l : Lent) where
  falls_row : (k : ℕ) (a : Answer) (row place : ℕ) (c : Columns) → row < t.units → (r : Row) →
      Falls t (moves_left t (at.Members k a row place)) (row_move t bytes l k a row place c r)
  falls_row k a row place c h (who.Unit number standing) = omega (arith, h)
  falls_row k a row place c h who.Other = omega (arith, h)
  falls_row k a row place c h (who.Refused r) = tt

  falls_member : (k : ℕ) (a : Answer) (row place : ℕ) (c : Columns) → row ≤ t.units →
      Falls t (moves_left t (at.Members k a row place)) (member_move t bytes l k a row place c)
  falls_member k a row place c h = go (ltb row t.units) refl
    where
      go :
          (b : Bool) → ltb row t.units ≡ b → Falls t (moves_left t (at.Members k a row place))
          (member_move t bytes l k a row place c)
      go true e = rw e (falls_row k a row place c (ltb-true row t.units e) (row_answer (member_reply t row a.direction a.set l)))
      go false e = rw e (omega (arith, h))

  falls_answer : (k : ℕ) (c : Columns) → k < t.requirements → (x : Reply Requirement) → Falls t (moves_left t (at.Requirement k)) (answering t bytes l k c x)
  falls_answer k c h (taken q) = omega (arith, one_requirement t k h)
  falls_answer k c h (refused r) = tt

  falls : (at : Cursor) (c : Columns) → Falls t (moves_left t at) (move t bytes l at c)
  unfolding move
  falls at.Interval c = omega arith
  falls (at.Requirement k) c = go (ltb k t.requirements) refl
    where
      past : (b : Bool) → Falls t (moves_left t (at.Requirement k)) (cond b (refuses WrongState) ends)
      past true = tt
      past false = tt

      go : (b : Bool) → ltb k t.requirements ≡ b → Falls t (moves_left t (at.Requirement k)) (cond b
          (answering t bytes l k c (answer_reply t (drop (requirement_size * k) bytes) l c)) (cond (ltb t.requirements k) (refuses WrongState) ends))
      go true e = falls_answer k c (ltb-true k t.requirements e) (answer_reply t (drop (requirement_size * k) bytes) l c)
      go false e = past (ltb t.requirements k)
  falls (at.Answered k a) c = go (ltb k t.requirements)
    where
      go : (b : Bool) → Falls t (moves_left t (at.Answered k a)) (cond b (moves (requirement_line (answer_of (line_of a))) (at.Members k a 0 0) c)
          (refuses WrongState))
      go true = omega arith
      go false = tt
  falls (at.Members k a row place) c = go (among t k row place) refl (columns_long t.units c)
    where
      go : (b : Bool) → among t k row place ≡ b → (long : Bool) → Falls t (moves_left t (at.Members k a row place))
          (cond b (cond long (member_move t bytes l k a row place c) (refuses TooShort)) (refuses WrongState))
      go true e true = falls_member k a row place c (among_means t k row place e).row_there
      go true e false = tt
      go false e long = tt

  goes_down : {at next : Cursor} {c c' : Columns} {lines : List ℕ} → Goes t bytes l at c lines next c' → moves_left t next ≤ moves_left t at
  goes_down stays = omega arith
  goes_down {at} {next} {c} (and_then {next = mid} {c₁ = c₁} {line = line} e g) =
      let less = subst (Falls t (moves_left t at)) e (falls at c) in
      omega (arith, less, goes_down g)

  -- with a line, at least one move
  goes_less :
      {at next : Cursor} {c c' : Columns} {lines : List ℕ} → Goes t bytes l at c lines next c' → 0 < length lines → moves_left t next < moves_left t at
  goes_less stays h = absurd (omega (arith, h))
  goes_less {at} {next} {c} (and_then e g) h =
      let less = subst (Falls t (moves_left t at)) e (falls at c) in
      omega (arith, less, goes_down g)

-- ---- a piece
pub record PieceWritten (t : Tally) (at : Cursor) (n : ℕ) (next : Cursor) (old : List ℕ) : Type 0 where
  pub some : 0 < n
  pub within : n ≤ length old
  pub falls : moves_left t next < moves_left t at

-- what is told of a piece with a line
told_written :
    (lines : List ℕ) (last : Cursor) (m : Move) {n : ℕ} {next : Cursor} → Written n next ≡ piece_told lines last m →
    (0 < length lines) × (n ≡ length lines) × (next ≡ last)
told_written [] last (moves line then c) e = absurd (true≢false cc)
told_written [] last ends e = absurd (true≢false cc)
told_written [] last (refuses r) e = absurd (true≢false cc)
told_written (x ∷ lines) last m e = (omega arith, cc, cc)

pub piece_written :
    {at next : Cursor} {t : Tally} {bytes : List ℕ} {l : Lent} {c c' : Columns} {old new : List ℕ} {n : ℕ} →
    ListPromise at t bytes l c old (Written n next) c' new → PieceWritten t at n next old
piece_written {at} {next} {t} {bytes} {l} {c} {c'} {old} {new} {n} p = go (by_each_test t (length bytes) at (length old))
  where
    go : EachTest t (length bytes) at (length old) → PieceWritten t at n next old
    go (passes d) =
        let k : ListedPiece at t bytes l c old (Written n next) c' new =
        subst (λ (x : Reply Cursor). ByTests x t bytes l c old (Written n next) c' new) (tests_passed d) p.kept in
        let told = told_written k.lines k.next (move t bytes l k.next c') k.reply in
        let less = goes_less t bytes l k.piece.goes told.0 in
        record {
          some = omega (arith, told.0, told.1);
          within = omega (arith, told.1, k.piece.fits);
          falls = subst (λ (x : Cursor). moves_left t x < moves_left t at) (sym told.2) less;
        }
    go (fails why f) =
        let u : Unlisted why c old (Written n next) c' new =
        subst (λ (x : Reply Cursor). ByTests x t bytes l c old (Written n next) c' new) f p.kept in
        absurd (never u.reply)
      where
        never : {x : Refusal} → Written n next ≡ Refused x → ⊥
        never e = true≢false cc
