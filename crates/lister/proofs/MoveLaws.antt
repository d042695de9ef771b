-- Laws of the moves: what each cursor's is, by the tests that it stands behind.
use mathlib.Core.Path.{◌≡◌, refl}
use mathlib.Core.Bool.{Bool, true, false, cond}
use mathlib.Core.List.{List}
use Prim.Native.Nat.{ℕ, suc, ◌*◌, ◌≤◌, ◌<◌}
use native.Mathlib.Omega.{arith}
use lib.Dec.{leb, ltb}
use lib.ListN.{length, drop}
use borrow.Author.Tests.{lt-ltb, le-ltb, le-leb, ltb-true, leb-true}
use Rattle.integers.specs.Sums.{both}
use Rattle.rules.specs.declared.Refusal.TheVariants.{WrongState, TooShort}
use Rattle.rules.specs.Contents.{requirement_size}
use Rattle.rules.specs.Listing.{interval_line, requirement_line, member_line}
use Rattle.interval.specs.declared.Tally.{Tally}
use Rattle.interval.specs.Lent.{Lent}
use Rattle.answer.specs.declared.Answer.{Answer}
use Rattle.answer.specs.declared.Row.{Row}
use Rattle.answer.specs.Promises.{Columns, columns_long, answer_reply}
use Rattle.answer.specs.Roster.{member_reply, row_answer}
use Rattle.listing.specs.Lines.{answer_of, residual_of}
use Rattle.lister.specs.declared.Cursor.TheVariants as at
use Rattle.lister.specs.declared.Halt.TheVariants as halt
use Rattle.lister.specs.Move.{moves, ends, refuses, move, among, amounts_at, line_of, answering, row_move}
use Rattle.lister.specs.Steps.{Halted, halt_behind}

-- a place among the members of a requirement
pub record Among (t : Tally) (k row place : ℕ) : Type 0 where
  pub requirement : k < t.requirements
  pub row_there : row ≤ t.units
  pub few : place ≤ row

pub among_means : (t : Tally) (k row place : ℕ) → among t k row place ≡ true → Among t k row place
among_means t k row place e =
    let a = both (ltb k t.requirements) _ e in
    let b = both (leb row t.units) _ a.1 in
    record { requirement = ltb-true _ _ a.0; row_there = leb-true _ _ b.0; few = leb-true _ _ b.1 }

pub among_is : (t : Tally) (k row place : ℕ) → Among t k row place → among t k row place ≡ true
among_is t k row place h =
    rw (lt-ltb k t.requirements h.requirement, le-leb row t.units h.row_there, le-leb place row h.few)

-- a member's numbers stand in long columns
pub columns_there :
    (units place : ℕ) (c : Columns) → columns_long units c ≡ true → place ≤ units →
    (place < length c.performances) × (place < length c.factors) × (place < length c.payments) × (place < length c.used)
    × (place < length c.unused)
columns_there units place c e h =
    let a = both (ltb units (length c.performances)) _ e in
    let b = both (ltb units (length c.factors)) _ a.1 in
    let d = both (ltb units (length c.payments)) _ b.1 in
    let f = both (ltb units (length c.used)) _ d.1 in (
      omega (arith, ltb-true units (length c.performances) a.0),
      omega (arith, ltb-true units (length c.factors) b.0),
      omega (arith, ltb-true units (length c.payments) d.0),
      omega (arith, ltb-true units (length c.used) f.0),
      omega (arith, ltb-true units (length c.unused) f.1),
    )

module _ (t : Tally) (bytes : List ℕ) (l : Lent) (c : Columns) where
  pub move_interval : move t bytes l at.Interval c ≡ moves (interval_line t.interval) (at.Requirement 0) c
  unfolding move
  move_interval = refl

  pub move_requirement :
      (k : ℕ) → k < t.requirements →
      move t bytes l (at.Requirement k) c ≡ answering t bytes l k c (answer_reply t (drop (requirement_size * k) bytes) l c)
  unfolding move
  move_requirement k h = rw (lt-ltb k t.requirements h)

  pub move_behind : (k room : ℕ) → t.requirements ≤ k → Halted (halt_behind t.requirements k) room (move t bytes l (at.Requirement k) c)
  unfolding move
  move_behind k room h = go (ltb t.requirements k)
    where
      go : (b : Bool) → Halted (cond b (halt.Refused WrongState) halt.Ended) room
          (cond (ltb k t.requirements) (answering t bytes l k c (answer_reply t (drop (requirement_size * k) bytes) l c)) (cond b (refuses WrongState) ends))
      go true = rw (le-ltb k t.requirements h)
      go false = rw (le-ltb k t.requirements h)

  pub move_answered :
      (k : ℕ) (a : Answer) → k < t.requirements →
      move t bytes l (at.Answered k a) c ≡ moves (requirement_line (answer_of (line_of a))) (at.Members k a 0 0) c
  unfolding move
  move_answered k a h = rw (lt-ltb k t.requirements h)

  pub move_past : (k : ℕ) (a : Answer) → t.requirements ≤ k → move t bytes l (at.Answered k a) c ≡ refuses WrongState
  unfolding move
  move_past k a h = rw (le-ltb k t.requirements h)

  module _ (k : ℕ) (a : Answer) (row place : ℕ) where
    pub move_nowhere : among t k row place ≡ false → move t bytes l (at.Members k a row place) c ≡ refuses WrongState
    unfolding move
    move_nowhere e = rw e

    pub move_short : among t k row place ≡ true → columns_long t.units c ≡ false → move t bytes l (at.Members k a row place) c ≡ refuses TooShort
    unfolding move
    move_short e f = rw (e, f)

    pub move_row :
        among t k row place ≡ true → columns_long t.units c ≡ true → row < t.units → {r : Row} →
        r ≡ row_answer (member_reply t row a.direction a.set l) →
        move t bytes l (at.Members k a row place) c ≡ row_move t bytes l k a row place c r
    unfolding move
    move_row e f h same = rw (e, f, lt-ltb row t.units h, ← same)

  pub move_residual :
      (k : ℕ) (a : Answer) (place : ℕ) → among t k t.units place ≡ true → columns_long t.units c ≡ true →
      move t bytes l (at.Members k a t.units place) c
      ≡ moves (member_line (residual_of a.residual (amounts_at c place))) (at.Requirement (suc k)) c
  unfolding move
  move_residual k a place e f = rw (e, f, le-ltb t.units t.units (omega arith))
