-- Laws of a turn: a requirement's lines from each cursor on.
use Rattle.std.specs.Prelude.{Result, Ok, Err}
use mathlib.Core.Path.{◌≡◌, refl, sym, ◌∙◌, ap, subst}
use mathlib.Core.Bool.{Bool, true, false, cond, true≢false}
use mathlib.Core.List.{List, [], ◌∷◌}
use Prim.Native.Nat.{ℕ, ◌+◌, ◌-◌, ◌*◌, ◌≤◌, ◌<◌}
use native.Mathlib.Omega.{arith}
use lib.Dec.{ltb}
use lib.ListN.{length, take, drop, length-drop}
use lib.Seq.{take-length}
use types.Run.{OneOf, miss}
use denote.Enum.Declared.{tag_of}
use Rattle.rules.specs.declared.Refusal.{Refusal}
use Rattle.rules.specs.declared.Refusal.TheVariants.{WrongState}
use Rattle.rules.specs.Refusals.{Reply, taken, refused}
use Rattle.rules.specs.Book.{Requirement}
use Rattle.rules.specs.Listing.{requirement_line, member_line}
use Rattle.interval.specs.declared.Tally.{Tally}
use Rattle.interval.specs.Lent.{Lent}
use Rattle.interval.specs.Calls.{left}
use Rattle.kept.specs.Kept.{kept_answer}
use Rattle.answer.specs.declared.Answer.{Answer}
use Rattle.answer.specs.Promises.{Columns, columns_long, answer_reply, shown, replied, with_lines, AnswerPromise}
use Rattle.listing.specs.Lines.{answer_of, residual_of}
use Rattle.lister.specs.declared.Cursor.{Cursor}
use Rattle.lister.specs.declared.Cursor.TheVariants as at
use Rattle.lister.specs.declared.Halt.{Halt}
use Rattle.lister.specs.declared.Halt.TheVariants as halt
use Rattle.lister.specs.declared.Step.{Step}
use Rattle.lister.specs.declared.Walked.{Walked}
use Rattle.lister.specs.Move.{moves, refuses, move, amounts_at, line_of, answering}
use Rattle.lister.specs.Said.{Said}
use Rattle.lister.specs.Steps.{WhereOn, Runs, UnitsListed, Turns, turns_left, cursor_left, halt_behind}
use Rattle.lister.specs.contracts.Halt.{the_type}
use Rattle.lister.proofs.MoveLaws.{among_is, move_requirement, move_behind, move_answered, move_residual}
use Rattle.lister.proofs.StepsLaws.{run_then, run_said, run_silent, run_halts, run_full, said_some}
use Rattle.lister.proofs.MembersLaws.{next_is}

-- no turn is left where a listing halts
abbrev halts : List ℕ
halts = 1 ∷ 2 ∷ 3 ∷ []

pub none_left : (requirements : ℕ) (c : Cursor) (h : Halt) → OneOf halts (tag_of the_type h) → turns_left requirements c h ≡ 0
none_left requirements c halt.On k = absurd (miss halts 0 tt k)
none_left requirements c halt.Full k = refl
none_left requirements c halt.Ended k = refl
none_left requirements c (halt.Refused r) k = refl

-- a refused move is no turn more
pub turn_refused :
    {t : Tally} {bytes : List ℕ} {l : Lent} {c : Cursor} {columns : Columns} {done : ℕ} {old : List ℕ} (why : Refusal) → done ≤ length old →
    move t bytes l c columns ≡ refuses why →
    Turns t bytes l c columns done old (record { at = c; done = done; halt = halt.Refused why }) columns old
turn_refused why fits e = record { runs = run_halts (halt.Refused why) fits e; less = omega arith }

module _ (t : Tally) (bytes : List ℕ) (l : Lent) (c : Columns) (k : ℕ) where
  -- ---- the residual's line
  module _ (a : Answer) (place done : ℕ) (old : List ℕ) (one : k < t.requirements) (few : place ≤ t.units) (long : columns_long t.units c ≡ true)
      (fits : done ≤ length old) {said : ℕ} {new : List ℕ} (w : Said (member_line (residual_of a.residual (amounts_at c place))) done old said new) where
    last_move : move t bytes l (at.Members k a t.units place) c ≡ moves (member_line (residual_of a.residual (amounts_at c place))) (at.Requirement (k +
        1)) c
    last_move =
        move_residual t bytes l c k a place (among_is t k t.units place (record { requirement = one; row_there = omega arith; few = few })) long
        ∙ rw (next_is k)

    pub residual_full :
        said ≡ 0 →
        Turns t bytes l (at.Members k a t.units place) c done old
        (record { at = at.Members k a t.units place; done = done; halt = halt.Full }) c new
    residual_full z = record { runs = run_full last_move w z fits; less = omega arith }

    pub residual_said :
        (said ≡ 0 → ⊥) →
        Turns t bytes l (at.Members k a t.units place) c done old
        (record { at = at.Requirement (k + 1); done = done + said; halt = halt.On }) c new
    residual_said some = record { runs = run_said last_move w (said_some w some); less = omega (arith, one) }

  -- ---- the units' lines, then the residual's
  module _ (a : Answer) (row place done : ℕ) (old : List ℕ) {w : Walked} {mid : List ℕ} (u : UnitsListed t bytes l k a c row place done old w mid) where
    pub units_halt :
        OneOf halts (tag_of the_type w.halt) →
        Turns t bytes l (at.Members k a row place) c done old (record { at = at.Members k a w.row w.place; done = w.done; halt = w.halt }) c mid
    units_halt h = record { runs = u.runs; less = omega (arith, none_left t.requirements (at.Members k a w.row w.place) w.halt h) }

    pub units_then :
        w.halt ≡ halt.On → {s : Step} {new : List ℕ} → Turns t bytes l (at.Members k a t.units w.place) c w.done mid s c new →
        Turns t bytes l (at.Members k a row place) c done old s c new
    units_then on {s} {new} r =
        let all = subst (λ (h : Halt). WhereOn h (w.row ≡ t.units)) on u.behind in
        record {
          runs = run_then u.runs (subst (λ (n : ℕ). Runs t bytes l (at.Members k a n w.place) c w.done mid s c new) (sym all) r.runs);
          less = r.less;
        }

  -- ---- the line of a requirement that is answered, then its members'
  module _ (a : Answer) (done : ℕ) (old : List ℕ) (one : k < t.requirements) (fits : done ≤ length old) {said : ℕ} {mid : List ℕ}
      (w : Said (requirement_line (answer_of (line_of a))) done old said mid) where
    pub answered_full :
        said ≡ 0 → Turns t bytes l (at.Answered k a) c done old (record { at = at.Answered k a; done = done; halt = halt.Full }) c mid
    answered_full z = record { runs = run_full (move_answered t bytes l c k a one) w z fits; less = omega arith }

    pub answered_then :
        (said ≡ 0 → ⊥) → {s : Step} {new : List ℕ} → Turns t bytes l (at.Members k a 0 0) c (done + said) mid s c new →
        Turns t bytes l (at.Answered k a) c done old s c new
    answered_then some r = record { runs = run_then (run_said (move_answered t bytes l c k a one) w (said_some w some)) r.runs; less = r.less }

  -- ---- behind the last requirement
  pub turn_behind :
      (done : ℕ) (old : List ℕ) → t.requirements ≤ k → done ≤ length old → {s : Step} →
      s ≡ record { at = at.Requirement k; done = done; halt = halt_behind t.requirements k } → Turns t bytes l (at.Requirement k) c done old s c old
  turn_behind done old past fits same =
      subst (λ (s : Step). Turns t bytes l (at.Requirement k) c done old s c old) (sym same)
      (record {
        runs = run_halts (halt_behind t.requirements k) fits (move_behind t bytes l c k (length old - done) past);
        less = none (ltb t.requirements k);
      })
    where
      none :
          (b : Bool) → turns_left t.requirements (at.Requirement k) (cond b (halt.Refused WrongState) halt.Ended)
          < 1 + cursor_left t.requirements (at.Requirement k)
      none true = omega arith
      none false = omega arith

-- ---- a requirement that is answered first
figures_of : Answer → Result Answer Refusal → Answer
figures_of other (Ok a) = a
figures_of other (Err r) = other

is_given : Result Answer Refusal → Bool
is_given (Ok a) = true
is_given (Err r) = false

module _ (t : Tally) (bytes : List ℕ) (l : Lent) (c : Columns) (k : ℕ) (one : k < t.requirements) {r : Result Answer Refusal} {c₁ : Columns}
    (w : AnswerPromise t (drop (24 * k) bytes) l c r c₁) where
  abbrev reply : Reply Requirement
  reply = answer_reply t (drop (24 * k) bytes) l c

  answer_moves : (a : Answer) → r ≡ Ok a → move t bytes l (at.Requirement k) c ≡ moves [] (at.Answered k a) c₁
  unfolding figures_of is_given
  answer_moves a e = move_requirement t bytes l c k one ∙ go reply refl
    where
      go : (x : Reply Requirement) → reply ≡ x → answering t bytes l k c x ≡ moves [] (at.Answered k a) c₁
      go (taken q) f =
          let same : shown q (kept_answer t l q) ≡ a = ap (figures_of a) (sym (w.reply ∙ ap (replied t l) f) ∙ e) in
          let there : c₁ ≡ with_lines (kept_answer t l q) c = w.written ∙ ap (λ (x : Reply Requirement). left (λ q. with_lines (kept_answer t l q)) x c) f in
          rw (same, there)
      go (refused why) f = absurd (true≢false (sym (ap is_given (sym (w.reply ∙ ap (replied t l) f) ∙ e))))

  refused_moves : (why : Refusal) → r ≡ Err why → (move t bytes l (at.Requirement k) c ≡ refuses why) × (c₁ ≡ c)
  unfolding is_given
  refused_moves why e = go reply refl
    where
      go : (x : Reply Requirement) → reply ≡ x → (move t bytes l (at.Requirement k) c ≡ refuses why) × (c₁ ≡ c)
      go (taken q) f = absurd (true≢false (ap is_given (sym (w.reply ∙ ap (replied t l) f) ∙ e)))
      go (refused x) f =
          let same : x ≡ why = ap (refusal_of x) (sym (w.reply ∙ ap (replied t l) f) ∙ e) in (
            move_requirement t bytes l c k one ∙ ap (answering t bytes l k c) f ∙ ap refuses same,
            w.written ∙ ap (λ (y : Reply Requirement). left (λ q. with_lines (kept_answer t l q)) y c) f,
          )
        where
          refusal_of : Refusal → Result Answer Refusal → Refusal
          refusal_of other (Ok a) = other
          refusal_of other (Err y) = y

  pub answer_then :
      (a : Answer) → r ≡ Ok a → {done : ℕ} {old new : List ℕ} {s : Step} → done ≤ length old → Turns t bytes l (at.Answered k a) c₁ done old s c₁ new →
      Turns t bytes l (at.Requirement k) c done old s c₁ new
  answer_then a e fits x = record { runs = run_then (run_silent (answer_moves a e) fits) x.runs; less = x.less }

  pub answer_refused :
      (why : Refusal) → r ≡ Err why → {done : ℕ} {old : List ℕ} → done ≤ length old →
      Turns t bytes l (at.Requirement k) c done old (record { at = at.Requirement k; done = done; halt = halt.Refused why }) c₁ old
  answer_refused why e {done} {old} fits =
      let x = refused_moves why e in
      subst (λ (y : Columns). Turns t bytes l (at.Requirement k) c done old (record { at = at.Requirement k; done = done; halt = halt.Refused why }) y old)
      (sym x.1) (turn_refused why fits x.0)

-- the part from a place on
pub part_from : (start : ℕ) (bytes : List ℕ) → take (length bytes - start) (drop start bytes) ≡ drop start bytes
part_from start bytes = ap (λ (n : ℕ). take n (drop start bytes)) (sym (length-drop start bytes)) ∙ take-length (drop start bytes)
