-- Laws of the tests before a listing and of what is told behind it.
use mathlib.Core.Path.{◌≡◌, refl, sym, ◌∙◌, ap, subst}
use mathlib.Core.Bool.{Bool, true, false, ◌&&◌, true≢false}
use mathlib.Core.List.{List, [], ◌∷◌, ◌++◌}
use Prim.Native.Nat.{ℕ, ◌+◌, ◌-◌, ◌*◌, ◌≤◌}
use native.Mathlib.Omega.{arith}
use lib.Dec.{eqb, leb}
use lib.ListN.{length, drop}
use borrow.Author.Tests.{le-leb, leb-true, leb-false, lt-ltb, ne_eqb}
use Rattle.integers.specs.Sums.{both}
use Rattle.rules.specs.declared.Refusal.{Refusal}
use Rattle.rules.specs.declared.Refusal.TheVariants.{WrongState, EndsEarly, TooShort}
use Rattle.rules.specs.Refusals.{Reply, taken, refused}
use Rattle.interval.specs.declared.Tally.{Tally}
use Rattle.interval.specs.Tally.{in_range, answer_turn, units_end, book_end}
use Rattle.interval.specs.Lent.{Lent}
use Rattle.interval.proofs.TallyLaws.{ranged}
use Rattle.answer.specs.Promises.{Columns}
use Rattle.lister.specs.declared.Cursor.{Cursor}
use Rattle.lister.specs.declared.Cursor.TheVariants as at
use Rattle.lister.specs.declared.Halt.{Halt}
use Rattle.lister.specs.declared.Halt.TheVariants as halt
use Rattle.lister.specs.declared.Step.{Step}
use Rattle.lister.specs.declared.Listed.{Listed}
use Rattle.lister.specs.Move.{Move, moves, ends, refuses, move}
use Rattle.lister.specs.Promises.{longest_line, room_for_any, list_tests, Stops, piece_told, ByTests, ListPromise}
use Rattle.lister.specs.Steps.{Halted, Runs, Turns, halt_of, is_on, untold, told_as}
use Rattle.lister.proofs.StepsLaws.{run_then, run_halts, run_size}

-- before the last unit no book has ended
pub not_ended : (t : Tally) → (in_range t && answer_turn t) ≡ false → false ≡ (in_range t && eqb t.records (book_end t))
not_ended t e = go (in_range t) refl
  where
    go : (b : Bool) → in_range t ≡ b → false ≡ (b && eqb t.records (book_end t))
    go false f = refl
    go true f =
        let before : answer_turn t ≡ false = rw f at e in
        sym (ne_eqb t.records (book_end t) (λ h. omega (arith, h, leb-false (units_end t) t.records before)))

-- the longest line has room for any
pub any_room : (t : Tally) (c : Cursor) (room : ℕ) → longest_line ≤ room → room_for_any t c room ≡ true
any_room t at.Interval room h = refl
any_room t (at.Requirement k) room h = rw (le-leb longest_line room h)
any_room t (at.Answered k a) room h = refl
any_room t (at.Members k a row place) room h = refl

-- past the tests
pub record Tested (t : Tally) (bytes : ℕ) (c : Cursor) (room : ℕ) : Type 0 where
  pub ended : (in_range t && eqb t.records (book_end t)) ≡ true
  pub enough : leb (24 * t.requirements) bytes ≡ true
  pub room_any : room_for_any t c room ≡ true

pub tests_passed : {t : Tally} {bytes : ℕ} {c : Cursor} {room : ℕ} → Tested t bytes c room → list_tests t bytes c room ≡ taken c
unfolding list_tests
tests_passed h = rw (h.ended, h.enough, h.room_any)

-- or one of them refuses
pub data EachTest (t : Tally) (bytes : ℕ) (c : Cursor) (room : ℕ) : Type 0 where
  passes : Tested t bytes c room → EachTest t bytes c room
  fails : (why : Refusal) → list_tests t bytes c room ≡ refused why → EachTest t bytes c room

pub by_each_test : (t : Tally) (bytes : ℕ) (c : Cursor) (room : ℕ) → EachTest t bytes c room
unfolding list_tests
by_each_test t bytes c room = first (in_range t && eqb t.records (book_end t)) refl
  where
    third :
        (in_range t && eqb t.records (book_end t)) ≡ true → leb (24 * t.requirements) bytes ≡ true → (b : Bool) → room_for_any t c room ≡ b →
        EachTest t bytes c room
    third d e true f = passes (record { ended = d; enough = e; room_any = f })
    third d e false f = fails TooShort (rw (d, e, f))

    second : (in_range t && eqb t.records (book_end t)) ≡ true → (b : Bool) → leb (24 * t.requirements) bytes ≡ b → EachTest t bytes c room
    second d true e = third d e (room_for_any t c room) refl
    second d false e = fails EndsEarly (rw (d, e))

    first : (b : Bool) → (in_range t && eqb t.records (book_end t)) ≡ b → EachTest t bytes c room
    first true d = second d (leb (24 * t.requirements) bytes) refl
    first false d = fails WrongState (rw d)

-- ---- what a halt tells
told_lines :
    (at : Cursor) (lines : List ℕ) (done : ℕ) (h : Halt) (m : Move) → done ≡ length lines → untold h ≡ piece_told [] at m →
    told_as at done h ≡ piece_told lines at m
told_lines at [] done h m e u = rw e u
told_lines at (x ∷ lines) done h m e u = rw (lt-ltb 0 done (omega (arith, e)), e)

stops_told :
    (at : Cursor) (lines : List ℕ) (done room : ℕ) (h : Halt) (m : Move) → done ≡ length lines → is_on h ≡ false → Halted h (room - done) m →
    Stops (room - length lines) m × (told_as at done h ≡ piece_told lines at m)
stops_told at lines done room halt.On m e off w = absurd (true≢false off)
stops_told at lines done room halt.Full m e off w =
    rw w.comes (omega (arith, w.longer, e), told_lines at lines done halt.Full (moves w.line w.next w.columns) e refl)
stops_told at lines done room halt.Ended m e off w = rw w (tt, told_lines at lines done halt.Ended ends e refl)
stops_told at lines done room (halt.Refused r) m e off w = rw w (tt, told_lines at lines done (halt.Refused r) (refuses r) e refl)

-- ---- how far `list` has come
module _ (t : Tally) (bytes : List ℕ) (l : Lent) (first : Cursor) (c : Columns) (old : List ℕ) where
  pub data SoFar (at : Cursor) (done : ℕ) (h : Halt) (c' : Columns) (new : List ℕ) : Type 0 where
    came : Tested t (length bytes) first (length old) → Runs t bytes l first c 0 old (record { at = at; done = done; halt = h }) c' new → SoFar at done h c' new
    unmoved :
        (why : Refusal) → list_tests t (length bytes) first (length old) ≡ refused why → h ≡ halt.Refused why → done ≡ 0 → c' ≡ c → new ≡ old →
        SoFar at done h c' new

  pub so_far_first : (h : Halt) → h ≡ halt_of (list_tests t (length bytes) first (length old)) → SoFar first 0 h c old
  so_far_first h e = go (by_each_test t (length bytes) first (length old))
    where
      go : EachTest t (length bytes) first (length old) → SoFar first 0 h c old
      go (passes d) =
          let on : h ≡ halt.On = e ∙ ap halt_of (tests_passed d) in
          subst (λ (x : Halt). SoFar first 0 x c old) (sym on) (came d (run_halts halt.On (omega arith) tt))
      go (fails why f) = unmoved why f (e ∙ ap halt_of f) refl refl refl

  module _ {at : Cursor} {done : ℕ} {h : Halt} {c' : Columns} {mid : List ℕ} where
    pub so_far_long : SoFar at done h c' mid → length mid ≡ length old
    so_far_long (came d r) = run_size r
    so_far_long (unmoved why f e z s x) = ap length x

    pub so_far_ready :
        SoFar at done h c' mid → is_on h ≡ true → (t.requirements ≤ 32) × (t.units ≤ 512) × (24 * t.requirements ≤ length bytes) × (done ≤ length mid)
    so_far_ready (came d r) on =
        let k = ranged t (both (in_range t) _ d.ended).0 in
        (k.requirements, k.units, leb-true (24 * t.requirements) (length bytes) d.enough, omega (arith, r.fits, run_size r))
    so_far_ready (unmoved why f e z s x) on = absurd (true≢false (sym on ∙ ap is_on e))

    pub so_far_turn :
        SoFar at done h c' mid → is_on h ≡ true → {s : Step} {c₂ : Columns} {new : List ℕ} → Turns t bytes l at c' done mid s c₂ new →
        SoFar s.at s.done s.halt c₂ new
    so_far_turn (came d r) on x = came d (run_then r x.runs)
    so_far_turn (unmoved why f e z s y) on x = absurd (true≢false (sym on ∙ ap is_on e))

  -- ---- what is told at the end
  pub so_far_told :
      {at : Cursor} {done : ℕ} {h : Halt} {c' : Columns} {new : List ℕ} → SoFar at done h c' new → is_on h ≡ false → {x : Listed} → x ≡ told_as at done h →
      ListPromise first t bytes l c old x c' new
  so_far_told {at} {done} {h} {c'} {new} (came d r) off {x} e =
      let p = stops_told at r.lines done (length old) h (move t bytes l at c') (r.count ∙ zero_more (length r.lines)) off r.halts in
      record {
        kept =
            subst (λ (y : Reply Cursor). ByTests y t bytes l c old x c' new) (sym (tests_passed d))
            (record {
              lines = r.lines;
              next = at;
              piece = record { goes = r.goes; fits = omega (arith, r.count, r.fits); stops = p.0 };
              reply = e ∙ p.1;
              text = r.text ∙ ap (λ (k : ℕ). r.lines ++ drop k old) (zero_more (length r.lines));
            });
      }
    where
      zero_more : (n : ℕ) → 0 + n ≡ n
      zero_more n = omega arith
  so_far_told {at} {done} {h} {c'} {new} (unmoved why f k z s y) off {x} e =
      record {
        kept =
            subst (λ (y : Reply Cursor). ByTests y t bytes l c old x c' new) (sym f)
            (record { reply = e ∙ rw (k, z); columns = s; text = y });
      }
