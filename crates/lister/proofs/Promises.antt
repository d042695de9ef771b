-- Laws of the definitions in specs/Promises.antt: a listing goes one way alone, so that a call has one answer; and on a refusal nothing is written. Only an
-- answered requirement changes the columns, and its line, which comes next, has room wherever a requirement is yet to be answered.
use mathlib.Core.Path.{◌≡◌, refl, sym, ◌∙◌, ap, subst, subst₂}
use mathlib.Core.Bool.{Bool, true, false, cond, ◌&&◌}
use mathlib.Core.List.{List, [], ◌∷◌, ◌++◌}
use Prim.Native.Nat.{ℕ, suc, ◌+◌, ◌-◌, ◌*◌, ◌≤◌, ◌<◌}
use native.Mathlib.Omega.{arith}
use lib.Dec.{eqb, leb, ltb, lit≤}
use lib.ListN.{length, drop, length-append}
use borrow.Author.Tests.{leb-true, lt-ltb, ltb-true}
use Rattle.rules.specs.declared.Direction.{Direction}
use Rattle.rules.specs.declared.Direction.TheVariants.{Raise, Lower}
use Rattle.rules.specs.declared.Refusal.{Refusal}
use Rattle.rules.specs.declared.Refusal.TheVariants.{WrongState, EndsEarly, TooShort}
use Rattle.rules.specs.declared.Standing.{Standing}
use Rattle.rules.specs.declared.Standing.TheVariants.{Live, Default}
use Rattle.rules.specs.Refusals.{Reply, taken, refused, unless}
use Rattle.rules.specs.Contents.{requirement_size}
use Rattle.rules.specs.Book.{Requirement}
use Rattle.rules.specs.Answer.{Line, Answer as Full}
use Rattle.rules.specs.Members.{Name, unit, residual}
use Rattle.rules.specs.Text.{text, integer, words}
use Rattle.rules.specs.Listing.{direction_word, standing_word, name_words, interval_line, requirement_line, member_line}
use Rattle.interval.specs.declared.Tally.{Tally}
use Rattle.interval.specs.Tally.{in_range, book_end}
use Rattle.interval.specs.Lent.{Lent}
use Rattle.answer.specs.declared.Answer.{Answer}
use Rattle.answer.specs.declared.Row.{Row}
use Rattle.answer.specs.declared.Row.TheVariants.{Unit as Member, Other, Refused as Unknown}
use Rattle.answer.specs.Promises.{Columns, columns_long, answer_reply}
use Rattle.answer.specs.Roster.{member_reply, row_answer}
use Rattle.listing.specs.Lines.{answer_of, unit_of, residual_of}
use Rattle.listing.proofs.PiecesLaws.{digits_most, integer_most}
use Rattle.lister.specs.declared.Cursor.{Cursor}
use Rattle.lister.specs.declared.Cursor.TheVariants as at
use Rattle.lister.specs.declared.Listed.{Listed}
use Rattle.lister.specs.declared.Listed.TheVariants.{Written, Nothing, Refused}
use Rattle.lister.specs.Move.{Move, moves, ends, refuses, line_of, amounts_at, among, answering, row_move, move}
use Rattle.lister.proofs.SaidLaws.{words_some}
use Rattle.lister.specs.Promises.{longest_line, room_for_any, list_tests, Stops, Goes, stays, and_then, piece_told, ByTests, ListPromise}

-- ---- no line is longer than the longest
pub requirement_some : (a : Full) → 0 < length (requirement_line a)
requirement_some a = words_some _

direction_most : (d : Direction) → length (direction_word d) ≤ 5
unfolding text
direction_most Raise = lit≤ tt
direction_most Lower = lit≤ tt

standing_most : (s : Standing) → length (standing_word s) ≤ 7
unfolding text
standing_most Live = lit≤ tt
standing_most (Default why) = lit≤ tt

requirement_most : (a : Full) → length (requirement_line a) ≤ longest_line
unfolding words text
requirement_most a =
    simp length-append
    (omega (
      arith,
      digits_most 20 a.number,
      direction_most a.direction,
      digits_most 20 a.rcr,
      digits_most 20 a.pool,
      digits_most 20 a.used_pool,
      digits_most 20 a.unused_pool,
      digits_most 20 a.unplaced_used,
      digits_most 20 a.unplaced_unused,
    ))

member_most : (x : Line) → length (member_line x) ≤ longest_line
unfolding words text
member_most x = go x.name
  where
    go :
        (n : Name) →
        length (words (name_words n ++ (standing_word x.standing ∷ integer x.performance ∷ integer x.factor ∷ integer x.payment ∷ integer x.used
        ∷
        integer x.unused ∷ []))) ≤ longest_line
    go (unit n) =
        simp length-append
        (omega (
          arith,
          digits_most 20 n,
          standing_most x.standing,
          integer_most x.performance,
          integer_most x.factor,
          integer_most x.payment,
          integer_most x.used,
          integer_most x.unused,
        ))
    go residual =
        simp length-append
        (omega (
          arith,
          standing_most x.standing,
          integer_most x.performance,
          integer_most x.factor,
          integer_most x.payment,
          integer_most x.used,
          integer_most x.unused,
        ))

interval_most : (n : ℕ) → length (interval_line n) ≤ longest_line
unfolding words text
interval_most n = simp length-append (omega (arith, digits_most 20 n))

-- ---- a listing goes one way alone
moves_only : {line line₂ : List ℕ} {next next₂ : Cursor} {c c₂ : Columns} → moves line next c ≡ moves line₂ next₂ c₂ →
    (line ≡ line₂) × (next ≡ next₂) × (c ≡ c₂)
moves_only e = (cc, cc, cc)

stopped : {room : ℕ} {m : Move} {line : List ℕ} {next : Cursor} {c : Columns} → Stops room m → m ≡ moves line next c → room < length line
stopped {room} s e = subst (Stops room) e s

module _ (t : Tally) (bytes : List ℕ) (l : Lent) where
  goes_only :
      {at next next₂ : Cursor} {c c' c₂ : Columns} {lines lines₂ : List ℕ} (room : ℕ) → Goes t bytes l at c lines next c' → length lines ≤ room →
      Stops (room - length lines) (move t bytes l next c') → Goes t bytes l at c lines₂ next₂ c₂ → length lines₂ ≤ room →
      Stops (room - length lines₂) (move t bytes l next₂ c₂) → (lines ≡ lines₂) × (next ≡ next₂) × (c' ≡ c₂)
  goes_only room stays f s stays f₂ s₂ = (refl, refl, refl)
  goes_only room stays f s (and_then {line = line} {lines} e g) f₂ s₂ = absurd (omega (arith, stopped s e, length-append line lines))
  goes_only room (and_then {line = line} {lines} e g) f s stays f₂ s₂ = absurd (omega (arith, stopped s₂ e, length-append line lines))
  goes_only room (and_then {last = last} {c₂ = c'} {line} {lines} e g) f s (and_then {last = last₂} {c₂ = c₂} {line = line₂} {lines = lines₂} e₂ g₂) f₂ s₂ =
      let same = moves_only (sym e ∙ e₂) in
      let g₃ = subst₂ (λ (n : Cursor) (k : Columns). Goes t bytes l n k lines₂ last₂ c₂) (sym same.1) (sym same.2) g₂ in
      let long = length-append line lines in
      let long₂ : length (line₂ ++ lines₂) ≡ length line + length lines₂ = length-append line₂ lines₂ ∙ rw same.0 in
      let left : room - length (line ++ lines) ≡ room - length line - length lines = omega (arith, long) in
      let left₂ : room - length (line₂ ++ lines₂) ≡ room - length line - length lines₂ = omega (arith, long₂) in
      let s₃ = subst (λ (m : ℕ). Stops m (move t bytes l last c')) left s in
      let s₄ = subst (λ (m : ℕ). Stops m (move t bytes l last₂ c₂)) left₂ s₂ in
      let ih = goes_only (room - length line) g (omega (arith, long)) s₃ g₃ (omega (arith, long₂)) s₄ in
      (rw (same.0, ih.0), ih.1, ih.2)

  only_by :
      (x : Reply Cursor) (c : Columns) (old : List ℕ) {c' c₂ : Columns} {new new₂ : List ℕ} {r r₂ : Listed} → ByTests x t bytes l c old r c' new →
      ByTests x t bytes l c old r₂ c₂ new₂ → (r ≡ r₂) × (c' ≡ c₂) × (new ≡ new₂)
  only_by (taken at) c old {c'} {c₂} a b =
      let p = a.piece in
      let q = b.piece in
      let same = goes_only (length old) p.goes p.fits p.stops q.goes q.fits q.stops in
      let told : piece_told a.lines a.next (move t bytes l a.next c') ≡ piece_told b.lines b.next (move t bytes l b.next c₂) =
      rw (same.0, same.1, same.2) in (
        a.reply ∙ told ∙ sym b.reply,
        same.2,
        a.text ∙ ap (λ (ls : List ℕ). ls ++ drop (length ls) old) same.0 ∙ sym b.text,
      )
  only_by (refused why) c old a b = (a.reply ∙ sym b.reply, a.columns ∙ sym b.columns, a.text ∙ sym b.text)

-- A CALL HAS ONE ANSWER
pub list_only :
    {at : Cursor} {t : Tally} {bytes : List ℕ} {l : Lent} {c c' c₂ : Columns} {old new new₂ : List ℕ} {r r₂ : Listed} → ListPromise at t bytes l c old r c' new
    →
    ListPromise at t bytes l c old r₂ c₂ new₂ → (r ≡ r₂) × (c' ≡ c₂) × (new ≡ new₂)
list_only {at} {t} {bytes} {l} {c} {old = old} a b = only_by t bytes l (list_tests t (length bytes) at (length old)) c old a.kept b.kept

-- ---- where no line is said, the columns stay
by_cond : (P : Move → Type 0) (s : Bool) {x y : Move} → P x → P y → P (cond s x y)
by_cond P true a b = a
by_cond P false a b = b

-- any but a requirement that is yet to be answered
abbrev Settled : Cursor → Type 0
Settled at.Interval = Unit {0}
Settled (at.Requirement k) = ⊥
Settled (at.Answered k a) = Unit {0}
Settled (at.Members k a row place) = Unit {0}

-- a move that says no line leaves the columns, and no requirement is to be answered then
abbrev Silent : Columns → Move → Type 0
Silent c (moves [] next c₁) = Settled next × (c₁ ≡ c)
Silent c (moves (x ∷ line) next c₁) = Unit {0}
Silent c ends = Unit {0}
Silent c (refuses r) = Unit {0}

said_some : (c : Columns) (line : List ℕ) (next : Cursor) (c₁ : Columns) → 0 < length line → Silent c (moves line next c₁)
said_some c [] next c₁ h = absurd (omega arith)
said_some c (x ∷ line) next c₁ h = tt

-- the line of an answered requirement comes next
abbrev Comes : Move → Type 0
Comes (moves line next c) = (0 < length line) × (length line ≤ longest_line)
Comes ends = ⊥
Comes (refuses r) = ⊥

abbrev Fits : Move → Type 0
Fits (moves line next c) = length line ≤ longest_line
Fits ends = Unit {0}
Fits (refuses r) = Unit {0}

no_stop : (room : ℕ) (m : Move) → Comes m → longest_line ≤ room → Stops room m → ⊥
no_stop room (moves line next c) w big s = omega arith
no_stop room ends w big s = w
no_stop room (refuses r) w big s = w

-- an answered requirement of the book
abbrev Answering : Tally → Cursor → Type 0
Answering t at.Interval = ⊥
Answering t (at.Requirement k) = ⊥
Answering t (at.Answered k a) = k < t.requirements
Answering t (at.Members k a row place) = ⊥

abbrev Opens : Tally → ℕ → Move → Type 0
Opens t k (moves line next c) = (k < t.requirements) × Answering t next
Opens t k ends = Unit {0}
Opens t k (refuses r) = Unit {0}

module _ (t : Tally) (bytes : List ℕ) (l : Lent) where
  -- what a move among the members may be
  among_members :
      (P : Move → Type 0) (k : ℕ) (a : Answer) (row place : ℕ) (c : Columns) →
      ((number : ℕ) (standing : Standing) → P (moves (member_line (unit_of number standing (amounts_at c place))) (at.Members k a (suc row) (suc place)) c)) →
      P (moves [] (at.Members k a (suc row) place) c) →
      P (moves (member_line (residual_of a.residual (amounts_at c place))) (at.Requirement (suc k)) c) → ((r : Refusal) → P (refuses r)) →
      P (move t bytes l (at.Members k a row place) c)
  unfolding move
  among_members P k a row place c u o last no_move =
      by_cond P (among t k row place)
      (by_cond P (columns_long t.units c) (by_cond P (ltb row t.units) (go (row_answer (member_reply t row a.direction a.set l))) last)
      (no_move TooShort))
      (no_move WrongState)
    where
      go : (r : Row) → P (row_move t bytes l k a row place c r)
      go (Member number standing) = u number standing
      go Other = o
      go (Unknown r) = no_move r

  opens : (k : ℕ) (c : Columns) → Opens t k (move t bytes l (at.Requirement k) c)
  unfolding move
  opens k c = go (ltb k t.requirements) refl
    where
      reply : Reply Requirement
      reply = answer_reply t (drop (requirement_size * k) bytes) l c

      asked : k < t.requirements → (x : Reply Requirement) → Opens t k (answering t bytes l k c x)
      asked h (taken q) = (h, h)
      asked h (refused r) = tt

      go : (s : Bool) → ltb k t.requirements ≡ s →
          Opens t k (cond s (answering t bytes l k c reply) (cond (ltb t.requirements k) (refuses WrongState) ends))
      go true e = asked (ltb-true _ _ e) reply
      go false e = by_cond (Opens t k) (ltb t.requirements k) tt tt

  comes : (at : Cursor) (c : Columns) → Answering t at → Comes (move t bytes l at c)
  unfolding move
  comes at.Interval c h = absurd h
  comes (at.Requirement k) c h = absurd h
  comes (at.Answered k a) c h = rw (lt-ltb k t.requirements h) (words_some _, requirement_most (answer_of (line_of a)))
  comes (at.Members k a row place) c h = absurd h

  -- no move says a longer line
  move_fits : (at : Cursor) (c : Columns) → Fits (move t bytes l at c)
  unfolding move
  move_fits at.Interval c = interval_most t.interval
  move_fits (at.Requirement k) c = by_cond Fits (ltb k t.requirements) (go (answer_reply t (drop (requirement_size * k) bytes) l c))
      (by_cond Fits (ltb t.requirements k) tt tt)
    where
      go : (x : Reply Requirement) → Fits (answering t bytes l k c x)
      go (taken q) = omega arith
      go (refused r) = tt
  move_fits (at.Answered k a) c = by_cond Fits (ltb k t.requirements) (requirement_most (answer_of (line_of a))) tt
  move_fits (at.Members k a row place) c =
      among_members Fits k a row place c (λ number standing. member_most (unit_of number standing (amounts_at c place))) (omega arith)
      (member_most (residual_of a.residual (amounts_at c place))) (λ r. tt)

  pub line_fits : (at : Cursor) (c : Columns) {next : Cursor} {c₁ : Columns} {line : List ℕ} → move t bytes l at c ≡ moves line next c₁ →
      length line ≤ longest_line
  line_fits at c e = subst Fits e (move_fits at c)

  silent : (at : Cursor) (c : Columns) → Settled at → Silent c (move t bytes l at c)
  unfolding move
  silent at.Interval c h = said_some c (interval_line t.interval) (at.Requirement 0) c (words_some _)
  silent (at.Requirement k) c h = absurd h
  silent (at.Answered k a) c h =
      by_cond (Silent c) (ltb k t.requirements) (said_some c (requirement_line (answer_of (line_of a))) (at.Members k a 0 0) c (words_some _)) tt
  silent (at.Members k a row place) c h =
      among_members (Silent c) k a row place c
      (λ number standing. said_some c (member_line (unit_of number standing (amounts_at c place))) (at.Members k a (suc row) (suc place)) c (words_some _))
      (tt, refl)
      (said_some c (member_line (residual_of a.residual (amounts_at c place))) (at.Requirement (suc k)) c (words_some _))
      (λ r. tt)

  -- so do moves one after another
  quiet : {at next : Cursor} {c c' : Columns} {lines : List ℕ} → Goes t bytes l at c lines next c' → Settled at → lines ≡ [] → c' ≡ c
  quiet stays h e = refl
  quiet (and_then {at = at} {next = next} {c = c} {c₁ = c₁} {line = []} m g) h e =
      let s = subst (Silent c) m (silent at c h) in
      quiet g s.0 e ∙ s.1
  quiet (and_then {line = x ∷ line} m g) h e = absurd (omega (arith, ap length e))

  -- a requirement that is answered says its line where the longest has room
  held : {at next : Cursor} {c c' : Columns} {lines : List ℕ} (room : ℕ) → Goes t bytes l at c lines next c' → Answering t at → lines ≡ [] →
      longest_line ≤ room → Stops room (move t bytes l next c') → ⊥
  held {at} {c = c} room stays h e big s = no_stop room (move t bytes l at c) (comes at c h) big s
  held room (and_then {at = at} {c = c} {line = line} {lines = lines} m g) h e big s =
      let w = subst Comes m (comes at c h) in
      omega (arith, w.0, ap length e, length-append line lines)

  columns_stay :
      (at : Cursor) {next : Cursor} {c c' : Columns} {lines : List ℕ} (room : ℕ) → room_for_any t at room ≡ true → Goes t bytes l at c lines next c' →
      lines ≡ [] → Stops room (move t bytes l next c') → c' ≡ c
  columns_stay at.Interval room fine g e s = quiet g tt e
  columns_stay (at.Requirement k) room fine g e s = from g refl e s
    where
      from : {start next : Cursor} {c c' : Columns} {lines : List ℕ} → Goes t bytes l start c lines next c' → start ≡ at.Requirement k → lines ≡ [] →
          Stops room (move t bytes l next c') → c' ≡ c
      from stays a e s = refl
      from (and_then {c = c} {line = []} m g) a e s =
          let o = subst (Opens t k) (ap (λ (x : Cursor). move t bytes l x c) (sym a) ∙ m) (opens k c) in
          absurd (held room g o.1 e (enough (leb longest_line room) refl o.0) s)
        where
          enough : (big : Bool) → leb longest_line room ≡ big → k < t.requirements → longest_line ≤ room
          enough true b h = leb-true _ _ b
          enough false b h = absurd (omega (arith, leb-true t.requirements k (rw (b) at fine)))
      from (and_then {line = x ∷ line} m g) a e s = absurd (omega (arith, ap length e))
  columns_stay (at.Answered k a) room fine g e s = quiet g tt e
  columns_stay (at.Members k a row place) room fine g e s = quiet g tt e

  abbrev Unwritten : Listed → Type 0
  Unwritten (Written n next) = ⊥
  Unwritten Nothing = Unit {0}
  Unwritten (Refused why) = Unit {0}

  nothing_said : (lines : List ℕ) (next : Cursor) (m : Move) → Unwritten (piece_told lines next m) → lines ≡ []
  nothing_said [] next m h = refl
  nothing_said (x ∷ lines) next m h = absurd h

  unwritten :
      (at : Cursor) (c : Columns) (old : List ℕ) (s u v : Bool) → room_for_any t at (length old) ≡ v → (r : Listed) {c' : Columns} {new : List ℕ} →
      ByTests (unless s WrongState (unless u EndsEarly (unless v TooShort (taken at)))) t bytes l c old r c' new → Unwritten r → (c' ≡ c) × (new ≡ old)
  unwritten at c old true true true fine r {c'} p h =
      let q = p.piece in
      let none = nothing_said p.lines p.next _ (subst Unwritten p.reply h) in
      let same : length old - length p.lines ≡ length old = omega (arith, ap length none) in (
        columns_stay at (length old) fine q.goes none (subst (λ (m : ℕ). Stops m (move t bytes l p.next c')) same q.stops),
        p.text ∙ ap (λ (ls : List ℕ). ls ++ drop (length ls) old) none,
      )
  unwritten at c old true true false fine r p h = (p.columns, p.text)
  unwritten at c old true false v fine r p h = (p.columns, p.text)
  unwritten at c old false u v fine r p h = (p.columns, p.text)

  unwritten_left :
      (at : Cursor) (c : Columns) (old : List ℕ) (r : Listed) {c' : Columns} {new : List ℕ} → ListPromise at t bytes l c old r c' new → Unwritten r →
      (c' ≡ c) × (new ≡ old)
  unfolding list_tests
  unwritten_left at c old r p h =
      unwritten at c old (in_range t && eqb t.records (book_end t)) (leb (requirement_size * t.requirements) (length bytes))
      (room_for_any t at (length old)) refl r p.kept h

-- ON A REFUSAL NOTHING IS WRITTEN, and where nothing is left
module _ {at : Cursor} {t : Tally} {bytes : List ℕ} {l : Lent} {c c' : Columns} {old new : List ℕ} where
  pub refused_writes_nothing : {why : Refusal} → ListPromise at t bytes l c old (Refused why) c' new → (c' ≡ c) × (new ≡ old)
  refused_writes_nothing {why} p = unwritten_left t bytes l at c old (Refused why) p tt

  pub nothing_writes_nothing : ListPromise at t bytes l c old Nothing c' new → (c' ≡ c) × (new ≡ old)
  nothing_writes_nothing p = unwritten_left t bytes l at c old Nothing p tt
