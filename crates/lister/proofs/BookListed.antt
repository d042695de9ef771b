-- A BOOK'S LISTING COMES WHOLE, PIECE BY PIECE: over a taken book, whatever texts are lent and whatever is refused in between, what the calls have written is
-- the front of the rules' listing, and each call gives of the rest, or says that nothing is left. What is left at a cursor goes along with the moves.
use mathlib.Core.Path.{◌≡◌, refl, sym, ◌∙◌, ap, subst}
use mathlib.Core.Bool.{Bool, true, false, ◌||◌, true≢false}
use mathlib.Core.List.{List, [], ◌∷◌, ◌++◌, append_assoc, append-nil, append_cancel_left}
use Prim.Native.Nat.{ℕ, ◌-◌, ◌≤◌, ◌<◌}
use native.Mathlib.Omega.{arith}
use lib.Dec.{leb}
use lib.ListN.{length, take, drop, length-append}
use lib.Seq.{take-append_seam, drop-append_seam}
use borrow.Author.Tests.{leb-false, le-leb, eq-eqb}
use Rattle.rules.specs.declared.Refusal.TheVariants.{TooShort}
use Rattle.rules.specs.Refusals.{Reply, taken, refused, unless}
use Rattle.rules.specs.Book.{Book}
use Rattle.rules.specs.Listing.{listing}
use Rattle.interval.specs.declared.Tally.{Tally}
use Rattle.interval.specs.Lent.{Lent}
use Rattle.answer.specs.Promises.{Columns, columns_long}
use Rattle.lister.specs.declared.Cursor.{Cursor}
use Rattle.lister.specs.declared.Cursor.TheVariants as at
use Rattle.lister.specs.declared.Listed.{Listed}
use Rattle.lister.specs.declared.Listed.TheVariants.{Written, Nothing, Refused}
use Rattle.lister.specs.Move.{Move, moves, ends, refuses, move}
use Rattle.lister.specs.Promises.{
  longest_line,
  room_for_any,
  list_tests,
  Stops,
  Goes,
  stays,
  and_then,
  piece_told,
  ListedPiece,
  ByTests,
  ListPromise,
}
use Rattle.lister.proofs.Promises.{line_fits, refused_writes_nothing, nothing_writes_nothing}
use Rattle.lister.specs.BookListed.{Taken, Reached, first, piece, again, pieces, GivenOf, some, none, no_room, OnItsWay}
use Rattle.lister.proofs.LinesLeft.{Left, Leads, leads, some_left}

-- ---- a reply
abbrev IsWritten : Listed → Type 0
IsWritten (Written n next) = Unit {0}
IsWritten Nothing = ⊥
IsWritten (Refused why) = ⊥

abbrev IsNothing : Listed → Type 0
IsNothing (Written n next) = ⊥
IsNothing Nothing = Unit {0}
IsNothing (Refused why) = ⊥

written_only : {n n₂ : ℕ} {next next₂ : Cursor} → Written n next ≡ Written n₂ next₂ → (n ≡ n₂) × (next ≡ next₂)
written_only e = (cc, cc)

told_some : (lines : List ℕ) (next : Cursor) (m : Move) {n : ℕ} {then : Cursor} → Written n then ≡ piece_told lines next m →
    (n ≡ length lines) × (then ≡ next) × (0 < length lines)
told_some [] next (moves line after c) e = absurd (subst IsWritten e tt)
told_some [] next ends e = absurd (subst IsWritten e tt)
told_some [] next (refuses r) e = absurd (subst IsWritten e tt)
told_some (x ∷ lines) next m e = let w = written_only e in (w.0, w.1, omega arith)

-- nothing is told where nothing is left
ended : {rest old new : List ℕ} {c c' : Columns} {r : Listed} → GivenOf rest c old r c' new → r ≡ Nothing → rest ≡ []
ended (some n next reply above fits front inside past) e = absurd (subst IsNothing (sym e ∙ reply) tt)
ended (none reply left columns text) e = left
ended (no_room reply room columns text) e = absurd (subst IsNothing (sym e ∙ reply) tt)

-- the test of the room fails only in a text shorter than the longest line
short : (t : Tally) (at : Cursor) (room : ℕ) → room_for_any t at room ≡ false → room < longest_line
short t at.Interval room e = absurd (true≢false e)
short t (at.Requirement k) room e = go (leb longest_line room) refl
  where
    go : (s : Bool) → leb longest_line room ≡ s → room < longest_line
    go true f = absurd (true≢false (rw f at e))
    go false f = leb-false longest_line room f
short t (at.Answered k a) room e = absurd (true≢false e)
short t (at.Members k a row place) room e = absurd (true≢false e)

-- ---- the lines of a piece stand at the front of the text, and what stood past them stays
lines_front : (lines old : List ℕ) {new : List ℕ} → new ≡ lines ++ drop (length lines) old → take (length lines) new ≡ lines
lines_front lines old e = ap (λ (xs : List ℕ). take (length lines) xs) e ∙ take-append_seam lines (drop (length lines) old)

lines_past : (lines old : List ℕ) {new : List ℕ} → new ≡ lines ++ drop (length lines) old → drop (length lines) new ≡ drop (length lines) old
lines_past lines old e = ap (λ (xs : List ℕ). drop (length lines) xs) e ∙ drop-append_seam lines (drop (length lines) old)

-- ---- each piece is a byte or more
module _ (t : Tally) (bytes : List ℕ) (l : Lent) where
  piece_some :
      {at next : Cursor} {c c' : Columns} {old new : List ℕ} {n : ℕ} → ListPromise at t bytes l c old (Written n next) c' new → 0 < length (take n new)
  piece_some {at} {next} {c} {c'} {old} {new} {n} p = go (list_tests t (length bytes) at (length old)) p.kept
    where
      go : (x : Reply Cursor) → ByTests x t bytes l c old (Written n next) c' new → 0 < length (take n new)
      go (taken start) q =
          let s = told_some q.lines q.next _ q.reply in
          let said : take n new ≡ q.lines = ap (λ (i : ℕ). take i new) s.0 ∙ lines_front q.lines old q.text in
          omega (arith, s.2, ap length said)
      go (refused why) q = absurd (subst IsWritten q.reply tt)

  pieces_said : (c₀ : Columns) {at : Cursor} {c : Columns} {said : List ℕ} (w : Reached t bytes l c₀ at c said) → pieces t bytes l c₀ w ≤ length said
  unfolding pieces
  pieces_said c₀ first = omega arith
  pieces_said c₀ (piece {said = said} {new = new} {n = n} w p) =
      omega (arith, pieces_said c₀ w, piece_some p, length-append said (take n new))
  pieces_said c₀ (again w p) = pieces_said c₀ w

module _ {b : Book} {t : Tally} {bytes : List ℕ} {l : Lent} (h : Taken b t bytes l) where
  -- moves one after another say the front of what is left
  goes_left :
      {at next : Cursor} {c c' : Columns} {lines : List ℕ} (rest : List ℕ) → Goes t bytes l at c lines next c' → Left b t bytes l at c rest →
      (more : List ℕ) × (rest ≡ lines ++ more) × Left b t bytes l next c' more
  goes_left rest stays w = (rest, refl, w)
  goes_left rest (and_then {at = at} {c = c} {line = line} {lines = lines} m g) w =
      let d = subst (Leads b t bytes l rest) m (leads h at c rest w) in
      let ih = goes_left d.0 g d.2 in
      (ih.0, d.1 ∙ ap (λ (xs : List ℕ). line ++ xs) ih.1 ∙ sym (append_assoc line lines ih.0), ih.2)

  -- of the tests only that of the room may fail
  tested :
      {at : Cursor} {c c' : Columns} {old new : List ℕ} {r : Listed} → ListPromise at t bytes l c old r c' new →
      ByTests (unless (room_for_any t at (length old)) TooShort (taken at)) t bytes l c old r c' new
  unfolding list_tests
  tested p = rw (h.tally, eq-eqb _ _ h.ended, le-leb _ _ h.room) at p.kept

  -- ---- what a call writes is the front of what is left
  piece_left :
      (rest : List ℕ) {at next : Cursor} {c c' : Columns} {old new : List ℕ} {n : ℕ} → Left b t bytes l at c rest →
      ListPromise at t bytes l c old (Written n next) c' new → (more : List ℕ) × (rest ≡ take n new ++ more) × Left b t bytes l next c' more
  piece_left rest {at} {next} {c} {c'} {old} {new} {n} w p = go (room_for_any t at (length old)) (tested p)
    where
      go : (v : Bool) → ByTests (unless v TooShort (taken at)) t bytes l c old (Written n next) c' new →
          (more : List ℕ) × (rest ≡ take n new ++ more) × Left b t bytes l next c' more
      go true q =
          let s = told_some q.lines q.next _ q.reply in
          let d = goes_left rest q.piece.goes w in
          let said : take n new ≡ q.lines = ap (λ (i : ℕ). take i new) s.0 ∙ lines_front q.lines old q.text in (
            d.0,
            d.1 ∙ ap (λ (xs : List ℕ). xs ++ d.0) (sym said),
            subst (λ (x : Cursor). Left b t bytes l x c' d.0) (sym s.1) d.2,
          )
      go false q = absurd (subst IsWritten q.reply tt)

  -- and a call gives of it
  gives_left :
      (rest : List ℕ) {at : Cursor} {c c' : Columns} {old new : List ℕ} {r : Listed} → Left b t bytes l at c rest → ListPromise at t bytes l c old r c' new →
      GivenOf rest c old r c' new
  gives_left rest {at} {c} {c'} {old} {new} {r} w p = by (room_for_any t at (length old)) refl (tested p)
    where
      told :
          (lines : List ℕ) (next : Cursor) (m : Move) (more : List ℕ) → move t bytes l next c' ≡ m → rest ≡ lines ++ more → Leads b t bytes l more m →
          length lines ≤ length old → Stops (length old - length lines) m → r ≡ piece_told lines next m → new ≡ lines ++ drop (length lines) old →
          GivenOf rest c old r c' new
      told [] next (moves line after c₂) more m e d fits stops reply text =
          let left = refused_writes_nothing (subst (λ (y : Listed). ListPromise at t bytes l c old y c' new) reply p) in
          no_room reply (omega (arith, line_fits t bytes l next c' m)) left.0 left.1
      told [] next ends more m e d fits stops reply text =
          let left = nothing_writes_nothing (subst (λ (y : Listed). ListPromise at t bytes l c old y c' new) reply p) in
          none reply (e ∙ d) left.0 left.1
      told [] next (refuses why) more m e d fits stops reply text = absurd d
      told (x ∷ lines) next m₁ more m e d fits stops reply text =
          let front : take (length (x ∷ lines)) rest ≡ x ∷ lines =
          ap (λ (xs : List ℕ). take (length (x ∷ lines)) xs) e ∙ take-append_seam (x ∷ lines) more in
          some (length (x ∷ lines)) next reply (omega arith) fits (lines_front (x ∷ lines) old text ∙ sym front)
          (omega (arith, ap length e, length-append lines more)) (lines_past (x ∷ lines) old text)

      by : (v : Bool) → room_for_any t at (length old) ≡ v → ByTests (unless v TooShort (taken at)) t bytes l c old r c' new → GivenOf rest c old r c' new
      by true e q =
          let d = goes_left rest q.piece.goes w in
          told q.lines q.next (move t bytes l q.next c') d.0 refl d.1 (leads h q.next c' d.0 d.2) q.piece.fits q.piece.stops
          q.reply q.text
      by false e q = no_room q.reply (short t at (length old) e) q.columns q.text

  -- where nothing is left it says so, in whatever text
  room_past : (at : Cursor) (c : Columns) {rest : List ℕ} (room : ℕ) → Left b t bytes l at c rest → rest ≡ [] → room_for_any t at room ≡ true
  room_past at.Interval c room w e = refl
  room_past (at.Requirement k) c room w e = go (leb t.requirements k) refl (leb longest_line room)
    where
      go : (s : Bool) → leb t.requirements k ≡ s → (u : Bool) → (u || leb t.requirements k) ≡ true
      go s f true = refl
      go true f false = f
      go false f false =
          absurd (omega (arith, ap length e, some_left b t bytes l k w (omega (arith, leb-false t.requirements k f, h.requirements))))
  room_past (at.Answered k a) c room w e = refl
  room_past (at.Members k a row place) c room w e = refl

  nothing_left :
      (rest : List ℕ) {at : Cursor} {c c' : Columns} {old new : List ℕ} {r : Listed} → Left b t bytes l at c rest → rest ≡ [] →
      ListPromise at t bytes l c old r c' new → r ≡ Nothing
  nothing_left rest {at} {c} {c'} {old} {new} {r} w e p = by (rw (room_past at c (length old) w e) at (tested p))
    where
      told :
          (lines : List ℕ) (next : Cursor) (m : Move) (more : List ℕ) → lines ++ more ≡ [] → Leads b t bytes l more m →
          Stops (length old - length lines) m → r ≡ piece_told lines next m → r ≡ Nothing
      told [] next (moves line after c₂) more f d stops reply =
          absurd (omega (arith, ap length f, ap length d.1, length-append line d.0))
      told [] next ends more f d stops reply = reply
      told [] next (refuses why) more f d stops reply = absurd d
      told (x ∷ lines) next m more f d stops reply = absurd (omega (arith, ap length f))

      by : ListedPiece at t bytes l c old r c' new → r ≡ Nothing
      by q =
          let d = goes_left rest q.piece.goes w in
          told q.lines q.next (move t bytes l q.next c') d.0 (sym d.1 ∙ e) (leads h q.next c' d.0 d.2) q.piece.stops q.reply

  -- ---- calls one after another
  module _ (c₀ : Columns) (long : columns_long t.units c₀ ≡ true) where
    reached_left :
        {at : Cursor} {c : Columns} {said : List ℕ} → Reached t bytes l c₀ at c said →
        (rest : List ℕ) × (listing b ≡ said ++ rest) × Left b t bytes l at c rest
    reached_left first = (listing b, refl, record { long = long; left = refl })
    reached_left (piece {said = said} {new = new} {n = n} w p) =
        let ih = reached_left w in
        let d = piece_left ih.0 ih.2 p in
        (d.0, ih.1 ∙ ap (λ (xs : List ℕ). said ++ xs) d.1 ∙ sym (append_assoc said (take n new) d.0), d.2)
    reached_left (again {at = at} w p) =
        let ih = reached_left w in
        (ih.0, ih.1, subst (λ (d : Columns). Left b t bytes l at d ih.0) (sym (refused_writes_nothing p).0) ih.2)

    -- WHEREVER THE CALLS HAVE COME, the front of the listing is written, and the next call gives of the rest
    pub book_listed : {at : Cursor} {c : Columns} {said : List ℕ} → Reached t bytes l c₀ at c said → OnItsWay b t bytes l at c said
    book_listed w =
        let d = reached_left w in
        record { rest = d.0; whole = d.1; gives = λ p. gives_left d.0 d.2 p }

    -- WHERE A CALL SAYS THAT NOTHING IS LEFT the whole listing is written
    pub listed_whole :
        {at : Cursor} {c c' : Columns} {said old new : List ℕ} → Reached t bytes l c₀ at c said → ListPromise at t bytes l c old Nothing c' new →
        said ≡ listing b
    listed_whole {said = said} w p =
        let d = book_listed w in
        sym (d.whole ∙ ap (λ (xs : List ℕ). said ++ xs) (ended (d.gives p) refl) ∙ append-nil said)

    -- and then every call says so, in whatever text
    pub whole_listed :
        {at : Cursor} {c c' : Columns} {said old new : List ℕ} {r : Listed} → Reached t bytes l c₀ at c said → said ≡ listing b →
        ListPromise at t bytes l c old r c' new → r ≡ Nothing
    whole_listed {said = said} w e p =
        let d = reached_left w in
        nothing_left d.0 d.2 (append_cancel_left said d.0 [] (sym d.1 ∙ sym e ∙ sym (append-nil said))) p

    -- NO LISTING HAS MORE PIECES THAN BYTES
    pub pieces_few :
        {at : Cursor} {c : Columns} {said : List ℕ} (w : Reached t bytes l c₀ at c said) → pieces t bytes l c₀ w ≤ length (listing b)
    pieces_few {said = said} w =
        let d = book_listed w in
        omega (arith, pieces_said t bytes l c₀ w, ap length d.whole, length-append said d.rest)
