-- WHAT AN OPERATOR READS IS THE RULES' ANSWER: once all units of a book are in, `answer` is asked about a requirement, and its reply and columns are handed to
-- key presses, each press shows the page of the rules' answer that the step turns to. What `answer` wrote is read back row by row, and the rows of the
-- requirement's regions name the answer's lines in their order.
use Rattle.std.specs.Prelude.{Result}
use Rattle.rules.specs.declared.Refusal.{Refusal}
use mathlib.Core.Path.{◌≡◌, refl, sym, ◌∙◌, ap}
use mathlib.Core.Bool.{true, false, ◌&&◌}
use mathlib.Core.List.{List, [], ◌∷◌, ◌++◌, map}
use Prim.Native.Nat.{ℕ, zero, suc, ◌+◌, ◌≤◌, ◌<◌}
use native.Mathlib.Decide.{dec_lt}
use native.Mathlib.Omega.{arith}
use lib.Dec.{leb, ltb}
use lib.IntN.{ℤ, pos}
use lib.ListN.{length, get_or, drop, length-append, length-map, get_or-append, get_or-map}
use lib.Seq.{get_or_at}
use borrow.Author.Tests.{ltb-true, le-leb, lt-ltb, le-ltb, eq-eqb}
use Rattle.integers.specs.Sums.{both}
use Rattle.integers.proofs.Sums.{every_at, every_all, none_below}
use Rattle.integers.proofs.Totals.{all_those, all_at}
use Rattle.rules.specs.Quantities.{regions, amount_limit}
use Rattle.rules.specs.declared.Page.{Page}
use Rattle.rules.specs.declared.Key.{Key}
use Rattle.rules.specs.Bytes.{listed}
use Rattle.rules.specs.Refusals.{taken}
use Rattle.rules.specs.Book.{Requirement, Book}
use Rattle.rules.specs.RequirementRecord.{requirement_record}
use Rattle.rules.specs.Members.{unit, residual}
use Rattle.rules.specs.Answer.{Line, answered, answer, Answer as Full}
use Rattle.rules.specs.Panel.{page_places, member_page, pages}
use Rattle.interval.specs.declared.Tally.{Tally}
use Rattle.interval.specs.Tally.{units_end, in_range, answer_turn}
use Rattle.interval.specs.Lent.{Lent, passed_over, of_interval}
use Rattle.kept.specs.Kept.{figure, row_standing, residual_row}
use Rattle.kept.specs.Range.{from_0, region_fine, unit_fine, series_fine, figures_fine, rows_fine}
use Rattle.chain.specs.Answerable.{Answerable}
use Rattle.chain.proofs.ChainLaws.{all_listed}
use Rattle.answer.specs.declared.Answer.{Answer}
use Rattle.answer.specs.Lists.{headed}
use Rattle.answer.proofs.Lists.{headed_length}
use Rattle.answer.specs.Roster.{Named}
use Rattle.answer.specs.Promises.{Columns, columns_long, last_standing, shown, with_lines, AnswerPromise}
use Rattle.answer.specs.BookAnswered.{line_named}
use Rattle.answer.proofs.BookAnswered.{figures_answered, lines_named}
use Rattle.panel.specs.declared.Shown.{Shown}
use Rattle.panel.specs.Press.{
  Cents,
  press_long,
  reliability_fine,
  reliabilities_fine,
  homes_fine,
  press_fine,
  set_rows,
  row_at,
  name_at,
  standing_at,
  shown_line,
  shown_page,
  press_reply,
  PressPromise,
}
use Rattle.panel.specs.Past.{of_set}
use Rattle.panel.specs.BookPages.{shown_of, cents_of, turned_to, PageShown, BookPages, PagesShown}
use Rattle.panel.proofs.KeysLaws.{step_there}
use Rattle.panel.proofs.MembersLaws.{rows_few, past_rows}
use Rattle.panel.proofs.PressLaws.{past_tests}

-- ---- lists
-- an image by its index, whatever stands past the last
map_at : {A B : Type 0} (f : A → B) (xs : List A) (j : ℕ) (d : B) (z : A) → j < length xs → get_or (map f xs) j d ≡ f (get_or xs j z)
map_at f [] j d z h = none_below j h
map_at f (x ∷ xs) zero d z h = refl
map_at f (x ∷ xs) (suc j) d z h = map_at f xs j d z (omega arith)

-- what stands at the front of a column
headed_at : {A : Type 0} (xs old : List A) (j : ℕ) (d : A) → j < length xs → j < length old → get_or (headed xs old) j d ≡ get_or xs j d
unfolding headed
headed_at [] old j d h k = none_below j h
headed_at (x ∷ xs) [] j d h k = none_below j k
headed_at (x ∷ xs) (y ∷ ys) zero d h k = refl
headed_at (x ∷ xs) (y ∷ ys) (suc j) d h k = headed_at xs ys j d (omega arith) (omega arith)

-- the last line's standing
last_is : (ls : List Line) (xs : List Named) (x : Named) → map line_named ls ≡ xs ++ (x ∷ []) → last_standing ls ≡ x.standing
last_is [] xs x e = absurd (omega (arith, ap length e, length-append xs (x ∷ [])))
last_is (l ∷ []) [] x e = ap (λ (ns : List Named). (get_or ns 0 x).standing) e
last_is (l ∷ []) (y ∷ ys) x e = absurd (omega (arith, ap length e, length-append ys (x ∷ [])))
last_is (l ∷ m ∷ ls) [] x e = absurd (omega (arith, ap length e))
last_is (l ∷ m ∷ ls) (y ∷ ys) x e = last_is (m ∷ ls) ys x (ap (λ (ns : List Named). drop 1 ns) e)

-- a member's page shows its name, its standing and three numbers
same_page :
    (x y : Line) → line_named x ≡ line_named y → x.payment ≡ y.payment → x.used ≡ y.used → x.unused ≡ y.unused → member_page x ≡ member_page y
unfolding member_page
same_page x y n p u v = rw (ap (λ (m : Named). m.name) n, ap (λ (m : Named). m.standing) n, p, u, v)

-- ---- what a press asks of a tally and of lists that can be answered from
module _ {b : Book} {t : Tally} {l : Lent} (h : Answerable b t l) where
  turn : (in_range t && answer_turn t) ≡ true
  turn = rw (h.tally, le-leb (units_end t) t.records h.turn)

  reliable : (r : ℕ) → region_fine l r ≡ true → reliability_fine l.figures r ≡ true
  reliable r e =
      let a = both (from_0 amount_limit (figure l r 1)) _ e in
      let raise = both (from_0 1 (figure l r 2)) _ a.1 in
      let lower = both (from_0 1 (figure l r 3)) _ raise.1 in
      rw (raise.0, lower.0)

  fine : press_fine t.interval t.units l.figures l.homes ≡ true
  unfolding figures_fine rows_fine
  fine =
      let kept = both (figures_fine t l) (rows_fine t l) (both (series_fine t l) _ h.lent).1 in
      let own = both (of_interval t.interval l.figures) _ kept.0 in
      let reliabilities : reliabilities_fine l.figures ≡ true =
      every_all regions (reliability_fine l.figures) (λ r k. reliable r (every_at regions (region_fine l) own.1 r k)) in
      let homes : homes_fine t.units l.homes ≡ true =
      every_all t.units (λ i. leb (get_or l.homes i 0) passed_over)
      (λ i k. (both (leb (get_or l.homes i 0) passed_over) _ (every_at t.units (unit_fine l) kept.1 i k)).0) in
      rw (own.0, reliabilities, homes)

  -- ---- the answer to a requirement
  module _ (part : List ℕ) (q : Requirement) (asked : requirement_record 0 false part ≡ taken q) where
    abbrev full : Full
    full = answer b q

    abbrev told : Shown
    told = shown_of (shown q full)

    abbrev rows : List ℕ
    rows = set_rows q.set t.units l.homes

    -- the lines' names and standings are those of the rows, then the residual's
    abbrev at_row : ℕ → Named
    at_row j = record { name = unit (get_or l.numbers j 0); standing = row_standing l q.direction j }

    abbrev last : Named
    last = record { name = residual; standing = (residual_row t l q).standing }

    names : map line_named full.lines ≡ map at_row rows ++ (last ∷ [])
    unfolding set_rows
    names = lines_named h part q asked

    many : length full.lines ≡ length rows + 1
    many =
        omega (arith, ap length names, length-map full.lines line_named, length-append (map at_row rows) (last ∷ []), length-map rows at_row)

    pub lines_few : length full.lines ≤ t.units + 1
    lines_few = omega (arith, many, rows_few q.set l.homes t.units)

    -- a member's row is one of the roster
    row_there : (k : ℕ) → k < length rows → row_at t.units l q told k < t.units
    unfolding set_rows
    row_there k inside =
        let below : ℕ → Type 0 = λ i. i < t.units in
        all_at below rows (all_those below (of_set q.set l.homes) (listed 0 t.units (λ i. i)) (all_listed below t.units (λ i. i) (λ i r. r))) k
        t.units inside

    abbrev named_at : ℕ → Named
    named_at k = record { name = name_at t.units l q told k; standing = standing_at t.units l q told k }

    named_is : (k : ℕ) (z : Line) → k < length full.lines → named_at k ≡ line_named (get_or full.lines k z)
    named_is k z inside = go (dec_lt k (length rows)) ∙ sym there
      where
        there : line_named (get_or full.lines k z) ≡ get_or (map at_row rows ++ (last ∷ [])) k (line_named z)
        there = sym (get_or-map line_named full.lines k z) ∙ ap (λ (ns : List Named). get_or ns k (line_named z)) names

        go : Dec (k < length rows) → named_at k ≡ get_or (map at_row rows ++ (last ∷ [])) k (line_named z)
        go (yes r) =
            let front = get_or-append (map at_row rows) (last ∷ []) (line_named z) k (omega (arith, length-map rows at_row)) in
            rw (lt-ltb (row_at t.units l q told k) t.units (row_there k r))
            (sym (front ∙ map_at at_row rows k (line_named z) t.units r))
        go (no r) =
            let end : length rows ≡ k = omega (arith, many) in
            let past : row_at t.units l q told k ≡ t.units = past_rows q.set l.homes t.units k (omega arith) in
            rw (le-ltb (row_at t.units l q told k) t.units (omega (arith, past)), last_is full.lines (map at_row rows) last names)
            (sym (get_or_at (map at_row rows) last [] (line_named z) k (omega (arith, length-map rows at_row, end))))

    -- ---- over columns that are long enough
    module _ (old : Columns) (long : columns_long t.units old ≡ true) where
      abbrev column : Cents
      column = cents_of (with_lines full old)

      columns : (t.units < length old.payments) × (t.units < length old.used) × (t.units < length old.unused)
      columns =
          let a = both (ltb t.units (length old.performances)) _ long in
          let b = both (ltb t.units (length old.factors)) _ a.1 in
          let payments = both (ltb t.units (length old.payments)) _ b.1 in
          let used = both (ltb t.units (length old.used)) _ payments.1 in
          (ltb-true _ _ payments.0, ltb-true _ _ used.0, ltb-true _ _ used.1)

      -- a line's number stands in its row of the column
      number_is :
          (f : Line → ℤ) (xs : List ℤ) (k : ℕ) (z : Line) → t.units < length xs → k < length full.lines →
          get_or (headed (map f full.lines) xs) k (pos 0) ≡ f (get_or full.lines k z)
      number_is f xs k z room inside =
          headed_at (map f full.lines) xs k (pos 0) (omega (arith, length-map full.lines f)) (omega (arith, lines_few))
          ∙ map_at f full.lines k (pos 0) z inside

      line_page : (k : ℕ) (z : Line) → k < length full.lines → member_page (shown_line t.units l q told column k) ≡ member_page (get_or full.lines k z)
      unfolding shown_line
      line_page k z inside =
          same_page (shown_line t.units l q told column k) (get_or full.lines k z) (named_is k z inside)
          (number_is (λ x. x.payment) old.payments k z columns.0 inside)
          (number_is (λ x. x.used) old.used k z columns.1 inside)
          (number_is (λ x. x.unused) old.unused k z columns.2 inside)

      -- each page that is there is the rules'
      page_is : (k : ℕ) → k ≤ length full.lines → shown_page t.units l q told column k ≡ get_or (pages q full) k []
      unfolding shown_page pages answer answered
      page_is zero inside = refl
      page_is (suc k) inside =
          let z = shown_line t.units l q told column k in
          line_page k z (omega arith) ∙ sym (map_at member_page full.lines k [] z (omega arith))

      long_enough : (text : ℕ) → page_places ≤ text → press_long t.units l column text ≡ true
      long_enough text room =
          let k = h.long in
          rw (
            le-leb _ _ k.figures,
            le-leb _ _ k.numbers,
            le-leb _ _ k.homes,
            headed_length (map (λ x. x.payment) full.lines) old.payments,
            lt-ltb _ _ columns.0,
            headed_length (map (λ x. x.used) full.lines) old.used,
            lt-ltb _ _ columns.1,
            headed_length (map (λ x. x.unused) full.lines) old.unused,
            lt-ltb _ _ columns.2,
            le-leb page_places text room,
          )

      decided : (text : ℕ) → page_places ≤ text → press_reply t part told l column text ≡ taken q
      decided text room = past_tests t part told l column text turn (long_enough text room) fine asked ∙ rw (eq-eqb _ _ many)

      pressed :
          (p : Page) (key : Key) (number : ℕ) {text text' : List ℕ} {x : Result Page Refusal} → page_places ≤ length text →
          PressPromise p key number t part told l column text x text' → PageShown b q p key number text x text'
      pressed p key number {text} room w =
          let e = decided (length text) room in
          record {
            page = rw e at w.reply;
            text =
                rw e at w.written
                ∙ ap (λ (xs : List ℕ). xs ++ drop page_places text)
                (page_is (turned_to b q p key number).page (step_there p key number q.number (length full.lines)).0);
          }

    given_shown :
        {old new : Columns} {r : Result Answer Refusal} → columns_long t.units old ≡ true → AnswerPromise t part l old r new → BookPages b t l part q r new
    given_shown {old} long w =
        let a = figures_answered h part q asked long w in
        rw (a.reply, a.written) (record { given = refl; pressed = pressed old long })

  -- WHAT `answer` GAVE IS SHOWN
  pub book_pages : PagesShown b t l
  book_pages = record { shows = given_shown }
