-- What is left of a taken book's listing at a cursor, and that every move says the front of it: nothing is refused, and it ends where nothing is left. The
-- members' lines are read back from the columns, and the rows of the requirement's regions name them in their order.
use Rattle.std.specs.Prelude.{Result, Ok, Err}
use Rattle.rules.specs.declared.Refusal.{Refusal}
use mathlib.Core.Path.{◌≡◌, refl, sym, ◌∙◌, ap, subst, subst₂}
use mathlib.Core.Bool.{Bool, true, false, cond}
use mathlib.Core.List.{List, [], ◌∷◌, ◌++◌, map, append_assoc}
use Prim.Native.Nat.{ℕ, zero, suc, ◌+◌, ◌*◌, ◌≤◌, ◌<◌}
use native.Mathlib.Decide.{dec_lt}
use native.Mathlib.Nat.{add-zero}
use native.Mathlib.Numerals.{add-one}
use native.Mathlib.Omega.{arith}
use lib.Dec.{ltb}
use lib.IntN.{ℤ, pos}
use lib.ListN.{length, get_or, drop, length-append, length-map, drop_of_length-le, get_or-append, get_or-map}
use lib.Seq.{drop-cons, get_or_at, get_or-take}
use borrow.Author.Tests.{ltb-true, lt-ltb, le-ltb, le-leb}
use Rattle.integers.specs.Sums.{one, both}
use Rattle.integers.proofs.Sums.{none_below}
use Rattle.rules.specs.Refusals.{Reply, taken, refused}
use Rattle.rules.specs.Contents.{requirement_size}
use Rattle.rules.specs.Book.{Requirement, covers, Book}
use Rattle.rules.specs.RequirementRecord.{requirement_record}
use Rattle.rules.specs.Members.{unit, residual}
use Rattle.rules.specs.Answer.{Line, answered, answer, Answer as Full}
use Rattle.rules.specs.Listing.{requirement_line, member_line, joined, answer_lines, listing}
use Rattle.interval.specs.declared.Tally.{Tally}
use Rattle.interval.specs.Lent.{Lent}
use Rattle.interval.specs.Calls.{left}
use Rattle.kept.specs.Kept.{region_of, row_standing, residual_row, kept_answer}
use Rattle.answer.specs.declared.Answer.{Answer}
use Rattle.answer.specs.declared.Row.TheVariants.{Unit as Member, Other}
use Rattle.answer.specs.Lists.{headed}
use Rattle.answer.proofs.Lists.{headed_length, headed_take}
use Rattle.answer.specs.Promises.{Columns, columns_long, answer_reply, last_standing, shown, replied, with_lines}
use Rattle.answer.specs.Roster.{Named, member_reply, row_answer, row_says}
use Rattle.answer.specs.BookAnswered.{Answers, RulesAnswer, line_named}
use Rattle.answer.proofs.ReportLaws.{up_to, up_to_none, up_to_more, up_to_few, found_at}
use Rattle.listing.specs.Lines.{unit_of, residual_of}
use Rattle.lister.specs.declared.Cursor.{Cursor}
use Rattle.lister.specs.declared.Cursor.TheVariants as at
use Rattle.lister.specs.Move.{Move, moves, ends, refuses, amounts_at, answering, row_move, member_move, move}
use Rattle.lister.specs.BookListed.{Taken}
use Rattle.lister.proofs.Promises.{requirement_some}

-- ---- lists
some_of : {A : Type 0} (xs : List A) (k : ℕ) → k < length xs → A
some_of [] k h = none_below k h
some_of (x ∷ xs) k h = x

-- an image by its index, whatever stands past the last
map_at : {A B : Type 0} (f : A → B) (xs : List A) (j : ℕ) (d : B) (z : A) → j < length xs → get_or (map f xs) j d ≡ f (get_or xs j z)
map_at f [] j d z h = none_below j h
map_at f (x ∷ xs) zero d z h = refl
map_at f (x ∷ xs) (suc j) d z h = map_at f xs j d z (omega arith)

-- the last line's standing
last_is : (ls : List Line) (xs : List Named) (x : Named) → map line_named ls ≡ xs ++ (x ∷ []) → last_standing ls ≡ x.standing
last_is [] xs x e = absurd (omega (arith, ap length e, length-append xs (x ∷ [])))
last_is (l ∷ []) [] x e = ap (λ (ns : List Named). (get_or ns 0 x).standing) e
last_is (l ∷ []) (y ∷ ys) x e = absurd (omega (arith, ap length e, length-append ys (x ∷ [])))
last_is (l ∷ m ∷ ls) [] x e = absurd (omega (arith, ap length e))
last_is (l ∷ m ∷ ls) (y ∷ ys) x e = last_is (m ∷ ls) ys x (ap (λ (ns : List Named). drop 1 ns) e)

-- ---- the answer to a requirement, as `answer` told it and wrote it to columns that were long enough
module _ {b : Book} {t : Tally} {l : Lent} {part : List ℕ} {q : Requirement} (given : RulesAnswer b t l part q) where
  abbrev lines : List Line
  lines = (answer b q).lines

  abbrev of_set : ℕ → Bool
  of_set j = covers q (region_of l j)

  abbrev members_before : ℕ → ℕ
  members_before row = length (up_to of_set row)

  abbrev at_row : ℕ → Named
  at_row j = record { name = unit (get_or l.numbers j 0); standing = row_standing l q.direction j }

  abbrev last : Named
  last = record { name = residual; standing = (residual_row t l q).standing }

  abbrev rows : List ℕ
  rows = up_to of_set t.units

  many : length lines ≡ length rows + 1
  many =
      omega (
        arith,
        ap length given.lines,
        length-map lines line_named,
        length-append (map at_row rows) (last ∷ []),
        length-map rows at_row,
      )

  line_there : (k : ℕ) (z : Line) → line_named (get_or lines k z) ≡ get_or (map at_row rows ++ (last ∷ [])) k (line_named z)
  line_there k z = sym (get_or-map line_named lines k z) ∙ ap (λ (ns : List Named). get_or ns k (line_named z)) given.lines

  unit_there : (row : ℕ) (z : Line) → row < t.units → of_set row ≡ true → line_named (get_or lines (members_before row) z) ≡ at_row row
  unit_there row z h e =
      let f = found_at of_set t.units row h e in
      let k = members_before row in
      line_there k z
      ∙ get_or-append (map at_row rows) (last ∷ []) (line_named z) k (omega (arith, f.0, length-map rows at_row))
      ∙ map_at at_row rows k (line_named z) 0 f.0 ∙ ap at_row f.1

  residual_there : (z : Line) → line_named (get_or lines (length rows) z) ≡ last
  residual_there z = line_there (length rows) z ∙ get_or_at (map at_row rows) last [] (line_named z) (length rows) (length-map rows at_row)

  residual_stands : last_standing lines ≡ last.standing
  residual_stands = last_is lines (map at_row rows) last given.lines

  -- ---- a line's numbers stand in its row of the columns
  module _ (old : Columns) (long : columns_long t.units old ≡ true) where
    abbrev columns : Columns
    columns = with_lines (answer b q) old

    rooms :
        (t.units < length old.performances) × (t.units < length old.factors) × (t.units < length old.payments) × (t.units < length old.used)
        × (t.units < length old.unused)
    rooms =
        let performances = both (ltb t.units (length old.performances)) _ long in
        let factors = both (ltb t.units (length old.factors)) _ performances.1 in
        let payments = both (ltb t.units (length old.payments)) _ factors.1 in
        let used = both (ltb t.units (length old.used)) _ payments.1 in (
          ltb-true _ _ performances.0,
          ltb-true _ _ factors.0,
          ltb-true _ _ payments.0,
          ltb-true _ _ used.0,
          ltb-true _ _ used.1,
        )

    still_long : columns_long t.units columns ≡ true
    still_long =
        rw (
          headed_length (map (λ x. x.performance) lines) old.performances,
          headed_length (map (λ x. x.factor) lines) old.factors,
          headed_length (map (λ x. x.payment) lines) old.payments,
          headed_length (map (λ x. x.used) lines) old.used,
          headed_length (map (λ x. x.unused) lines) old.unused,
        )
        long

    number_is : (f : Line → ℤ) (xs : List ℤ) (k : ℕ) (z : Line) → t.units < length xs → k < length lines →
        f (get_or lines k z) ≡ get_or (headed (map f lines) xs) k (pos 0)
    number_is f xs k z room inside =
        let few = up_to_few of_set t.units in
        let size = length-map lines f in
        let front = headed_take (map f lines) xs (omega (arith, many, few, size)) in
        sym
        (sym (get_or-take (length (map f lines)) (headed (map f lines) xs) k (pos 0) (omega (arith, size)))
        ∙ ap (λ (ns : List ℤ). get_or ns k (pos 0)) front ∙ map_at f lines k (pos 0) z inside)

    line_is : (k : ℕ) (z : Line) (n : Named) → k < length lines → line_named (get_or lines k z) ≡ n →
        get_or lines k z ≡
        record {
          name = n.name;
          standing = n.standing;
          performance = get_or columns.performances k (pos 0);
          factor = get_or columns.factors k (pos 0);
          payment = get_or columns.payments k (pos 0);
          used = get_or columns.used k (pos 0);
          unused = get_or columns.unused k (pos 0);
        }
    line_is k z n inside e = λ i.
        record {
          name = (e i).name;
          standing = (e i).standing;
          performance = number_is (λ x. x.performance) old.performances k z rooms.0 inside i;
          factor = number_is (λ x. x.factor) old.factors k z rooms.1 inside i;
          payment = number_is (λ x. x.payment) old.payments k z rooms.2 inside i;
          used = number_is (λ x. x.used) old.used k z rooms.3 inside i;
          unused = number_is (λ x. x.unused) old.unused k z rooms.4 inside i;
        }

    -- a row of the requirement's regions has the next line
    unit_line : (row : ℕ) → row < t.units → of_set row ≡ true →
        drop (members_before row) lines ≡
        unit_of (get_or l.numbers row 0) (row_standing l q.direction row) (amounts_at columns (members_before row)) ∷ drop (suc (members_before row)) lines
    unit_line row h e =
        let k = members_before row in
        let inside : k < length lines = omega (arith, many, (found_at of_set t.units row h e).0) in
        let z = some_of lines k inside in
        drop-cons lines k z inside ∙ ap (λ (x : Line). x ∷ drop (suc k) lines) (line_is k z (at_row row) inside (unit_there row z h e))

    -- and the residual the last
    residual_line : drop (length rows) lines ≡ residual_of (last_standing lines) (amounts_at columns (length rows)) ∷ []
    residual_line =
        let k = length rows in
        let inside : k < length lines = omega (arith, many) in
        let z = some_of lines k inside in
        drop-cons lines k z inside
        ∙ ap (λ (x : Line). x ∷ drop (suc k) lines) (line_is k z last inside (residual_there z))
        ∙ rw (drop_of_length-le lines {i = suc k} (omega (arith, many)), residual_stands)

-- ---- what is left at a cursor
-- of the requirements
abbrev pub lines_of_all : Book → List Requirement → List ℕ
lines_of_all b qs = joined (λ q. answer_lines (answer b q)) qs

-- the answer to requirement k is at hand
pub record Stands (b : Book) (t : Tally) (bytes : List ℕ) (k : ℕ) (a : Answer) (c : Columns) : Type 0 where
  pub asks : Requirement
  pub inside : k < length b.requirements
  pub asked : requirement_record 0 false (drop (requirement_size * k) bytes) ≡ taken asks
  pub told : a ≡ shown asks (answer b asks)
  pub old : Columns
  pub written : c ≡ with_lines (answer b asks) old
  pub long : columns_long t.units old ≡ true

module _ (b : Book) (t : Tally) (bytes : List ℕ) (l : Lent) where
  pub record LeftInterval (c : Columns) (rest : List ℕ) : Type 0 where
    pub long : columns_long t.units c ≡ true
    pub left : rest ≡ listing b

  pub record LeftRequirement (k : ℕ) (c : Columns) (rest : List ℕ) : Type 0 where
    pub long : columns_long t.units c ≡ true
    pub inside : k ≤ length b.requirements
    pub left : rest ≡ lines_of_all b (drop k b.requirements)

  pub record LeftAnswered (k : ℕ) (a : Answer) (c : Columns) (rest : List ℕ) : Type 0 where
    pub stands : Stands b t bytes k a c
    pub left : rest ≡ answer_lines (answer b stands.asks) ++ lines_of_all b (drop (suc k) b.requirements)

  pub record LeftMembers (k : ℕ) (a : Answer) (row place : ℕ) (c : Columns) (rest : List ℕ) : Type 0 where
    pub stands : Stands b t bytes k a c
    pub inside : row ≤ t.units
    pub before : place ≡ length (up_to (λ j. covers stands.asks (region_of l j)) row)
    pub left : rest ≡ joined member_line (drop place (answer b stands.asks).lines) ++ lines_of_all b (drop (suc k) b.requirements)

  abbrev pub Left : Cursor → Columns → List ℕ → Type 0
  Left at.Interval c rest = LeftInterval c rest
  Left (at.Requirement k) c rest = LeftRequirement k c rest
  Left (at.Answered k a) c rest = LeftAnswered k a c rest
  Left (at.Members k a row place) c rest = LeftMembers k a row place c rest

  -- a move says the front of it, and leads to what is left then
  abbrev pub Leads : List ℕ → Move → Type 0
  Leads rest (moves line next c) = (more : List ℕ) × (rest ≡ line ++ more) × Left next c more
  Leads rest ends = rest ≡ []
  Leads rest (refuses r) = ⊥

-- a reply that gives an answer
abbrev IsGiven : Result Answer Refusal → Type 0
IsGiven (Ok a) = Unit {0}
IsGiven (Err r) = ⊥

given_same : {a a₂ : Answer} → ◌≡◌ {A = Result Answer Refusal} (Ok a) (Ok a₂) → a ≡ a₂
given_same e = cc

module _ {b : Book} {t : Tally} {bytes : List ℕ} {l : Lent} (h : Taken b t bytes l) where
  abbrev qs : List Requirement
  qs = b.requirements

  from_interval : (c : Columns) (rest : List ℕ) → LeftInterval b t bytes l c rest → Leads b t bytes l rest (move t bytes l at.Interval c)
  unfolding move listing
  from_interval c rest w =
      (lines_of_all b qs, w.left ∙ rw h.interval, record { long = w.long; inside = omega arith; left = refl })

  from_requirement : (k : ℕ) (c : Columns) (rest : List ℕ) → LeftRequirement b t bytes l k c rest → Leads b t bytes l rest (move t bytes l (at.Requirement k) c)
  unfolding move joined
  from_requirement k c rest w = go (dec_lt k (length qs))
    where
      part : List ℕ
      part = drop (requirement_size * k) bytes

      asked : (inside : k < length qs) (q : Requirement) → drop k qs ≡ q ∷ drop (suc k) qs → requirement_record 0 false part ≡ taken q →
          (x : Reply Requirement) → answer_reply t part l c ≡ x → Leads b t bytes l rest (answering t bytes l k c x)
      asked inside q here is x e =
          let r = answer_reply t part l c in
          let a : Answers q (answer b q) c (replied t l r) (left (λ p. with_lines (kept_answer t l p)) r c) =
          (h.answers part q is).answered w.long (record { reply = refl; written = refl }) in
          by x (rw e at a.reply) (rw e at a.written)
        where
          by : (x : Reply Requirement) → replied t l x ≡ Ok (shown q (answer b q)) →
              left (λ p. with_lines (kept_answer t l p)) x c ≡ with_lines (answer b q) c → Leads b t bytes l rest (answering t bytes l k c x)
          by (taken p) f g = (
            answer_lines (answer b q) ++ lines_of_all b (drop (suc k) qs),
            w.left ∙ ap (λ (xs : List Requirement). lines_of_all b xs) here,
            record {
              stands = record { asks = q; inside = inside; asked = is; told = given_same f; old = c; written = g; long = w.long };
              left = refl;
            },
          )
          by (refused r) f g = absurd (subst IsGiven (sym f) tt)

      go : Dec (k < length qs) → Leads b t bytes l rest (move t bytes l (at.Requirement k) c)
      go (yes inside) =
          let z = some_of qs k inside in
          rw (lt-ltb k t.requirements (omega (arith, h.requirements)))
          (asked inside (get_or qs k z) (drop-cons qs k z inside) (h.asks k z inside) (answer_reply t part l c) refl)
      go (no past) =
          rw (
            le-ltb k t.requirements (omega (arith, h.requirements)),
            le-ltb t.requirements k (omega (arith, h.requirements, w.inside)),
          )
          (w.left ∙ ap (λ (xs : List Requirement). lines_of_all b xs) (drop_of_length-le qs {i = k} (omega arith)))

  from_answered : (k : ℕ) (a : Answer) (c : Columns) (rest : List ℕ) → LeftAnswered b t bytes l k a c rest →
      Leads b t bytes l rest (move t bytes l (at.Answered k a) c)
  unfolding move answer_lines
  from_answered k a c rest w =
      let s = w.stands in
      let full = answer b s.asks in
      rw (lt-ltb k t.requirements (omega (arith, h.requirements, s.inside))) (
        joined member_line full.lines ++ lines_of_all b (drop (suc k) qs),
        w.left ∙ append_assoc (requirement_line full) _ _ ∙ rw s.told,
        record { stands = s; inside = omega arith; before = sym (up_to_none _); left = refl },
      )

  -- ---- among the members
  module _ (k : ℕ) (a : Answer) (row place : ℕ) (c : Columns) (rest : List ℕ) (w : LeftMembers b t bytes l k a row place c rest) where
    abbrev s : Stands b t bytes k a c
    s = w.stands

    abbrev q : Requirement
    q = s.asks

    abbrev full : Full
    full = answer b q

    abbrev given : RulesAnswer b t l (drop (requirement_size * k) bytes) q
    given = h.answers (drop (requirement_size * k) bytes) q s.asked

    abbrev more : List ℕ
    more = lines_of_all b (drop (suc k) qs)

    -- how many members stand before the next row
    before_next : (x : Bool) → covers q (region_of l row) ≡ x → place + one x ≡ length (up_to (λ j. covers q (region_of l j)) (suc row))
    before_next x e =
        let p : ℕ → Bool = λ j. covers q (region_of l j) in
        ap (λ (n : ℕ). n + one x) w.before ∙ ap (λ (y : Bool). length (up_to p row) + one y) (sym e) ∙ sym (up_to_more p row)
        ∙ ap (λ (n : ℕ). length (up_to p n)) (add-one row)

    -- the line of a row's unit comes next, or the residual's
    unit_next : row < t.units → covers q (region_of l row) ≡ true →
        drop place full.lines ≡
        unit_of (get_or l.numbers row 0) (row_standing l q.direction row) (amounts_at c place) ∷ drop (suc place) full.lines
    unit_next below e =
        subst₂
        (λ (n : ℕ) (d : Columns).
        drop n full.lines ≡
        unit_of (get_or l.numbers row 0) (row_standing l q.direction row) (amounts_at d n) ∷ drop (suc n) full.lines)
        (sym w.before) (sym s.written) (unit_line given s.old s.long row below e)

    residual_next : row ≡ t.units → drop place full.lines ≡ residual_of a.residual (amounts_at c place) ∷ []
    residual_next e =
        let all : place ≡ length (up_to (λ j. covers q (region_of l j)) t.units) =
        w.before ∙ ap (λ (n : ℕ). length (up_to (λ j. covers q (region_of l j)) n)) e in
        subst₂ (λ (n : ℕ) (d : Columns). drop n full.lines ≡ residual_of a.residual (amounts_at d n) ∷ []) (sym all) (sym s.written)
        (residual_line given s.old s.long
        ∙ ap (λ (x : Answer). residual_of x.residual (amounts_at (with_lines full s.old) (length (rows given))) ∷ []) (sym s.told))

    long_here : columns_long t.units c ≡ true
    long_here = subst (λ (d : Columns). columns_long t.units d ≡ true) (sym s.written) (still_long given s.old s.long)

    said_next : (x : Line) (xs : List Line) → drop place full.lines ≡ x ∷ xs → rest ≡ member_line x ++ (joined member_line xs ++ more)
    unfolding joined
    said_next x xs e =
        w.left ∙ ap (λ (ls : List Line). joined member_line ls ++ more) e ∙ append_assoc (member_line x) (joined member_line xs) more

    by_row : row < t.units → (x : Bool) → covers q (region_of l row) ≡ x →
        Leads b t bytes l rest
        (row_move t bytes l k a row place c (cond x (Member (get_or l.numbers row 0) (row_standing l q.direction row)) Other))
    by_row below true e = (
      joined member_line (drop (suc place) full.lines) ++ more,
      said_next _ _ (unit_next below e),
      record { stands = s; inside = below; before = sym (add-one place) ∙ before_next true e; left = refl },
    )
    by_row below false e = (rest, refl, record { stands = s; inside = below; before = sym (add-zero place) ∙ before_next false e; left = w.left })

    row_is : row < t.units → row_answer (member_reply t row a.direction a.set l) ≡ row_says l q.direction q.set row
    unfolding answer answered
    row_is below =
        subst (λ (x : Answer). row_answer (member_reply t row x.direction x.set l) ≡ row_says l q.direction q.set row) (sym s.told)
        (given.rows row below (record { reply = refl }))

    from_member : Leads b t bytes l rest (member_move t bytes l k a row place c)
    unfolding joined
    from_member = go (dec_lt row t.units)
      where
        go : Dec (row < t.units) → Leads b t bytes l rest (member_move t bytes l k a row place c)
        go (yes below) = rw (lt-ltb row t.units below, row_is below) (by_row below (covers q (region_of l row)) refl)
        go (no past) =
            rw (le-ltb row t.units (omega arith))
            (more, said_next _ [] (residual_next (omega (arith, w.inside))), record { long = long_here; inside = s.inside; left = refl })

    from_members : Leads b t bytes l rest (move t bytes l (at.Members k a row place) c)
    unfolding move
    from_members =
        let few : place ≤ row = omega (arith, w.before, up_to_few (λ j. covers q (region_of l j)) row) in
        rw (
          lt-ltb k t.requirements (omega (arith, h.requirements, s.inside)),
          le-leb row t.units w.inside,
          le-leb place row few,
          long_here,
        )
        from_member

  -- EVERY MOVE SAYS THE FRONT OF WHAT IS LEFT
  pub leads : (at : Cursor) (c : Columns) (rest : List ℕ) → Left b t bytes l at c rest → Leads b t bytes l rest (move t bytes l at c)
  leads at.Interval c rest w = from_interval c rest w
  leads (at.Requirement k) c rest w = from_requirement k c rest w
  leads (at.Answered k a) c rest w = from_answered k a c rest w
  leads (at.Members k a row place) c rest w = from_members k a row place c rest w

-- where a requirement is yet to be answered something is left
pub some_left :
    (b : Book) (t : Tally) (bytes : List ℕ) (l : Lent) (k : ℕ) {c : Columns} {rest : List ℕ} → LeftRequirement b t bytes l k c rest → k < length b.requirements →
    0 < length rest
unfolding joined answer_lines
some_left b t bytes l k w inside =
    let qs = b.requirements in
    let z = some_of qs k inside in
    let full = answer b (get_or qs k z) in
    let e = w.left ∙ ap (λ (xs : List Requirement). lines_of_all b xs) (drop-cons qs k z inside) in
    omega (
      arith,
      ap length e,
      length-append (answer_lines full) (lines_of_all b (drop (suc k) qs)),
      length-append (requirement_line full) (joined member_line full.lines),
      requirement_some full,
    )
