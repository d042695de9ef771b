-- DEMAND 2, WHOLE: once a chain of calls has all units in, `answer` over any part that a requirement's record starts gives exactly the rules' answer about the
-- book that was taken: its figures, and in the columns each number of its lines; and `member` over the rows gives each line's name and standing. Nothing is
-- refused. And `report` gives each row of the rules' report of the book (02, R-11).
use Rattle.std.specs.Prelude.{Result, Ok}
use Rattle.rules.specs.declared.Refusal.{Refusal}
use mathlib.Core.Path.{◌≡◌, refl, sym, ◌∙◌, ap, ap₂}
use mathlib.Core.Bool.{true, false, ◌&&◌}
use mathlib.Core.List.{List, [], ◌∷◌, ◌++◌, map}
use Prim.Native.Nat.{ℕ, suc, ◌+◌, ◌≤◌, ◌<◌}
use lib.ListN.{get_or}
use borrow.Author.Tests.{le-leb}
use Rattle.integers.specs.Sums.{both}
use Rattle.integers.specs.Totals.{numbered}
use Rattle.rules.specs.Refusals.{Reply, taken}
use Rattle.rules.specs.Book.{Requirement, covers, Book}
use Rattle.rules.specs.RequirementRecord.{requirement_record}
use Rattle.rules.specs.WholeBook.{book}
use Rattle.rules.specs.Members.{Member, unit, residual}
use Rattle.rules.specs.Answer.{Line, lines_of, answered, answer, Answer as Full}
use Rattle.rules.specs.Report.{report_rows}
use Rattle.interval.specs.declared.Tally.{Tally}
use Rattle.interval.specs.Tally.{before_units, units_end, in_range, answer_turn}
use Rattle.interval.specs.Lent.{Lent, regions_long, rows_long}
use Rattle.interval.specs.Calls.{left}
use Rattle.kept.specs.Kept.{region_of, row_standing, residual_row, kept_members, kept_answer}
use Rattle.kept.specs.Range.{series_fine, figures_fine, rows_fine}
use Rattle.chain.specs.Taken.{counts_in}
use Rattle.chain.specs.Chain.{Chain}
use Rattle.chain.specs.Long.{Long}
use Rattle.chain.specs.BookWay.{records_in, Hands}
use Rattle.chain.proofs.BookRefused.{book_way}
use Rattle.chain.specs.BookChain.{book_of}
use Rattle.chain.proofs.Spelled.{book_means, spelled_hands, chain_book}
use Rattle.chain.specs.Answerable.{Answerable}
use Rattle.chain.proofs.ReportIs.{row_there, row_past, report_is}
use Rattle.chain.proofs.Answerable.{chain_answerable, units_answerable, ended_answerable, requirement_read}
use Rattle.answer.specs.declared.Answer.{Answer}
use Rattle.answer.specs.declared.Row.{Row}
use Rattle.answer.specs.Lists.{gathered}
use Rattle.answer.specs.Roster.{Named, row_says, row_answer, MemberPromise}
use Rattle.answer.proofs.RosterLaws.{named, walk, member_taken, set_five}
use Rattle.answer.specs.Report.{report_found}
use Rattle.answer.specs.Promises.{Columns, columns_long, answer_reply, shown, replied, with_lines, AnswerPromise}
use Rattle.answer.proofs.CallLaws.{record_fine}
use Rattle.answer.specs.BookAnswered.{Answers, BookAnswered, RulesAnswer, RulesAnswers, RulesReport, SpelledAnswered, line_named}

names_of : (h : ℕ → Member → Line) → ((i : ℕ) (m : Member) → line_named (h i m) ≡ named m) → (ms : List Member) → map line_named (numbered h ms) ≡ map named ms
unfolding numbered
names_of h e [] = refl
names_of h e (m ∷ ms) = ap₂ (λ (x : Named) (l : List Named). x ∷ l) (e 0 m) (names_of (λ i. h (suc i)) (λ i x. e (suc i) x) ms)

kept_names : (t : Tally) (l : Lent) (q : Requirement) → map line_named (kept_answer t l q).lines ≡ map named (kept_members t l q)
unfolding kept_answer answered lines_of
kept_names t l q = names_of _ (λ i m. refl) (kept_members t l q)

module _ {b : Book} {t : Tally} {l : Lent} (h : Answerable b t l) (part : List ℕ) (q : Requirement) (asked : requirement_record 0 false part ≡ taken q) where
  turn : (in_range t && answer_turn t) ≡ true
  turn = rw (h.tally, le-leb (units_end t) t.records h.turn)

  lists_long : (regions_long l && rows_long t.units l) ≡ true
  lists_long =
      let k = h.long in
      rw (le-leb _ _ k.measures, le-leb _ _ k.sums, le-leb _ _ k.figures, le-leb _ _ k.homes, le-leb _ _ k.rows)

  -- past all tests the record decides
  decided : (old : Columns) → columns_long t.units old ≡ true → answer_reply t part l old ≡ taken q
  unfolding answer_reply
  decided old c = rw (turn, lists_long, c, h.lent) asked

  -- the set is of the five regions
  five : q.set ≤ 31
  five = set_five q.set (record_fine part q asked).set

  pub figures_answered :
      {old new : Columns} {r : Result Answer Refusal} → columns_long t.units old ≡ true → AnswerPromise t part l old r new → Answers q (answer b q) old r new
  figures_answered {old} c p =
      record {
        reply = p.reply ∙ ap (replied t l) (decided old c) ∙ ap (λ (a : Full). Ok (shown q a)) (h.answers q five);
        written =
            p.written ∙ ap (λ (y : Reply Requirement). left (λ q. with_lines (kept_answer t l q)) y old) (decided old c)
            ∙ ap (λ (a : Full). with_lines a old) (h.answers q five);
      }

  pub row_answered : (j : ℕ) → j < t.units → {r : Row} → MemberPromise t j q.direction q.set l r → r ≡ row_says l q.direction q.set j
  row_answered j row p =
      let fine = both (figures_fine t l) (rows_fine t l) (both (series_fine t l) _ h.lent).1 in
      let k = h.long in
      let told =
      member_taken t l j q.direction q.set turn (record_fine part q asked).set row k.figures k.numbers k.homes fine.0 fine.1 in
      p.reply ∙ ap row_answer told

  pub lines_named :
      map line_named (answer b q).lines ≡
      gathered (λ j. covers q (region_of l j)) (λ j. record { name = unit (get_or l.numbers j 0); standing = row_standing l q.direction j }) t.units
      ++ (record { name = residual; standing = (residual_row t l q).standing } ∷ [])
  lines_named = ap (λ (a : Full). map line_named a.lines) (sym (h.answers q five)) ∙ kept_names t l q ∙ walk t l q

  pub rules_answer : RulesAnswer b t l part q
  rules_answer = record { answered = figures_answered; rows = row_answered; lines = lines_named }

-- a row of the report is the rules'
pub rules_report : {b : Book} {t : Tally} {l : Lent} → Answerable b t l → RulesReport b t l
rules_report {b} h row version r p =
    let rows = report_rows b version in
    let reply = p.reply ∙ ap report_found (report_is h row version) in
    record {
      there = λ z k. reply ∙ ap report_found (row_there rows row z k);
      past = λ k. reply ∙ ap report_found (row_past rows row k);
    }

-- ---- OF WHATEVER WAS HANDED IN: the book is the one that the parts spell which were taken, whatever was refused in between
-- once all units are in: its settings, regions and roster are the records taken, and its requirements make no difference
pub taken_answered :
    {head : List ℕ} {part : ℕ → List ℕ} {l₀ : Lent} {n : ℕ} {t : Tally} {l : Lent} → Chain head part l₀ n t l → before_units + (counts_in head).units ≤ n →
    ((m i : ℕ) → m < n → get_or (part m) i 0 < 256) → (qs : List Requirement) → RulesAnswers (book_of (counts_in head).units part qs) t l
taken_answered d all bytes qs = rules_answer (chain_answerable d all bytes qs)

pub taken_reported :
    {head : List ℕ} {part : ℕ → List ℕ} {l₀ : Lent} {n : ℕ} {t : Tally} {l : Lent} → Chain head part l₀ n t l → before_units + (counts_in head).units ≤ n →
    ((m i : ℕ) → m < n → get_or (part m) i 0 < 256) → (qs : List Requirement) → RulesReport (book_of (counts_in head).units part qs) t l
taken_reported d all bytes qs = rules_report (chain_answerable d all bytes qs)

pub chain_answered :
    {head : List ℕ} {part : ℕ → List ℕ} {l₀ : Lent} {t : Tally} {l : Lent} → Chain head part l₀ (records_in head) t l →
    ((m i : ℕ) → m < records_in head → get_or (part m) i 0 < 256) → SpelledAnswered head part t l
chain_answered d bytes =
    let w = chain_book d in
    record {
      the_book = w.0;
      spells = w.1;
      means = w.2;
      answers = rules_answer (ended_answerable d bytes);
      asks = requirement_read (spelled_hands d) w.0 w.1;
    }

module _
    {bs head : List ℕ} {part : ℕ → List ℕ} (hands : Hands bs head part) (b : Book) (e : book bs ≡ taken b) (bytes : (i : ℕ) → get_or bs i 0 < 256) where
  pub units_answered :
      {l₀ : Lent} {n : ℕ} {t : Tally} {l : Lent} → Chain head part l₀ n t l → before_units + (counts_in head).units ≤ n → RulesAnswers b t l
  units_answered d all = rules_answer (units_answerable hands b e d all bytes)

  -- its report, row by row, from the last unit on
  pub book_reported :
      {l₀ : Lent} {n : ℕ} {t : Tally} {l : Lent} → Chain head part l₀ n t l → before_units + (counts_in head).units ≤ n → RulesReport b t l
  book_reported d all = rules_report (units_answerable hands b e d all bytes)

  pub book_answered : (l₀ : Lent) → Long l₀ (counts_in bs).units → BookAnswered b head part l₀
  book_answered l₀ long =
      record {
        takes = book_way l₀ hands (λ _. long) bytes b e;
        means = λ d. book_means hands d b e;
        answers = units_answered;
        asks = requirement_read hands b e;
      }
