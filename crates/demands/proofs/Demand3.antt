-- DEMAND 3: 'The books close, however a plant is drawn. In each region whose residual is live for a direction, the good units and the residual add up to zero,
-- at every point in deviation and over the interval in performance. A requirement in which no default stands has a helpful party exactly when it has an
-- unhelpful one; where both are there, the payments' credits, the payments' debits and the pool are equal to the cent. Replace one good unit by two good ones
-- of
-- its region and kind, all within the limits, whose start, end, defaults and every reading add up to its own: their performances add up exactly to the old one,
-- and all other performances stay.' `BooksClose` (crates/closing, Demand3) says all of this of a book, sentence by sentence. Here it stands for the book that a
-- chain of calls took, and for the columns that an answer leaves.
use Rattle.std.specs.Prelude.{Result}
use Rattle.answer.specs.declared.Answer.{Answer}
use Rattle.rules.specs.declared.Refusal.{Refusal}
use mathlib.Core.Path.{◌≡◌, refl, sym, ◌∙◌, ap, ap₂}
use mathlib.Core.Bool.{Bool, true, ◌||◌}
use mathlib.Core.List.{List, [], ◌∷◌, map}
use Prim.Native.Nat.{ℕ, suc, ◌<◌}
use lib.IntN.{ℤ}
use lib.ListN.{length, get_or, take}
use Rattle.integers.specs.Pairs.{gain, loss}
use Rattle.integers.specs.Totals.{totalℕ, numbered}
use Rattle.integers.proofs.Totals.{totalℕ_map}
use Rattle.rules.specs.Book.{Requirement, Book}
use Rattle.rules.specs.Members.{Member, members}
use Rattle.rules.specs.Answer.{Line, lines_of, answered, answer}
use Rattle.interval.specs.declared.Tally.{Tally}
use Rattle.interval.specs.Lent.{Lent}
use Rattle.chain.specs.Chain.{Chain}
use Rattle.chain.specs.BookWay.{records_in}
use Rattle.answer.specs.Promises.{Columns, AnswerPromise, columns_long, shown}
use Rattle.answer.specs.BookAnswered.{RulesAnswer}
use Rattle.answer.proofs.BookAnswered.{chain_answered}
use Rattle.closing.specs.Parties.{some, some_helpful, some_unhelpful}
use Rattle.closing.specs.Demand3.{BooksClose}
use Rattle.closing.proofs.Demand3.{books_close}
use Rattle.demands.specs.WordsChain.{WordsChain}
use Rattle.demands.proofs.WordsBook.{ended_answered}
use Rattle.demands.proofs.ColumnsFront.{lines_at_front}
use Rattle.demands.specs.Demand3.{ColumnsClose, harms, helps}

-- ---- the book that was taken closes: the one that the parts spell which the calls took, whatever was refused in between
pub taken_closes :
    {head : List ℕ} {part : ℕ → List ℕ} {l₀ : Lent} {t : Tally} {l : Lent} (d : Chain head part l₀ (records_in head) t l)
    (bytes : (m i : ℕ) → m < records_in head → get_or (part m) i 0 < 256) → BooksClose (chain_answered d bytes).the_book
taken_closes d bytes = let a = chain_answered d bytes in books_close _ a.the_book a.spells

-- the same of a chain of C calls
pub words_close :
    {head : List ℕ} {part : ℕ → List ℕ} {l₀ : Lent} {ws₀ ws : List ℕ} {l : Lent} (d : WordsChain head part l₀ ws₀ (records_in head) ws l)
    (bytes : (m i : ℕ) → m < records_in head → get_or (part m) i 0 < 256) → BooksClose (ended_answered d bytes).the_book
words_close d bytes = let a = ended_answered d bytes in books_close _ a.the_book a.spells

-- ---- laws
some_map : {A B : Type 0} (p : B → Bool) (f : A → B) (xs : List A) → some p (map f xs) ≡ some (λ x. p (f x)) xs
unfolding some
some_map p f [] = refl
some_map p f (x ∷ xs) = ap (λ (t : Bool). p (f x) || t) (some_map p f xs)

performances_are : (h : ℕ → Member → Line) → ((i : ℕ) (m : Member) → (h i m).performance ≡ m.payment) → (ms : List Member)
    → map (λ l. l.performance) (numbered h ms) ≡ map (λ m. m.payment) ms
unfolding numbered
performances_are h e [] = refl
performances_are h e (m ∷ ms) = ap₂ (λ (x : ℤ) (xs : List ℤ). x ∷ xs) (e 0 m) (performances_are (λ i. h (suc i)) (λ i x. e (suc i) x) ms)

pub lines_performances : (b : Book) (q : Requirement) → map (λ l. l.performance) (answer b q).lines ≡ map (λ m. m.payment) (members b q)
unfolding answer answered lines_of
lines_performances b q = performances_are _ (λ i m. refl) (members b q)

module _ {b : Book} {t : Tally} {l : Lent} {part : List ℕ} {q : Requirement} (a : RulesAnswer b t l part q) where
  abbrev lines : List Line
  lines = (answer b q).lines

  module _ (closes : BooksClose b) {old new : Columns} {r : Result Answer Refusal} (long : columns_long t.units old ≡ true)
      (c : AnswerPromise t part l old r new) where
    performances_front : take (length lines) new.performances ≡ map (λ m. m.payment) (members b q)
    performances_front = ap (λ (c : Columns). c.performances) (lines_at_front a long c) ∙ lines_performances b q

    payments_front : take (length lines) new.payments ≡ map (λ l. l.payment) lines
    payments_front = ap (λ (c : Columns). c.payments) (lines_at_front a long c)

    helps_is : helps (take (length lines) new.performances) ≡ some_helpful b q
    helps_is = ap helps performances_front ∙ some_map _ (λ m. m.payment) (members b q)

    harms_is : harms (take (length lines) new.performances) ≡ some_unhelpful b q
    harms_is = ap harms performances_front ∙ some_map _ (λ m. m.payment) (members b q)

    -- THE COLUMNS CLOSE, of every answer about a book that closes
    pub columns_close : ColumnsClose b q r new
    columns_close =
        record {
          figures = shown q (answer b q);
          given = (a.answered long c).reply;
          parties = λ none. helps_is ∙ closes.parties q none ∙ sym harms_is;
          credits = λ up down. paid gain ∙ (closes.cents q (sym helps_is ∙ up) (sym harms_is ∙ down)).credits;
          debits = λ up down. paid loss ∙ (closes.cents q (sym helps_is ∙ up) (sym harms_is ∙ down)).debits;
        }
      where
        paid : (side : ℤ → ℕ) → totalℕ side (take (length lines) new.payments) ≡ totalℕ (λ l. side l.payment) lines
        paid side = ap (totalℕ side) payments_front ∙ totalℕ_map side (λ l. l.payment) lines
