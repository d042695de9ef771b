-- R-13, THE PANEL, over C: `dullavane_panel_press`, handed the reply's words and the columns of `dullavane_answer`, shows the page of the rules' answer that
-- the key turns to. The tally's words hold the tally, and the reply's words say what the reply says.
use Rattle.std.specs.Prelude.{Result}
use Rattle.rules.specs.declared.Page.{Page}
use Rattle.rules.specs.declared.Refusal.{Refusal}
use mathlib.Core.Path.{◌≡◌, refl, ◌∙◌, ap, subst}
use mathlib.Core.Bool.{true, false, ◌&&◌}
use mathlib.Core.List.{List}
use Prim.Native.Nat.{ℕ, ◌+◌, ◌%◌, ◌≤◌, ◌<◌}
use native.Mathlib.Omega.{arith}
use lib.Dec.{leb, ltb}
use lib.ListN.{length, get_or}
use borrow.Author.Tests.{le-leb, lt-ltb}
use Rattle.rules.specs.declared.Reason.TheVariants.{UnreliableRegion, BadUnit, NoGoodUnit}
use Rattle.rules.specs.declared.Standing.{Standing}
use Rattle.rules.specs.declared.Standing.TheVariants.{Live, Default}
use Rattle.rules.specs.Refusals.{taken}
use Rattle.rules.specs.Book.{Requirement, Book}
use Rattle.rules.specs.WholeBook.{book}
use Rattle.rules.specs.RequirementRecord.{requirement_record}
use Rattle.rules.specs.Answer.{answer}
use Rattle.rules.specs.Panel.{page_places}
use Rattle.interval.specs.declared.Tally.{Tally}
use Rattle.interval.specs.Tally.{before_units, units_end, in_range, answer_turn}
use Rattle.interval.specs.Lent.{Lent}
use Rattle.chain.specs.Taken.{counts_in}
use Rattle.chain.specs.BookWay.{Hands}
use Rattle.chain.specs.Answerable.{Answerable}
use Rattle.chain.proofs.Answerable.{units_answerable}
use Rattle.answer.specs.declared.Answer.{Answer}
use Rattle.answer.specs.Promises.{Columns, columns_long, shown}
use Rattle.answer.proofs.TestedLaws.{units_few}
use Rattle.panel.specs.declared.Shown.{Shown}
use Rattle.panel.specs.Press.{PressPromise}
use Rattle.panel.specs.BookPages.{shown_of as reply_shown, cents_of}
use Rattle.panel.proofs.BookPages.{lines_few, book_pages}
use Rattle.dullavane.specs.Words.{held}
use Rattle.dullavane.specs.Asked.{standing_number}
use Rattle.dullavane.specs.Answers.{reply_words, with_answer, answered_after, AnswerCalled}
use Rattle.dullavane_panel.specs.Words.{keys, page_words, page_of, key_of, enough, standing_in, shown_of, pressed_number, page_after}
use Rattle.dullavane_panel.specs.Called.{PressCalled}
use Rattle.demands.specs.WordsChain.{WordsChain}
use Rattle.demands.specs.PanelWords.{PressTold, WordsPages}
use Rattle.demands.proofs.WordsLaws.{is_stepped}
use Rattle.demands.proofs.WordsTheorem.{words_chain}
use Rattle.demands.proofs.WordsAnswered.{asked_held}

-- ---- the reply's words say what the reply says
standing_back : (s : Standing) → standing_in (standing_number s % 4) ≡ s
standing_back Live = refl
standing_back (Default UnreliableRegion) = refl
standing_back (Default BadUnit) = refl
standing_back (Default NoGoodUnit) = refl

standing_few : (s : Standing) → ltb (standing_number s) 4 ≡ true
standing_few Live = refl
standing_few (Default UnreliableRegion) = refl
standing_few (Default BadUnit) = refl
standing_few (Default NoGoodUnit) = refl

words_shown : (a : Answer) (ws : List ℕ) → a.members < 65_536 → shown_of (with_answer a ws) ≡ reply_shown a
unfolding shown_of
words_shown a ws few = rw (lt-ltb a.members 65_536 few, standing_few a.residual, standing_back a.residual)

-- ---- over words that hold a tally which can be answered from
module _ {b : Book} {t : Tally} (ts : List ℕ) {l : Lent} (h : Answerable b t l) (holds : held ts ≡ taken t) where
  turn : (in_range t && answer_turn t) ≡ true
  turn = rw (h.tally, le-leb (units_end t) t.records h.turn)

  shows :
      (part : List ℕ) (q : Requirement) → requirement_record 0 false part ≡ taken q → {old new : Columns} {reply reply' : List ℕ} {r : ℕ} →
      columns_long t.units old ≡ true → reply_words ≤ length reply → AnswerCalled ts part l old reply r new reply' →
      (key number : ℕ) → key < keys → {ws ws' text text' : List ℕ} {x : ℕ} → page_words ≤ length ws → page_places ≤ length text →
      PressCalled key number ts part l (cents_of new) reply' ws text x ws' text' → PressTold b q key number ws text x ws' text'
  shows part q asked {new = new} {reply} {reply'} long words_long c key number few {ws} {text = text} {text'} room text_room d =
      let a = shown q (answer b q) in
      let given = is_stepped _ _ _ _ (asked_held ts true (leb reply_words (length reply)) holds turn refl (le-leb _ _ words_long)) c.answer in
      let w = (book_pages h).shows part q asked long given.call in
      let members : a.members < 65_536 = omega (arith, lines_few h part q asked, units_few t turn) in
      let left : reply' ≡ with_answer a reply = given.words ∙ ap (λ (y : Result Answer Refusal). answered_after y reply) w.given in
      let told : shown_of reply' ≡ reply_shown a = ap shown_of left ∙ words_shown a reply members in
      let eight : reply_words ≤ length reply' = rw left (omega arith) in
      let there : enough (length ws) (length reply') ≡ true = rw (le-leb page_words (length ws) room, le-leb reply_words (length reply') eight) in
      let pressed = is_stepped _ _ _ _ (asked_held ts (ltb key keys) _ holds turn (lt-ltb key keys few) there) d.answer in
      let promise =
      subst (λ (s : Shown). PressPromise (page_of ws) (key_of key) number t part s l (cents_of new) text pressed.step text') told pressed.call in
      let y = w.pressed (page_of ws) (key_of key) number text_room promise in
      record {
        reply = pressed.reply ∙ ap pressed_number y.page;
        words = pressed.words ∙ ap (λ (z : Result Page Refusal). page_after z ws) y.page;
        text = y.text;
      }

  pub answerable_shown : WordsPages b t ts l
  answerable_shown = record { shows = shows }

-- ON EVERY CHAIN OF C CALLS over a book that the format takes, from its last unit on, whatever was refused in between
pub book_shown_in_c :
    {bs head : List ℕ} {part : ℕ → List ℕ} {l₀ : Lent} {ws₀ : List ℕ} → Hands bs head part → (b : Book) → book bs ≡ taken b →
    ((i : ℕ) → get_or bs i 0 < 256) → {n : ℕ} {ws : List ℕ} {l : Lent} (d : WordsChain head part l₀ ws₀ n ws l) →
    before_units + (counts_in head).units ≤ n → WordsPages b (words_chain d).tally ws l
book_shown_in_c hands b e bytes {ws = ws} d all =
    let x = words_chain d in
    answerable_shown ws (units_answerable hands b e x.chain all bytes) x.held
