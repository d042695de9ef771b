-- R-13, THE PANEL: what an operator reads. Of a book that was taken each key press shows the page of the rules' answer that the steps lead to; every page is
-- reached from home by next, and no press shows any other; and what is shown of a refusal is never what is shown of a number that no refusal has.
use Rattle.std.specs.Prelude.{Result}
use Rattle.answer.specs.declared.Answer.{Answer}
use mathlib.Core.Path.{◌≡◌, refl, sym, ◌∙◌, ap}
use mathlib.Core.Bool.{Bool, true, false, false≢true}
use mathlib.Core.List.{List, [], ◌++◌}
use Prim.Native.Nat.{ℕ, ◌+◌, ◌≤◌, ◌<◌}
use native.Mathlib.Omega.{arith}
use lib.Dec.{eqb}
use lib.ListN.{length, get_or, take, drop, length-append, length-drop}
use lib.Seq.{take_at}
use Rattle.rules.specs.declared.Page.{Page}
use Rattle.rules.specs.declared.Key.{Key}
use Rattle.rules.specs.declared.Refusal.{Refusal}
use Rattle.rules.specs.declared.Refusal.TheVariants as r
use Rattle.rules.specs.Refusals.{taken, number}
use Rattle.rules.specs.Book.{Requirement, Book}
use Rattle.rules.specs.WholeBook.{book}
use Rattle.rules.specs.Answer.{answer}
use Rattle.rules.specs.Text.{text}
use Rattle.rules.specs.Phrases.{phrase, unknown}
use Rattle.rules.specs.Panel.{page_places, pages, refusal_page}
use Rattle.interval.specs.declared.Tally.{Tally}
use Rattle.interval.specs.Tally.{before_units}
use Rattle.interval.specs.Lent.{Lent}
use Rattle.chain.specs.Taken.{counts_in}
use Rattle.chain.specs.Chain.{Chain}
use Rattle.chain.specs.BookWay.{Hands}
use Rattle.chain.proofs.Answerable.{units_answerable}
use Rattle.answer.specs.Promises.{Columns, shown}
use Rattle.panel.specs.Keys.{nexts_after_home}
use Rattle.panel.specs.BookPages.{shown_of, cents_of, BookPages, PagesShown}
use Rattle.panel.proofs.KeysLaws.{step_there, nexts_from_home}
use Rattle.panel.proofs.BookPages.{book_pages}
use Rattle.demands.specs.Panel.{record_after, Presses, last_press, and_then, Shows, KeysShown}

-- ---- A BOOK'S PAGES: on every chain of calls over a book that the format takes, from its last unit on, whatever was refused in between
pub book_shown :
    {bs head : List ℕ} {part : ℕ → List ℕ} {l₀ : Lent} → Hands bs head part → (b : Book) → book bs ≡ taken b → ((i : ℕ) → get_or bs i 0 < 256) →
    {n : ℕ} {t : Tally} {l : Lent} → Chain head part l₀ n t l → before_units + (counts_in head).units ≤ n → PagesShown b t l
book_shown hands b e bytes d all = book_pages (units_answerable hands b e d all bytes)

-- ---- KEYS ONE AFTER ANOTHER, over what `answer` gave of a requirement
module _ {b : Book} {t : Tally} {l : Lent} {part : List ℕ} {q : Requirement} {r : Result Answer Refusal} {c : Columns} (w : BookPages b t l part q r c)
    (book_number : ℕ) where
  abbrev Pressing : Page → List Key → Page → List ℕ → List ℕ → Type 0
  Pressing = Presses book_number t part (shown_of (shown q (answer b q))) l (cents_of c)

  -- no press shows anything but a page of the answer, the one that the steps lead to
  pub keys_shown : {p : Page} {keys : List Key} {last : Page} {old new : List ℕ} → Pressing p keys last old new → KeysShown b q book_number p keys last old new
  keys_shown (last_press {p} {key} {old} room promise) =
      let shows = w.pressed p key book_number room promise in
      let is = ap (record_after p) shows.page in
      record {
        page = is;
        there = omega (arith, ap (λ (x : Page). x.page) is, (step_there p key book_number q.number (length (answer b q).lines)).0);
        text = shows.text ∙ ap (λ (x : Page). get_or (pages q (answer b q)) x.page [] ++ drop page_places old) (sym is);
      }
  keys_shown (and_then {p} {key} room promise rest) =
      let is = ap (record_after p) (w.pressed p key book_number room promise).page in
      let after = keys_shown rest in
      record { page = rw is at after.page; there = after.there; text = after.text }

  -- EVERY PAGE IS SHOWN: home, and then so many times next
  pub every_page_shown :
      (k : ℕ) → k ≤ length (answer b q).lines → {p last : Page} {old new : List ℕ} → Pressing p (nexts_after_home k) last old new →
      (last.page ≡ k) × Shows b q k old new
  every_page_shown k inside {p} {old = old} presses =
      let s = keys_shown presses in
      let at : _ ≡ k = ap (λ (x : Page). x.page) s.page ∙ (nexts_from_home p book_number q.number (length (answer b q).lines) k).0 inside in
      (at, s.text ∙ ap (λ (j : ℕ). get_or (pages q (answer b q)) j [] ++ drop page_places old) at)

-- a text that is lent keeps its length, so that its first 80 bytes are the page
pub page_in_front :
    (b : Book) (q : Requirement) (k : ℕ) (old new : List ℕ) → Shows b q k old new → page_places ≤ length old → length new ≡ length old →
    take page_places new ≡ get_or (pages q (answer b q)) k []
page_in_front b q k old new shows room same =
    let page = get_or (pages q (answer b q)) k [] in
    let whole : length page ≡ page_places =
    omega (arith, ap length shows, length-append page (drop page_places old), length-drop page_places old) in
    ap (λ (text : List ℕ). take page_places text) shows ∙ take_at page (drop page_places old) page_places whole

-- ---- A REFUSAL IS SHOWN BY A PHRASE OF ITS OWN. The third byte of `unknown` is a `k`, and that of no refusal's page is
third_is_k : List ℕ → Bool
third_is_k page = eqb (get_or page 2 0) 107

third_byte : (refusal : Refusal) → third_is_k (refusal_page (number refusal)) ≡ false
unfolding refusal_page phrase text third_is_k
third_byte r.EndsEarly = refl
third_byte r.WrongMark = refl
third_byte r.WrongTable = refl
third_byte r.BytesFollow = refl
third_byte r.WrongCount = refl
third_byte r.SettingsField = refl
third_byte r.UnitNotRising = refl
third_byte r.RequirementField = refl
third_byte r.WrongState = refl
third_byte r.TooShort = refl
third_byte r.AverageTooLow = refl
third_byte r.YearPast = refl
third_byte r.WrongGroup = refl
third_byte r.WrongWeek = refl
third_byte (r.WrongRow n) = refl
third_byte r.FrequencyHeader = refl
third_byte r.FrequencyDefault = refl
third_byte r.FrequencyQuality = refl
third_byte (r.FrequencyPoint n) = refl
third_byte r.UnitHeader = refl
third_byte r.UnitDefault = refl
third_byte r.UnitQuality = refl
third_byte (r.UnitReading n) = refl

pub refused_shown : (refusal : Refusal) (n : ℕ) → phrase n ≡ unknown → refusal_page (number refusal) ≡ refusal_page n → ⊥
unfolding refusal_page text third_is_k
refused_shown refusal n e same =
    let k : third_is_k (refusal_page n) ≡ true = rw e in
    false≢true (sym (third_byte refusal) ∙ ap third_is_k same ∙ k)
