-- What proofs/Panel.antt speaks of: what an operator reads on the four lines, and what a caller from C has after the panel's calls (02, R-13).
use Rattle.rules.specs.declared.Refusal.{Refusal}
use Rattle.std.specs.Prelude.{◌≡◌, List, [], ◌∷◌, ◌++◌, ℕ, ◌≤◌, length, get_or, drop, Result, Ok, Err}
use Rattle.rules.specs.declared.Page.{Page}
use Rattle.rules.specs.declared.Key.{Key}
use Rattle.rules.specs.Book.{Requirement, Book}
use Rattle.rules.specs.Answer.{answer}
use Rattle.rules.specs.Panel.{page_places, pages}
use Rattle.interval.specs.declared.Tally.{Tally}
use Rattle.interval.specs.Lent.{Lent}
use Rattle.panel.specs.declared.Shown.{Shown}
use Rattle.panel.specs.Press.{Cents, PressPromise}
use Rattle.panel.specs.Keys.{keys_pressed}

-- the record that a press leaves
abbrev pub record_after : Page → Result Page Refusal → Page
record_after p (Ok then) = then
record_after p (Err r) = p

-- ---- keys pressed one after another, over one answer: each press is handed the record as the press before left it, and some text of 80 bytes at least; of the
-- last one the text that it was lent, and what it left there
module _ (number : ℕ) (t : Tally) (part : List ℕ) (s : Shown) (l : Lent) (c : Cents) where
  pub data Presses : Page → List Key → Page → List ℕ → List ℕ → Type 0 where
    last_press :
        {p : Page} {key : Key} {old new : List ℕ} {x : Result Page Refusal} → page_places ≤ length old → PressPromise p key number t part s l c old x new →
        Presses p (key ∷ []) (record_after p x) old new
    and_then :
        {p : Page} {key : Key} {lent left : List ℕ} {x : Result Page Refusal} {keys : List Key} {last : Page} {old new : List ℕ} → page_places ≤ length lent →
        PressPromise p key number t part s l c lent x left → Presses (record_after p x) keys last old new → Presses p (key ∷ keys) last old new

-- page k of a requirement's answer at the front of a text, and every other byte as it was lent
abbrev pub Shows : Book → Requirement → ℕ → List ℕ → List ℕ → Type 0
Shows b q k old new = new ≡ get_or (pages q (answer b q)) k [] ++ drop page_places old

-- what stands there after any keys: the page that the steps lead to, one of the requirement's
pub record KeysShown (b : Book) (q : Requirement) (number : ℕ) (p : Page) (keys : List Key) (last : Page) (old new : List ℕ) : Type 0 where
  pub page : last ≡ keys_pressed p keys number q.number (length (answer b q).lines)
  pub there : last.page ≤ length (answer b q).lines
  pub text : Shows b q last.page old new
