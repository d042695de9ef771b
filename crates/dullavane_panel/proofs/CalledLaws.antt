-- No promise of a call allows two answers; and what the calls' proofs cite.
use Rattle.std.specs.Prelude.{Result, ⊤}
use Rattle.rules.specs.declared.Refusal.{Refusal}
use mathlib.Core.Path.{◌≡◌, refl, sym, ◌∙◌, ap, subst}
use mathlib.Core.Bool.{Bool, true, false}
use mathlib.Core.List.{List}
use Prim.Native.Nat.{ℕ, ◌≤◌, ◌<◌}
use borrow.Author.Tests.{leb-true, le-leb, lt-leb, le-ltb, lt-ltb}
use lib.Dec.{leb}
use lib.IntN.{ℤ}
use lib.ListN.{length}
use Rattle.rules.specs.declared.Direction.{Direction}
use Rattle.rules.specs.declared.Page.{Page}
use Rattle.rules.specs.declared.Key.{Key}
use Rattle.rules.specs.declared.Standing.{Standing}
use Rattle.rules.specs.declared.Refusal.TheVariants.{WrongState, TooShort}
use Rattle.rules.specs.Refusals.{taken, number}
use Rattle.report_row.proofs.PieceLaws.{both_first, both_second}
use Rattle.interval.specs.declared.Tally.{Tally}
use Rattle.rules.specs.Panel.{first_page, member_page}
use Rattle.rules.specs.Keys.{step}
use Rattle.pages.specs.declared.Who.{Who}
use Rattle.pages.specs.Promises.{Draws, line_of}
use Rattle.interval.specs.Lent.{Lent}
use Rattle.panel.specs.declared.Shown.{Shown}
use Rattle.panel.specs.Press.{Cents, PressPromise}
use Rattle.dullavane.specs.Words.{held, Held}
use Rattle.dullavane.specs.Asked.{held_or_none}
use Rattle.panel.proofs.Promises.{press_only}
use Rattle.dullavane.proofs.Called.{called_only}
use Rattle.dullavane_panel.specs.Words.{key_of, page_of, with_page, enough, drawn_number, pressed_number, page_after}
use Rattle.dullavane_panel.specs.Called.{page_reply, PageCalled, step_reply, StepCalled, PressCalled}

module _ {narrow : Bool} {page old : List ℕ} {r r₂ : ℕ} {new new₂ : List ℕ} where
  page_only : PageCalled narrow page old r new → PageCalled narrow page old r₂ new₂ → (r ≡ r₂) × (new ≡ new₂)
  page_only a b = (a.reply ∙ sym b.reply, a.text ∙ sym b.text)

  pub dullavane_panel_first_only : PageCalled narrow page old r new → PageCalled narrow page old r₂ new₂ → (r ≡ r₂) × (new ≡ new₂)
  dullavane_panel_first_only = page_only

  pub dullavane_panel_member_only : PageCalled narrow page old r new → PageCalled narrow page old r₂ new₂ → (r ≡ r₂) × (new ≡ new₂)
  dullavane_panel_member_only = page_only

  pub dullavane_panel_phrase_only : PageCalled narrow page old r new → PageCalled narrow page old r₂ new₂ → (r ≡ r₂) × (new ≡ new₂)
  dullavane_panel_phrase_only = page_only

pub dullavane_panel_step_only : {key book requirement members : ℕ} {ws : List ℕ} {r r₂ : ℕ} {ws' ws₂ : List ℕ} →
    StepCalled key book requirement members ws r ws' → StepCalled key book requirement members ws r₂ ws₂ → (r ≡ r₂) × (ws' ≡ ws₂)
dullavane_panel_step_only a b = (a.reply ∙ sym b.reply, a.words ∙ sym b.words)

pub dullavane_panel_press_only : {key book : ℕ} {ts part : List ℕ} {l : Lent} {c : Cents} {replied ws old : List ℕ} {r r₂ : ℕ} {ws' new ws₂ new₂ : List ℕ} →
    PressCalled key book ts part l c replied ws old r ws' new → PressCalled key book ts part l c replied ws old r₂ ws₂ new₂ →
    (r ≡ r₂) × (ws' ≡ ws₂) × (new ≡ new₂)
dullavane_panel_press_only {ws = ws} {old = old} {new = new} {new₂ = new₂} a b =
    called_only pressed_number page_after _ _ (new ≡ old) (new₂ ≡ old) (new ≡ new₂) (λ t s s₂ x y. press_only _ _ _ _ _ _ _ _ _ x y) (λ x y. x ∙ sym y)
    ws _ _ _ _ _ a.answer b.answer

-- ---- a page from plain numbers, by what the drawing below promises
module _ {narrow : Bool} {page old : List ℕ} where
  pub page_refused : narrow ≡ false → {r : ℕ} → r ≡ number WrongState → PageCalled narrow page old r old
  unfolding page_reply
  page_refused e told = record { reply = rw e told; text = rw e }

  pub page_drawn : narrow ≡ true → {d : Result ⊤ Refusal} {r : ℕ} {new : List ℕ} → Draws 80 page old d new → r ≡ drawn_number d → PageCalled narrow page old r new
  unfolding page_reply
  page_drawn e {d} {r} {new} p told = go (leb 80 (length old)) refl
    where
      go : (t : Bool) → leb 80 (length old) ≡ t → PageCalled narrow page old r new
      go true f = record { reply = told ∙ ap drawn_number p.reply ∙ rw (e, f); text = p.written ∙ rw (e, f) }
      go false f = record { reply = told ∙ ap drawn_number p.reply ∙ rw (e, f); text = p.written ∙ rw (e, f) }

pub first_same : (n : ℕ) {d d' : Direction} {x y z x' y' z' : ℤ} → d ≡ d' → x ≡ x' → y ≡ y' → z ≡ z' → first_page n d x y z ≡ first_page n d' x' y' z'
first_same n a b c e = rw (a, b, c, e)

pub member_same : {w w' : Who} {s s' : Standing} (payment used unused : ℤ) → w ≡ w' → s ≡ s' →
    member_page (line_of w s payment used unused) ≡ member_page (line_of w' s' payment used unused)
member_same payment used unused a b = rw (a, b)

pub drawn_as : {page page' old : List ℕ} {d : Result ⊤ Refusal} {new : List ℕ} → page ≡ page' → Draws 80 page old d new → Draws 80 page' old d new
drawn_as {old = old} {d = d} {new = new} e p = subst (λ (x : List ℕ). Draws 80 x old d new) e p

-- ---- a key over the page's words
module _ {key book requirement members : ℕ} {ws : List ℕ} where
  pub step_short : length ws < 3 → {r : ℕ} → r ≡ number TooShort → StepCalled key book requirement members ws r ws
  unfolding step_reply
  step_short h told = let l = lt-leb 3 (length ws) h in record { reply = rw l told; words = rw l }

  pub step_other : 3 ≤ length ws → 4 ≤ key → {r : ℕ} → r ≡ number WrongState → StepCalled key book requirement members ws r ws
  unfolding step_reply
  step_other h k told = let l = le-leb 3 (length ws) h in let m = le-ltb key 4 k in record { reply = rw (l, m) told; words = rw (l, m) }

  pub step_made : 3 ≤ length ws → key < 4 → {ws' : List ℕ} → ws' ≡ with_page (step (page_of ws) (key_of key) book requirement members) ws →
      StepCalled key book requirement members ws 0 ws'
  unfolding step_reply
  step_made h k left_in = let l = le-leb 3 (length ws) h in let m = lt-ltb key 4 k in record { reply = rw (l, m); words = left_in ∙ rw (l, m) }

pub step_same : {p p' : Page} {k k' : Key} (book requirement members : ℕ) → p ≡ p' → k ≡ k' →
    step p k book requirement members ≡ step p' k' book requirement members
step_same book requirement members a b = rw (a, b)

-- ---- a key press, by what stands in the words
module _ {p p' : Page} {k k' : Key} {book : ℕ} {t : Tally} {part : List ℕ} {s s' : Shown} {l : Lent} {c : Cents} {old new : List ℕ} {r : Result Page Refusal} where
  pub press_same : p ≡ p' → k ≡ k' → s ≡ s' → PressPromise p k book t part s l c old r new → PressPromise p' k' book t part s' l c old r new
  press_same a b d x =
      subst (λ (q : Page). PressPromise q k' book t part s' l c old r new) a
      (subst (λ (q : Key). PressPromise p q book t part s' l c old r new) b (subst (λ (q : Shown). PressPromise p k book t part q l c old r new) d x))

pub tally_read : (ts : List ℕ) {t : Tally} → Held ts → t ≡ held_or_none (held ts) → held ts ≡ taken t
tally_read ts h e = h.tally ∙ ap taken (sym (e ∙ ap held_or_none h.tally))

pub enough_page : (page reply : ℕ) → enough page reply ≡ true → 3 ≤ page
enough_page page reply e = leb-true 3 page (both_first (leb 3 page) (leb 8 reply) e)

pub enough_reply : (page reply : ℕ) → enough page reply ≡ true → 8 ≤ reply
enough_reply page reply e = leb-true 8 reply (both_second (leb 3 page) (leb 8 reply) e)
