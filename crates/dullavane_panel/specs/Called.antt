-- What the panel's calls for C promise (02, R-13): the reply, the page's words and every byte of the text, on refusals too.
use Rattle.std.specs.Prelude.{◌≡◌, Bool, List, ◌++◌, ℕ, leb, ltb, length, drop}
use Rattle.rules.specs.declared.Page.{Page}
use Rattle.rules.specs.declared.Refusal.TheVariants.{WrongState, TooShort}
use Rattle.rules.specs.Refusals.{Reply, taken, unless}
use Rattle.rules.specs.Panel.{page_places}
use Rattle.rules.specs.Keys.{step}
use Rattle.interval.specs.Lent.{Lent}
use Rattle.interval.specs.Calls.{left}
use Rattle.panel.specs.Press.{Cents, PressPromise}
use Rattle.dullavane.specs.Words.{reply_number}
use Rattle.dullavane.specs.Asked.{asked_tally}
use Rattle.dullavane.specs.Called.{Called}
use Rattle.dullavane_panel.specs.Words.{keys, key_of, page_words, page_of, with_page, enough, shown_of, pressed_number, page_after}

-- ---- a page from plain numbers: 11 for one over its field, then 12 for a text under 80 bytes
unfoldable pub page_reply : Bool → List ℕ → ℕ → Reply (List ℕ)
page_reply narrow page text = unless narrow WrongState (unless (leb page_places text) TooShort (taken page))

pub record PageCalled (narrow : Bool) (page old : List ℕ) (r : ℕ) (new : List ℕ) : Type 0 where
  pub reply : r ≡ reply_number (page_reply narrow page (length old))
  pub text : new ≡ left (λ drawn text. drawn ++ drop page_places text) (page_reply narrow page (length old)) old

-- ---- a key over the page's words alone: 12 for fewer than three, then 11 for a key over 3
unfoldable pub step_reply : ℕ → ℕ → ℕ → ℕ → List ℕ → Reply Page
step_reply key book requirement members ws =
    unless (leb page_words (length ws)) TooShort
    (unless (ltb key keys) WrongState
    (taken (step (page_of ws) (key_of key) book requirement members)))

pub record StepCalled (key book requirement members : ℕ) (ws : List ℕ) (r : ℕ) (ws' : List ℕ) : Type 0 where
  pub reply : r ≡ reply_number (step_reply key book requirement members ws)
  pub words : ws' ≡ left with_page (step_reply key book requirement members ws) ws

-- ---- a key press over a taken book: 12 and 11 for the tally's words, 11 out of turn, 11 for a key over 3, 12 for the words of page and reply, then the
-- press's own
pub record PressCalled
    (key book : ℕ)
    (ts part : List ℕ)
    (l : Lent)
    (c : Cents)
    (replied ws old : List ℕ)
    (r : ℕ)
    (ws' new : List ℕ)
    : Type 0 where
  pub answer :
      Called pressed_number page_after (λ t s. PressPromise (page_of ws) (key_of key) book t part (shown_of replied) l c old s new) (new ≡ old)
      (asked_tally ts (ltb key keys) (enough (length ws) (length replied))) ws r ws'
