-- What turning to the page promises, once every test before it has been passed.
use Rattle.rules.specs.declared.Refusal.{Refusal}
use Rattle.std.specs.Prelude.{◌≡◌, cond, List, ℕ, leb, ℤ, pos, Result, Ok, Err, ⊤}
use Rattle.rules.specs.declared.Page.{Page}
use Rattle.rules.specs.declared.Key.{Key}
use Rattle.rules.specs.Book.{Requirement}
use Rattle.interval.specs.Lent.{Lent}
use Rattle.interval.specs.Calls.{left}
use Rattle.panel.specs.declared.Shown.{Shown}
use Rattle.panel.specs.Press.{Cents, members_told, page_then, text_then, pressed_as}

-- a figure that is never below zero, as a signed one: from 10^16 on all are drawn alike, as hashes
abbrev pub drawn_alike : ℕ → ℤ
drawn_alike n = cond (leb 10_000_000_000_000_000 n) (pos 10_000_000_000_000_000) (pos n)

abbrev pub told_as : Page → Result ⊤ Refusal → Result Page Refusal
told_as p (Ok tt) = Ok p
told_as p (Err r) = Err r

pub record TurnPromise
    (p : Page)
    (key : Key)
    (book units : ℕ)
    (q : Requirement)
    (s : Shown)
    (l : Lent)
    (c : Cents)
    (old : List ℕ)
    (r : Result Page Refusal)
    (new : List ℕ)
    : Type 0 where
  pub reply : r ≡ pressed_as (page_then p key book s) (members_told units l.homes s q)
  pub written : new ≡ left (text_then units l s c (page_then p key book s)) (members_told units l.homes s q) old
