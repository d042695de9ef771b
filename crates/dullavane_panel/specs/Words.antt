-- Numbers and words as C hands them over, and what they say.
use Rattle.rules.specs.declared.Refusal.{Refusal}
use Rattle.std.specs.Prelude.{Bool, cond, ◌&&◌, List, ◌∷◌, ℕ, zero, suc, ◌%◌, leb, ltb, get_or, drop, Result, Ok, Err, ⊤}
use Rattle.rules.specs.declared.Key.{Key}
use Rattle.rules.specs.declared.Key.TheVariants.{Show, Next, Previous, Home}
use Rattle.rules.specs.declared.Page.{Page}
use Rattle.rules.specs.declared.Reason.TheVariants.{UnreliableRegion, BadUnit, NoGoodUnit}
use Rattle.rules.specs.declared.Standing.{Standing}
use Rattle.rules.specs.declared.Standing.TheVariants.{Live, Default}
use Rattle.rules.specs.Refusals.{number}
use Rattle.pages.specs.declared.Who.{Who}
use Rattle.pages.specs.declared.Who.TheVariants.{Unit, Residual}
use Rattle.panel.specs.declared.Shown.{Shown}

-- ---- numbers within their fields: a unit's or a requirement's number 16 bits, a direction 0 or 1, a standing 0 to 3; the residual has no number
unfoldable pub first_narrow : ℕ → ℕ → Bool
first_narrow number direction = ltb number 65_536 && ltb direction 2

abbrev pub number_narrow : ℕ → ℕ → Bool
number_narrow zero number = ltb number 65_536
number_narrow (suc n) number = ltb (suc n) 2

unfoldable pub member_narrow : ℕ → ℕ → ℕ → Bool
member_narrow residual number standing = ltb standing 4 && number_narrow residual number

-- 0 for a unit's or a group's page, 1 for the residual's
abbrev pub who_in : ℕ → ℕ → Who
who_in zero number = Unit number
who_in (suc n) number = Residual

-- 0 is live; else the reason why a default stands in, as the words of a member have it
abbrev pub standing_in : ℕ → Standing
standing_in zero = Live
standing_in (suc zero) = Default UnreliableRegion
standing_in (suc (suc zero)) = Default BadUnit
standing_in (suc (suc (suc n))) = Default NoGoodUnit

-- ---- keys: 0 show, 1 next, 2 previous, 3 home
abbrev pub keys : ℕ
keys = 4

abbrev pub key_of : ℕ → Key
key_of zero = Show
key_of (suc zero) = Next
key_of (suc (suc zero)) = Previous
key_of (suc (suc (suc zero))) = Home
key_of (suc (suc (suc (suc n)))) = Show

-- ---- the page record in three words: book, requirement, page; words past them stay
abbrev pub page_words : ℕ
page_words = 3

abbrev pub page_of : List ℕ → Page
page_of ws = record { book = get_or ws 0 0; requirement = get_or ws 1 0; page = get_or ws 2 0 }

abbrev pub with_page : Page → List ℕ → List ℕ
with_page p ws = p.book ∷ p.requirement ∷ p.page ∷ drop page_words ws

-- ---- an answer's reply in eight words: how many members, RCR, pool, .., the residual's standing. Words that no answer leaves say no members
abbrev pub reply_words : ℕ
reply_words = 8

abbrev pub enough : ℕ → ℕ → Bool
enough page reply = leb page_words page && leb reply_words reply

abbrev pub members_of : ℕ → ℕ → ℕ
members_of members standing = cond (ltb members 65_536 && ltb standing 4) members 0

unfoldable pub shown_of : List ℕ → Shown
shown_of ws =
    record {
      members = members_of (get_or ws 0 0) (get_or ws 7 0);
      rcr = get_or ws 1 0;
      pool = get_or ws 2 0;
      residual = standing_in (get_or ws 7 0 % 4);
    }

-- ---- 0, or the refusal's number; the page's words where it was drawn
abbrev pub drawn_number : Result ⊤ Refusal → ℕ
drawn_number (Ok tt) = 0
drawn_number (Err r) = number r

abbrev pub pressed_number : Result Page Refusal → ℕ
pressed_number (Ok page) = 0
pressed_number (Err r) = number r

abbrev pub page_after : Result Page Refusal → List ℕ → List ℕ
page_after (Ok page) ws = with_page page ws
page_after (Err r) ws = ws
