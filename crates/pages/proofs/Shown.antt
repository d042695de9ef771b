-- What the display shows (02, R-13), in the request's words: a page is exactly 80 bytes; a figure's 16 places read back as the number unless they are hashes,
-- and they are hashes exactly for more than 16 characters; the phrase is `unknown` exactly for numbers that no refusal has.
use mathlib.Core.Path.{◌≡◌, refl, sym, ◌∙◌, ap}
use mathlib.Core.Bool.{Bool, true, false}
use mathlib.Core.List.{List, [], ◌∷◌, ◌++◌}
use Prim.Native.Nat.{ℕ, zero, suc, ◌+◌, ◌-◌, ◌≤◌, ◌<◌, ◌^◌}
use native.Mathlib.Omega.{arith}
use borrow.Author.Tests.{leb-true, leb-false, ltb-true, ltb-false, ne_eqb}
use lib.Dec.{leb, ltb, lit≤}
use lib.IntN.{ℤ, pos, negsuc, neg_ℤ, nat_abs}
use lib.ListN.{length, get_or, length-append}
use Rattle.rules.specs.declared.Direction.{Direction}
use Rattle.rules.specs.declared.Standing.{Standing}
use Rattle.rules.specs.declared.Standing.TheVariants.{Live, Default}
use Rattle.rules.specs.declared.Refusal.{Refusal}
use Rattle.rules.specs.declared.Refusal.TheVariants as r
use Rattle.rules.specs.Refusals.{number}
use Rattle.rules.specs.Members.{Name, unit, residual}
use Rattle.rules.specs.Answer.{Line}
use Rattle.rules.specs.Text.{text, natural, integer}
use Rattle.rules.specs.Listing.{standing_word}
use Rattle.rules.specs.ReportRead.{said_from, said, signed_said}
use Rattle.rules.specs.Panel.{repeated, spaces, hashes, at_left, at_ends, figure, labelled, name_text, first_page, member_page, refusal_page}
use Rattle.rules.specs.Phrases.{phrase, unknown, between}
use Rattle.report_row.proofs.PieceLaws.{both_first, both_second, natural_digits, natural_some, natural_said, first_digit}
use Rattle.pages.specs.Lines.{way_text, required_text}
use Rattle.pages.specs.Reading.{behind_spaces, read_figure}
use Rattle.pages.proofs.RepeatedLaws.{repeated_long}
use Rattle.pages.proofs.FigureLaws.{placed_there, placed_hashes}
use Rattle.pages.proofs.DrawLaws.{labelled_long, ends_long, required_short, unit_short}
use Rattle.pages.proofs.PhraseLaws.{phrase_short, phrase_unknown}

-- ---- EXACTLY 80 BYTES
left_long : (places : ℕ) (left : List ℕ) → length left ≤ places → length (at_left places left) ≡ places
left_long places left h = length-append left (spaces (places - length left)) ∙ omega (arith, repeated_long 32 (places - length left))

four_long : (top second third fourth : List ℕ) → length top ≡ 20 → length second ≡ 20 → length third ≡ 20 → length fourth ≡ 20 →
    length (top ++ (second ++ (third ++ fourth))) ≡ 80
four_long top second third fourth a b c d =
    omega
    (arith, a, b, c, d, length-append top (second ++ (third ++ fourth)), length-append second (third ++ fourth), length-append third fourth)

pub first_page_long : (n : ℕ) (direction : Direction) (rcr pool cost : ℤ) → n < 65_536 → length (first_page n direction rcr pool cost) ≡ 80
unfolding first_page way_text text
first_page_long n direction rcr pool cost h =
    four_long (at_left 20 (required_text n direction)) (labelled (text "RCR ") rcr) (labelled (text "POOL") pool) (labelled (text "COST") cost)
    (left_long 20 (required_text n direction) (required_short n direction h)) (labelled_long (text "RCR ") rcr refl)
    (labelled_long (text "POOL") pool refl) (labelled_long (text "COST") cost refl)

-- a unit's number is one of 16 bits
pub data Named : Name → Type 0 where
  a_unit : {n : ℕ} → n < 65_536 → Named (unit n)
  the_residual : Named residual

name_short : {name : Name} → Named name → length (name_text name) ≤ 13
unfolding text
name_short (a_unit {n} h) = unit_short n h
name_short the_residual = lit≤ tt

standing_short : (s : Standing) → length (standing_word s) ≤ 7
unfolding text
standing_short Live = lit≤ tt
standing_short (Default why) = lit≤ tt

pub member_page_long : (l : Line) → Named l.name → length (member_page l) ≡ 80
unfolding member_page text
member_page_long l named =
    let name = name_text l.name in
    let word = standing_word l.standing in
    four_long (at_ends name word) (labelled (text "PAY ") l.payment) (labelled (text "USED") l.used) (labelled (text "IDLE") l.unused)
    (ends_long name word (omega (arith, name_short named, standing_short l.standing))) (labelled_long (text "PAY ") l.payment refl)
    (labelled_long (text "USED") l.used refl) (labelled_long (text "IDLE") l.unused refl)

pub refusal_page_long : (n : ℕ) → length (refusal_page n) ≡ 80
unfolding refusal_page
refusal_page_long n = left_long 80 (phrase n) (omega (arith, phrase_short n))

-- ---- A FIGURE'S 16 PLACES READ BACK AS THE NUMBER
-- spaces before a byte that is none
behind : (k : ℕ) (b : ℕ) (bs : List ℕ) → (b ≡ 32 → ⊥) → behind_spaces (spaces k ++ (b ∷ bs)) ≡ b ∷ bs
unfolding behind_spaces repeated
behind zero b bs none = rw (ne_eqb b 32 none)
behind (suc k) b bs none = behind k b bs none

behind_all : (k : ℕ) (bs : List ℕ) → 1 ≤ length bs → (get_or bs 0 0 ≡ 32 → ⊥) → behind_spaces (spaces k ++ bs) ≡ bs
behind_all k [] h none = absurd (omega arith)
behind_all k (b ∷ bs) h none = behind k b bs none

first_of : (n : ℕ) → 48 ≤ get_or (natural n) 0 0
first_of n = first_digit (natural n) (natural_digits n) (natural_some n)

plain : (n : ℕ) → n < 10 ^ 20 → signed_said (natural n) ≡ pos n
plain n h = rw (ne_eqb (get_or (natural n) 0 0) 45 (λ e. omega (arith, first_of n)), natural_said n h)

minus : (n : ℕ) → suc n < 10 ^ 20 → signed_said (text "-" ++ natural (suc n)) ≡ negsuc n
unfolding text said_from
minus n h = ap (λ (k : ℕ). neg_ℤ (pos k)) (natural_said (suc n) h)

starts : (x : ℤ) → (get_or (integer x) 0 0 ≡ 32 → ⊥)
unfolding text
starts (pos n) e = omega (arith, first_of n)
starts (negsuc n) e = omega arith

some : (x : ℤ) → 1 ≤ length (integer x)
unfolding text
some (pos n) = natural_some n
some (negsuc n) = omega arith

integer_said : (x : ℤ) → nat_abs x < 10 ^ 20 → signed_said (integer x) ≡ x
integer_said (pos n) h = plain n h
integer_said (negsuc n) h = minus n h

-- of any signed 64 bits, and of any size below 10^20
pub figure_back : (x : ℤ) → nat_abs x < 10 ^ 20 → length (integer x) ≤ 16 → read_figure (figure x) ≡ x
figure_back x h few =
    ap read_figure (placed_there (integer x) few)
    ∙ ap signed_said (behind_all (16 - length (integer x)) (integer x) (some x) (starts x))
    ∙ integer_said x h

-- ---- HASHES EXACTLY FOR MORE THAN 16 CHARACTERS
pub hashes_for_more : (x : ℤ) → 16 < length (integer x) → figure x ≡ hashes 16
hashes_for_more x h = placed_hashes (integer x) h

-- a number's first byte is a minus or a digit, and no hash
no_hash : (x : ℤ) → (get_or (integer x) 0 0 ≡ 35 → ⊥)
unfolding text
no_hash (pos n) e = omega (arith, first_of n)
no_hash (negsuc n) e = omega arith

unhashed : (k : ℕ) (bs : List ℕ) → 1 ≤ length bs → (get_or bs 0 0 ≡ 35 → ⊥) → spaces k ++ bs ≡ hashes 16 → ⊥
unfolding repeated
unhashed zero [] h none e = omega arith
unhashed zero (b ∷ bs) h none e = none (ap (λ (l : List ℕ). get_or l 0 0) e)
unhashed (suc k) bs h none e = absurd (omega (arith, ap (λ (l : List ℕ). get_or l 0 0) e))

pub hashes_only_for_more : (x : ℤ) → figure x ≡ hashes 16 → 16 < length (integer x)
hashes_only_for_more x e = go (leb (length (integer x)) 16) refl
  where
    go : (t : Bool) → leb (length (integer x)) 16 ≡ t → 16 < length (integer x)
    go true few =
        absurd
        (unhashed (16 - length (integer x)) (integer x) (some x) (no_hash x)
        (sym (placed_there (integer x) (leb-true (length (integer x)) 16 few)) ∙ e))
    go false more = leb-false (length (integer x)) 16 more

-- ---- UNKNOWN EXACTLY FOR NUMBERS THAT NO REFUSAL HAS
-- no phrase of a refusal has the third byte of `unknown`; a refusal without a phrase of its own would
third : List ℕ → ℕ
third said = get_or said 2 0

pub known_not_unknown : (refusal : Refusal) → phrase (number refusal) ≡ unknown → ⊥
unfolding phrase text third
known_not_unknown r.EndsEarly e = absurd (omega (arith, ap third e))
known_not_unknown r.WrongMark e = absurd (omega (arith, ap third e))
known_not_unknown r.WrongTable e = absurd (omega (arith, ap third e))
known_not_unknown r.BytesFollow e = absurd (omega (arith, ap third e))
known_not_unknown r.WrongCount e = absurd (omega (arith, ap third e))
known_not_unknown r.SettingsField e = absurd (omega (arith, ap third e))
known_not_unknown r.UnitNotRising e = absurd (omega (arith, ap third e))
known_not_unknown r.RequirementField e = absurd (omega (arith, ap third e))
known_not_unknown r.WrongState e = absurd (omega (arith, ap third e))
known_not_unknown r.TooShort e = absurd (omega (arith, ap third e))
known_not_unknown r.AverageTooLow e = absurd (omega (arith, ap third e))
known_not_unknown r.YearPast e = absurd (omega (arith, ap third e))
known_not_unknown r.WrongGroup e = absurd (omega (arith, ap third e))
known_not_unknown r.WrongWeek e = absurd (omega (arith, ap third e))
known_not_unknown (r.WrongRow column) e = absurd (omega (arith, ap third e))
known_not_unknown r.FrequencyHeader e = absurd (omega (arith, ap third e))
known_not_unknown r.FrequencyDefault e = absurd (omega (arith, ap third e))
known_not_unknown r.FrequencyQuality e = absurd (omega (arith, ap third e))
known_not_unknown (r.FrequencyPoint t) e = absurd (omega (arith, ap third e))
known_not_unknown r.UnitHeader e = absurd (omega (arith, ap third e))
known_not_unknown r.UnitDefault e = absurd (omega (arith, ap third e))
known_not_unknown r.UnitQuality e = absurd (omega (arith, ap third e))
known_not_unknown (r.UnitReading t) e = absurd (omega (arith, ap third e))

-- a number that is not the least possible is at least the next
next_least : (least n : ℕ) → least ≤ n → (n ≡ least → ⊥) → least + 1 ≤ n
next_least least n h other = go (ltb least n) refl
  where
    go : (t : Bool) → ltb least n ≡ t → least + 1 ≤ n
    go true e = omega (arith, ltb-true least n e)
    go false e = absurd (other (omega (arith, h, ltb-false least n e)))

module _ (n : ℕ) (nobody : (refusal : Refusal) → number refusal ≡ n → ⊥) where
  -- none of four numbers in a row
  apart : (first : ℕ) (a b c d : Refusal) → number a ≡ first → number b ≡ first + 1 → number c ≡ first + 2 → number d ≡ first + 3 →
      between first (first + 3) n ≡ false
  apart first a b c d p q s t = go (between first (first + 3) n) refl
    where
      past : first ≤ n → first + 4 ≤ n
      past h =
          let one = next_least first n h (λ e. nobody a (p ∙ sym e)) in
          let two = next_least (first + 1) n one (λ e. nobody b (q ∙ sym e)) in
          let three = next_least (first + 2) n (omega (arith, two)) (λ e. nobody c (s ∙ sym e)) in
          let four = next_least (first + 3) n (omega (arith, three)) (λ e. nobody d (t ∙ sym e)) in
          omega (arith, four)

      go : (x : Bool) → between first (first + 3) n ≡ x → between first (first + 3) n ≡ false
      go false e = e
      go true e =
          let low = leb-true first n (both_first (leb first n) (leb n (first + 3)) e) in
          let high = leb-true n (first + 3) (both_second (leb first n) (leb n (first + 3)) e) in
          absurd (omega (arith, past low, high))

  pub unknown_for_nobody : phrase n ≡ unknown
  unknown_for_nobody =
      phrase_unknown n
      (record {
        not_one = λ e. nobody r.EndsEarly (sym e);
        not_two = λ e. nobody r.WrongMark (sym e);
        not_three = λ e. nobody r.WrongTable (sym e);
        not_four = λ e. nobody r.BytesFollow (sym e);
        not_five = λ e. nobody r.WrongCount (sym e);
        not_six = λ e. nobody r.SettingsField (sym e);
        not_nine = λ e. nobody r.UnitNotRising (sym e);
        not_ten = λ e. nobody r.RequirementField (sym e);
        not_eleven = λ e. nobody r.WrongState (sym e);
        not_twelve = λ e. nobody r.TooShort (sym e);
        not_fourteen = λ e. nobody r.AverageTooLow (sym e);
        not_fifteen = λ e. nobody r.YearPast (sym e);
        not_sixteen = λ e. nobody r.WrongGroup (sym e);
        not_seventeen = λ e. nobody r.WrongWeek (sym e);
        not_eighteen = λ e. nobody (r.WrongRow 1) (sym e);
      })
      (apart 71 r.FrequencyHeader r.FrequencyDefault r.FrequencyQuality (r.FrequencyPoint 1) refl refl refl refl)
      (apart 81 r.UnitHeader r.UnitDefault r.UnitQuality (r.UnitReading 1) refl refl refl refl)
