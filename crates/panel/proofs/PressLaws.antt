-- Laws of a key press: how turning to the page and the press meet their promises, and what is known of a page that is drawn and of a short text.
use Rattle.std.specs.Prelude.{Result, Ok, Err, ⊤}
use mathlib.Core.Path.{◌≡◌, refl, ◌∙◌, ap}
use mathlib.Core.Bool.{Bool, true, false, ◌&&◌}
use mathlib.Core.List.{List}
use Prim.Native.Nat.{ℕ, ◌≤◌, ◌<◌}
use native.Mathlib.Omega.{arith}
use lib.Dec.{eqb, leb, ltb}
use lib.ListN.{length}
use borrow.Author.Tests.{leb-true, ltb-true, le-leb, eqb-true, eq-eqb, ne_eqb}
use Rattle.integers.specs.Sums.{both}
use Rattle.rules.specs.declared.Page.{Page}
use Rattle.rules.specs.declared.Key.{Key}
use Rattle.rules.specs.declared.Refusal.{Refusal}
use Rattle.rules.specs.declared.Refusal.TheVariants.{WrongState, TooShort}
use Rattle.rules.specs.Refusals.{Reply, taken, refused, ◌>>=◌}
use Rattle.rules.specs.Book.{Requirement}
use Rattle.rules.specs.RequirementRecord.{requirement_record}
use Rattle.rules.specs.Panel.{page_places}
use Rattle.laws.proofs.LimitsLaws.{passed, took}
use Rattle.interval.specs.declared.Tally.{Tally}
use Rattle.interval.specs.Tally.{in_range, answer_turn}
use Rattle.interval.specs.Lent.{Lent, figures_length}
use Rattle.answer.proofs.CallLaws.{record_fine}
use Rattle.pages.specs.Promises.{Draws}
use Rattle.panel.specs.declared.Shown.{Shown}
use Rattle.panel.specs.Press.{
  Cents,
  press_long_by,
  press_long,
  press_fine,
  shown_page,
  members_of,
  members_told,
  press_reply,
  page_then,
  pressed_as,
  PressPromise,
}
use Rattle.panel.specs.Past.{Ready}
use Rattle.panel.specs.Turned.{told_as, TurnPromise}
use Rattle.panel.proofs.KeysLaws.{step_there}

-- ---- turning to the page
module _ (p : Page) (key : Key) (book units : ℕ) (q : Requirement) (s : Shown) (l : Lent) (c : Cents) (old : List ℕ) where
  pub another_number : (s.members ≡ members_of units l.homes q → ⊥) → TurnPromise p key book units q s l c old (Err WrongState) old
  another_number h = let e = ne_eqb s.members (members_of units l.homes q) h in record { reply = rw e; written = rw e }

  pub turned :
      {r : Result ⊤ Refusal} {new : List ℕ} → s.members ≡ members_of units l.homes q → page_places ≤ length old →
      Draws page_places (shown_page units l q s c (page_then p key book s q).page) old r new →
      TurnPromise p key book units q s l c old (told_as (page_then p key book s q) r) new
  turned e room d =
      let told = eq-eqb s.members (members_of units l.homes q) e in
      let fits = le-leb page_places (length old) room in
      record {
        reply = rw told (ap (told_as (page_then p key book s q)) (rw fits at d.reply));
        written = rw told (rw fits at d.written);
      }

-- ---- long enough
pub long_means :
    (units figures numbers homes payments used unused text : ℕ) → press_long_by units figures numbers homes payments used unused text ≡ true →
    (figures_length ≤ figures) × (units ≤ numbers) × (units ≤ homes) × (units < payments) × (units < used) × (units < unused) × (page_places ≤ text)
long_means units figures numbers homes payments used unused text e =
    let a = both (leb figures_length figures) _ e in
    let b = both (leb units numbers) _ a.1 in
    let c = both (leb units homes) _ b.1 in
    let d = both (ltb units payments) _ c.1 in
    let f = both (ltb units used) _ d.1 in
    let g = both (ltb units unused) _ f.1 in
    (leb-true _ _ a.0, leb-true _ _ b.0, leb-true _ _ c.0, ltb-true _ _ d.0, ltb-true _ _ f.0, ltb-true _ _ g.0, leb-true _ _ g.1)

-- ---- what is known of a page that is drawn: it is one of the requirement's, whose record was read, and the reply told as many members as it has
pub record PageThere (book : ℕ) (t : Tally) (part : List ℕ) (s : Shown) (l : Lent) (q : Requirement) (then : Page) : Type 0 where
  pub read : requirement_record 0 false part ≡ taken q
  pub told : s.members ≡ members_of t.units l.homes q
  pub page : then.page ≤ members_of t.units l.homes q
  pub of_book : then.book ≡ book
  pub of_requirement : then.requirement ≡ q.number

was_drawn :
    (y : Reply Requirement) (f : Requirement → Page) {then : Page} → Ok then ≡ pressed_as f y →
    (q : Requirement) × (y ≡ taken q) × (then ≡ f q)
was_drawn (taken q) f e = (q, refl, cc)
was_drawn (refused x) f e = let z : ◌≡◌ {A = ℕ} 0 1 = cc in absurd (omega arith)

was_told :
    (units : ℕ) (homes : List ℕ) (s : Shown) (y : Reply Requirement) {q : Requirement} → (y >>= members_told units homes s) ≡ taken q →
    (y ≡ taken q) × (s.members ≡ members_of units homes q)
was_told units homes s (taken r) {q} e =
    let n = passed (eqb s.members (members_of units homes r)) WrongState (taken r) q e in
    (n.1, eqb-true _ _ n.0 ∙ ap (members_of units homes) (took n.1))
was_told units homes s (refused x) e = let z : ◌≡◌ {A = ℕ} 0 1 = cc in absurd (omega arith)

-- ---- past the tests the record decides
module _ (t : Tally) (part : List ℕ) (s : Shown) (l : Lent) (c : Cents) (text : ℕ) where
  pub past_tests :
      {y : Reply Requirement} → (in_range t && answer_turn t) ≡ true → press_long t.units l c text ≡ true →
      press_fine t.interval t.units l.figures l.homes ≡ true → requirement_record 0 false part ≡ y →
      press_reply t part s l c text ≡ (y >>= members_told t.units l.homes s)
  unfolding press_reply
  past_tests turn long fine e = rw (turn, long, fine, e)

  pub ready :
      {q : Requirement} → (in_range t && answer_turn t) ≡ true → press_long t.units l c text ≡ true →
      press_fine t.interval t.units l.figures l.homes ≡ true → requirement_record 0 false part ≡ taken q → Ready t q.set l c text
  ready {q} turn long fine e =
      let m = long_means t.units (length l.figures) (length l.numbers) (length l.homes) (length c.payments) (length c.used)
      (length c.unused) text long in
      record {
        roster = record { turn = turn; set = (record_fine part q e).set; figures = m.0; numbers = m.1; homes = m.2; fine = fine };
        payments = m.3;
        used = m.4;
        unused = m.5;
        room = m.6;
      }

-- ---- the press, by its reply
module _ (p : Page) (key : Key) (book : ℕ) (t : Tally) (part : List ℕ) (s : Shown) (l : Lent) (c : Cents) (old : List ℕ) where
  pub refuses : (x : Refusal) → press_reply t part s l c (length old) ≡ refused x → PressPromise p key book t part s l c old (Err x) old
  refuses x e = record { reply = rw e; written = rw e }

  pub turns :
      {q : Requirement} {r : Result Page Refusal} {new : List ℕ} → press_reply t part s l c (length old) ≡ members_told t.units l.homes s q →
      TurnPromise p key book t.units q s l c old r new → PressPromise p key book t part s l c old r new
  turns e w = record { reply = rw e w.reply; written = rw e w.written }

  pub page_there :
      {then : Page} {new : List ℕ} → PressPromise p key book t part s l c old (Ok then) new → (q : Requirement) × PageThere book t part s l q then
  unfolding press_reply
  page_there {then} w =
      let drawn = was_drawn (press_reply t part s l c (length old)) (page_then p key book s) w.reply in
      let q = drawn.0 in
      let turn = passed (in_range t && answer_turn t) WrongState _ q drawn.1 in
      let long = passed (press_long t.units l c (length old)) TooShort _ q turn.1 in
      let fine = passed (press_fine t.interval t.units l.figures l.homes) WrongState _ q long.1 in
      let read = was_told t.units l.homes s (requirement_record 0 false part) fine.1 in
      let then_is = drawn.2 in
      let there = step_there p key book q.number s.members in (
        q,
        record {
          read = read.0;
          told = read.1;
          page = omega (arith, ap (λ (x : Page). x.page) then_is, there.0, read.1);
          of_book = ap (λ (x : Page). x.book) then_is ∙ there.1.0;
          of_requirement = ap (λ (x : Page). x.requirement) then_is ∙ there.1.1;
        },
      )

  -- ---- a short text, of a book at its turn, is told, and kept
  pub refused_kept :
      {r : Result Page Refusal} {new : List ℕ} → (in_range t && answer_turn t) ≡ true → length old < page_places → PressPromise p key book t part s l c old r new →
      (r ≡ Err TooShort) × (new ≡ old)
  unfolding press_reply
  refused_kept turn short w =
      let long = too_short (press_long t.units l c (length old)) refl in
      (rw (turn, long) at w.reply, rw (turn, long) at w.written)
    where
      too_short : (b : Bool) → press_long t.units l c (length old) ≡ b → b ≡ false
      too_short true e =
          let m = long_means t.units (length l.figures) (length l.numbers) (length l.homes) (length c.payments) (length c.used)
          (length c.unused) (length old) e in
          absurd (omega (arith, short, m.6))
      too_short false e = refl
