-- Laws of the definitions in specs/Weekly.antt.
use Rattle.std.specs.Prelude.{Result, Ok, Err, ⊤}
use Rattle.rules.specs.declared.Refusal.{Refusal}
use mathlib.Core.Path.{◌≡◌, refl, sym, ◌∙◌, ap}
use mathlib.Core.Bool.{Bool, true, false}
use mathlib.Core.List.{List, [], ◌∷◌}
use Prim.Native.Nat.{ℕ, zero, suc, ◌+◌, ◌*◌, ◌/◌, ◌%◌, ◌≤◌, ◌<◌}
use native.Mathlib.Omega.{arith}
use lib.Dec.{leb, ltb}
use lib.IntN.{ℤ}
use lib.ListN.{length, get_or, set, drop}
use borrow.Author.Tests.{leb-true, leb-false, ltb-true, ltb-false, le-leb, lt-leb, lt-ltb, le-ltb}
use Rattle.integers.proofs.Division.{remains}
use Rattle.rules.specs.declared.Refusal.TheVariants.{WrongState, TooShort}
use Rattle.rules.specs.declared.RunningWeek.{RunningWeek}
use Rattle.rules.specs.declared.WeekDefault.{WeekDefault}
use Rattle.rules.specs.declared.Whose.TheVariants.{Group}
use Rattle.rules.specs.Refusals.{Reply, taken, refused, number}
use Rattle.rules.specs.Week.{interval, list_reply}
use Rattle.rules.specs.RunningWeek.{add_reply, read_reply}
use Rattle.rules.specs.WeekRoster.{whose_of}
use Rattle.interval.specs.Calls.{left}
use Rattle.weeks.specs.Runs.{units_of}
use Rattle.weeks.proofs.Runs.{added_as_group}
use Rattle.weeks.specs.Promises.{told_of, added_of, written_of, reply_to, RosterPromise, WeekPromise, AddPromise, ReadPromise}
use Rattle.dullavane.specs.Words.{reply_number}
use Rattle.dullavane.specs.Weekly.{
  WeekAddCalled,
  WeekCalled,
  WeekHeld,
  WeekReadCalled,
  WeeksCalled,
  added_number,
  default_after,
  default_numbers,
  fields_of,
  flag,
  told_number,
  week_after,
  week_held,
  week_words,
  with_default,
  with_week,
}

pub dullavane_week_only :
    {m : ℕ} {ps : List ℤ} {bits : List ℕ} {xs : List ℤ} {r r₂ : ℕ} {xs' xs₂ : List ℤ} → WeekCalled m ps bits xs r xs' → WeekCalled m ps bits xs r₂ xs₂ →
    (r ≡ r₂) × (xs' ≡ xs₂)
dullavane_week_only a b = (a.reply ∙ sym b.reply, a.numbers ∙ sym b.numbers)

-- a roster's
module _ (n : ℕ) (ms : List ℕ) (ps : List ℤ) (bits counts : List ℕ) (defaults : List ℤ) where
  pub dullavane_weeks_only :
      {r r₂ : ℕ} {counts' counts₂ : List ℕ} {defaults' defaults₂ : List ℤ} → (WeeksCalled n ms ps bits counts defaults) r counts' defaults' →
      (WeeksCalled n ms ps bits counts defaults) r₂ counts₂ defaults₂ →
      (r ≡ r₂) × (counts' ≡ counts₂) × (defaults' ≡ defaults₂)
  dullavane_weeks_only a b = (a.reply ∙ sym b.reply, a.counted ∙ sym b.counted, a.averaged ∙ sym b.averaged)

pub dullavane_week_add_only :
    {m live : ℕ} {p : ℤ} {ws : List ℕ} {r r₂ : ℕ} {ws' ws₂ : List ℕ} → WeekAddCalled m live p ws r ws' → WeekAddCalled m live p ws r₂ ws₂ →
    (r ≡ r₂) × (ws' ≡ ws₂)
dullavane_week_add_only a b = (a.reply ∙ sym b.reply, a.words ∙ sym b.words)

pub dullavane_week_read_only :
    {m : ℕ} {ws : List ℕ} {xs : List ℤ} {r r₂ : ℕ} {xs' xs₂ : List ℤ} → WeekReadCalled m ws xs r xs' → WeekReadCalled m ws xs r₂ xs₂ → (r ≡ r₂) × (xs' ≡ xs₂)
dullavane_week_read_only a b = (a.reply ∙ sym b.reply, a.numbers ∙ sym b.numbers)

abbrev pub written_number : Result ⊤ Refusal → ℕ
written_number (Ok tt) = 0
written_number (Err r) = number r

written_is : {A : Type 0} (y : Reply A) → written_number (written_of y) ≡ reply_number y
written_is (taken a) = refl
written_is (refused r) = refl

told_is : (y : Reply WeekDefault) (xs : List ℤ) → (told_number (told_of y) ≡ reply_number y) × (default_after (told_of y) xs ≡ left with_default y xs)
told_is (taken d) xs = (refl, refl)
told_is (refused r) xs = (refl, refl)

added_is : (y : Reply RunningWeek) (ws : List ℕ) → (added_number (added_of y) ≡ reply_number y) × (week_after (added_of y) ws ≡ left with_week y ws)
added_is (taken w) ws = (refl, refl)
added_is (refused r) ws = (refl, refl)

pub week_short : (ws : List ℕ) → length ws < week_words → week_held ws ≡ refused TooShort
unfolding week_held
week_short ws h = rw (lt-leb week_words (length ws) h)

pub week_wide : (ws : List ℕ) → week_words ≤ length ws → 281_474_976_710_656 ≤ get_or ws 1 0 → week_held ws ≡ refused WrongState
unfolding week_held
week_wide ws h l = rw (le-leb week_words (length ws) h, le-ltb (get_or ws 1 0) 281_474_976_710_656 l)

pub week_there : (ws : List ℕ) → week_words ≤ length ws → get_or ws 1 0 < 281_474_976_710_656 → WeekHeld ws
unfolding week_held
week_there ws h l =
    record { long = h; narrow = l; week = rw (le-leb week_words (length ws) h, lt-ltb (get_or ws 1 0) 281_474_976_710_656 l) }

-- known by the number of their refusal
pub week_held_means : (ws : List ℕ) {r : ℕ} → r ≡ reply_number (week_held ws) → r ≡ 0 → WeekHeld ws
week_held_means ws e none = go (leb week_words (length ws)) refl (ltb (get_or ws 1 0) 281_474_976_710_656) refl
  where
    twelve : ◌≡◌ {A = ℕ} 12 0 → WeekHeld ws
    twelve e = absurd (omega arith)

    eleven : ◌≡◌ {A = ℕ} 11 0 → WeekHeld ws
    eleven e = absurd (omega arith)

    go : (x : Bool) → leb week_words (length ws) ≡ x → (y : Bool) → ltb (get_or ws 1 0) 281_474_976_710_656 ≡ y → WeekHeld ws
    go true l true n = week_there ws (leb-true week_words (length ws) l) (ltb-true (get_or ws 1 0) 281_474_976_710_656 n)
    go true l false n = eleven (sym (ap reply_number (week_wide ws (leb-true week_words (length ws) l) (ltb-false (get_or ws 1 0) 281_474_976_710_656 n)))
        ∙ sym e ∙ none)
    go false l y n = twelve (sym (ap reply_number (week_short ws (leb-false week_words (length ws) l))) ∙ sym e ∙ none)

-- no fewer words hold one
pub week_long : (ws : List ℕ) {w : RunningWeek} → week_held ws ≡ taken w → week_words ≤ length ws
week_long ws e = (week_held_means ws (sym (ap reply_number e)) refl).long

-- what an added interval leaves in the words is the running week that the next call reads there
pub week_kept : (r : RunningWeek) (ws : List ℕ) → r.seen < 65_536 → r.live < 65_536 → r.high < 65_536 → week_held (with_week r ws) ≡ taken r
week_kept r ws s l h =
    (week_there (with_week r ws) (omega arith) (omega arith)).week ∙ ap taken (same (fields_of r) refl)
  where
    same : (f : ℕ) → f ≡ fields_of r → record { seen = f % 65_536; live = f / 65_536 % 65_536; high = f / 4_294_967_296; low = r.low } ≡ r
    same f e =
        let a : f % 65_536 ≡ r.seen = omega arith in
        let q : f / 65_536 ≡ r.live + 65_536 * r.high = omega arith in
        let b : f / 65_536 % 65_536 ≡ r.live = remains {q = r.high} (record { is = omega arith; small = l }) in
        let c : f / 4_294_967_296 ≡ r.high = omega arith in
        rw (a, b, c)

-- every number but 0 is that of the units
pub units_in : (n : ℕ) → (n ≡ 0 → ⊥) → n ≡ units_of (whose_of n)
units_in zero some = absurd (some refl)
units_in (suc zero) some = refl
units_in (suc (suc k)) some = refl

-- two stores in a row
pub two_stores : {A : Type 0} (xs : List A) (a b : A) → 2 ≤ length xs → set (set xs 0 a) 1 b ≡ a ∷ b ∷ drop 2 xs
two_stores (x ∷ y ∷ xs) a b long = refl
two_stores (x ∷ []) a b long = absurd (omega arith)
two_stores [] a b long = absurd (omega arith)

-- ---- how the promises are met
module _ (m : ℕ) (ps : List ℤ) (bits : List ℕ) (xs : List ℤ) where
  pub week_no_room : length xs < default_numbers → {r : ℕ} → r ≡ 12 → WeekCalled m ps bits xs r xs
  week_no_room h e = let l = lt-leb default_numbers (length xs) h in record { reply = e ∙ rw l; numbers = rw l }

  pub week_told :
      default_numbers ≤ length xs → (t : Result WeekDefault Refusal) → WeekPromise (whose_of m) ps bits t → {r : ℕ} {xs' : List ℤ} → r ≡ told_number t → xs' ≡ default_after t xs →
      WeekCalled m ps bits xs r xs'
  week_told h t p e f =
      let l = le-leb default_numbers (length xs) h in
      let k = told_is (list_reply (whose_of m) ps bits) xs in
      record { reply = e ∙ rw l (ap told_number p.reply ∙ k.0); numbers = f ∙ rw l (ap (λ (t : Result WeekDefault Refusal). default_after t xs) p.reply ∙ k.1) }

module _ (n : ℕ) (ms : List ℕ) (ps : List ℤ) (bits counts : List ℕ) (defaults : List ℤ) where
  pub weeks_told :
      (t : Result ⊤ Refusal) {counts' : List ℕ} {defaults' : List ℤ} → RosterPromise n ms ps bits counts defaults t counts' defaults' → {r : ℕ} →
      r ≡ written_number t → WeeksCalled n ms ps bits counts defaults r counts' defaults'
  weeks_told t p e = record {
    reply = e ∙ ap written_number p.reply ∙ written_is
        (reply_to n ms ps bits counts defaults);
    counted = p.counted;
    averaged = p.averaged;
  }

module _ (m live : ℕ) (p : ℤ) (ws : List ℕ) where
  pub add_unheld : {x : Refusal} {r : ℕ} → week_held ws ≡ refused x → r ≡ number x → WeekAddCalled m live p ws r ws
  add_unheld h e = record { reply = e ∙ rw h; words = rw h }

  pub add_refused : (reply_number (week_held ws) ≡ 0 → ⊥) → {r : ℕ} → r ≡ reply_number (week_held ws) → WeekAddCalled m live p ws r ws
  add_refused some {r} e = go (week_held ws) refl some
    where
      go : (y : Reply RunningWeek) → week_held ws ≡ y → (reply_number y ≡ 0 → ⊥) → WeekAddCalled m live p ws r ws
      go (taken w) f some = absurd (some refl)
      go (refused why) f some = add_unheld f (e ∙ ap reply_number f)

  pub add_told :
      (w : RunningWeek) → week_held ws ≡ taken w → (t : Result RunningWeek Refusal) →
      AddPromise (Group (units_of (whose_of m))) (flag live) p w t → {r : ℕ} {ws' : List ℕ} → r ≡ added_number t →
      ws' ≡ week_after t ws → WeekAddCalled m live p ws r ws'
  add_told w h t q e f =
      let k = added_is (add_reply (whose_of m) (interval (flag live) p) w) ws in
      let same : t ≡ added_of (add_reply (whose_of m) (interval (flag live) p) w) =
      q.reply ∙ ap added_of (added_as_group (whose_of m) (interval (flag live) p) w) in
      record { reply = e ∙ rw h (ap added_number same ∙ k.0); words = f ∙ rw h (ap (λ (t : Result RunningWeek Refusal). week_after t ws) same ∙ k.1) }

module _ (m : ℕ) (ws : List ℕ) (xs : List ℤ) where
  pub read_no_room : length xs < default_numbers → {r : ℕ} → r ≡ 12 → WeekReadCalled m ws xs r xs
  read_no_room h e = let l = lt-leb default_numbers (length xs) h in record { reply = e ∙ rw l; numbers = rw l }

  pub read_unheld :
      default_numbers ≤ length xs → {x : Refusal} {r : ℕ} → week_held ws ≡ refused x → r ≡ number x → WeekReadCalled m ws xs r xs
  read_unheld h f e = let l = le-leb default_numbers (length xs) h in record { reply = e ∙ rw (l, f); numbers = rw (l, f) }

  pub read_told :
      default_numbers ≤ length xs → (w : RunningWeek) → week_held ws ≡ taken w → (t : Result WeekDefault Refusal) → ReadPromise (whose_of m) w t → {r : ℕ} {xs' : List ℤ} →
      r ≡ told_number t → xs' ≡ default_after t xs → WeekReadCalled m ws xs r xs'
  read_told h w held t q e f =
      let l = le-leb default_numbers (length xs) h in
      let k = told_is (read_reply (whose_of m) w) xs in
      record {
        reply = e ∙ rw (l, held) (ap told_number q.reply ∙ k.0);
        numbers = f ∙ rw (l, held)
            (ap (λ (t : Result WeekDefault Refusal). default_after t xs) q.reply ∙ k.1);
      }
