-- Parts that start with the same record are read the same, and so the calls answer the same: no reader looks behind its record, but for the last requirement's,
-- which asks whether a byte follows. So a part may be handed on whole or cut behind its record.
use Rattle.std.specs.Prelude.{Result}
use mathlib.Core.Path.{◌≡◌, refl, sym, ◌∙◌, ap, ap₂}
use mathlib.Core.Bool.{Bool, true, false, cond}
use mathlib.Core.List.{List}
use Prim.Native.Nat.{ℕ, zero, suc, ◌+◌, ◌*◌, ◌/◌, ◌≤◌, ◌<◌, min}
use native.Mathlib.Omega.{arith}
use lib.Dec.{eqb, leb}
use lib.ListN.{length, take, length-take}
use lib.Seq.{get_or-take, take-take}
use borrow.Author.Tests.{le-leb, lt-leb, leb-true, leb-false, eq-eqb, ne_eqb, eqb-true, eqb-false}
use Rattle.rules.specs.declared.Refusal.{Refusal}
use Rattle.rules.specs.declared.Refusal.TheVariants.{EndsEarly, WrongMark, WrongTable}
use Rattle.rules.specs.Quantities.{points, regions}
use Rattle.rules.specs.Bytes.{number_at, signed, integer_at}
use Rattle.laws.proofs.BytesLaws.{number_step, number_none}
use Rattle.rules.specs.Refusals.{Reply, taken, unless}
use Rattle.rules.specs.Contents.{contents, contents_size, mark, entry, items, settings_size, frequency_size, unit_size, requirement_size}
use Rattle.rules.specs.SettingsRecord.{settings}
use Rattle.rules.specs.Fields.{quality_in, three_in, defaults_in}
use Rattle.rules.specs.FrequencyRecord.{region_in, frequency_record}
use Rattle.rules.specs.UnitRecord.{unit_in, unit_record}
use Rattle.rules.specs.RequirementRecord.{requirement_in, requirement_record}
use Rattle.interval.specs.declared.Tally.{Tally}
use Rattle.interval.specs.declared.Step.{Step}
use Rattle.interval.specs.Tally.{next_region, book_end}
use Rattle.interval.specs.Lent.{Lent, named_region, named_group}
use Rattle.interval.specs.Calls.{settings_reply, frequency_reply, unit_reply, requirement_reply}
use Rattle.interval.specs.Promises.{ContentsPromise, SettingsPromise, FrequencyPromise, UnitPromise, RequirementPromise}
use Rattle.chain.proofs.ChainLaws.{listed_ext}
use Rattle.chain.specs.Taken.{counts_in}
use Rattle.chain.specs.Alike.{Alike}

pub alike_back : {bytes : ℕ} {p q : List ℕ} → Alike bytes p q → Alike bytes q p
alike_back a = record { starts = sym a.starts }

-- a part that is whole, and one that is cut anywhere behind those bytes
pub whole : (bytes : ℕ) (p : List ℕ) → Alike bytes p p
whole bytes p = record { starts = refl }

pub cut_behind : (bytes k : ℕ) (p : List ℕ) → bytes ≤ k → Alike bytes (take k p) p
cut_behind bytes k p h = record { starts = take-take bytes k p h }

-- ---- what is read of the first k bytes
module _ (k : ℕ) (xs : List ℕ) where
  number_cut : (n place : ℕ) → place + n ≤ k → number_at n place (take k xs) ≡ number_at n place xs
  number_cut zero place h = number_none place (take k xs) ∙ sym (number_none place xs)
  number_cut (suc n) place h =
      number_step n place (take k xs)
      ∙ ap₂ (λ (a b : ℕ). a + 256 * b) (get_or-take k xs place 0 (omega arith)) (number_cut n (place + 1) (omega arith))
      ∙ sym (number_step n place xs)

  whole_cut : (size : ℕ) → size ≤ k → leb size (length (take k xs)) ≡ leb size (length xs)
  whole_cut size h = ap (leb size) (length-take k xs) ∙ go (leb size (length xs)) refl
    where
      go : (t : Bool) → leb size (length xs) ≡ t → leb size (min k (length xs)) ≡ t
      go true e = le-leb size (min k (length xs)) (omega (arith, leb-true size (length xs) e))
      go false e = lt-leb size (min k (length xs)) (omega (arith, leb-false size (length xs) e))

  ends_cut : (size : ℕ) → size + 1 ≤ k → eqb (length (take k xs)) size ≡ eqb (length xs) size
  ends_cut size h = ap (λ (n : ℕ). eqb n size) (length-take k xs) ∙ go (eqb (length xs) size) refl
    where
      go : (t : Bool) → eqb (length xs) size ≡ t → eqb (min k (length xs)) size ≡ t
      go true e = eq-eqb (min k (length xs)) size (omega (arith, eqb-true (length xs) size e))
      go false e = ne_eqb (min k (length xs)) size (λ f. eqb-false (length xs) size e (omega arith))

unless_same :
    {A : Type 0} (why : Refusal) {test test' : Bool} {rest rest' : Reply A} → test ≡ test' → rest ≡ rest' → unless test why rest ≡ unless test' why rest'
unless_same {A} why e f = ap₂ (λ (t : Bool) (r : Reply A). unless t why r) e f

module _ {k : ℕ} {p q : List ℕ} (a : Alike k p q) where
  by_start : {A : Type 0} (f : List ℕ → A) → ((xs : List ℕ) → f (take k xs) ≡ f xs) → f p ≡ f q
  by_start f e = sym (e p) ∙ ap f a.starts ∙ e q

  -- numbers and lengths
  number_same : (n place : ℕ) → place + n ≤ k → number_at n place p ≡ number_at n place q
  number_same n place h = by_start (number_at n place) (λ xs. number_cut k xs n place h)

  whole_same : (size : ℕ) → size ≤ k → leb size (length p) ≡ leb size (length q)
  whole_same size h = by_start (λ xs. leb size (length xs)) (λ xs. whole_cut k xs size h)

  ends_same : (size : ℕ) → size + 1 ≤ k → eqb (length p) size ≡ eqb (length q) size
  ends_same size h = by_start (λ xs. eqb (length xs) size) (λ xs. ends_cut k xs size h)

  -- fields
  quality_same : (place : ℕ) → place + 10 ≤ k → quality_in place p ≡ quality_in place q
  quality_same place h = listed_ext 0 points _ _ (λ t b. rw (number_same 1 (place + t / 8) (omega arith)))

  three_same : (place : ℕ) → place + 24 ≤ k → three_in place p ≡ three_in place q
  three_same place h = rw (number_same 8 place (omega arith), number_same 8 (place + 8) (omega arith), number_same 8 (place + 16) (omega arith))

  defaults_same : (place : ℕ) → place + 48 ≤ k → defaults_in place p ≡ defaults_in place q
  defaults_same place h = rw (three_same place (omega arith), three_same (place + 24) (omega arith))

  -- the table of contents
  entry_same :
      {A : Type 0} (place kind least most : ℕ) {start start' : ℕ} (size : ℕ) {rest rest' : Reply A} → place + 12 ≤ k → start ≡ start' → rest ≡ rest' →
      entry place kind least most start size p rest ≡ entry place kind least most start' size q rest'
  entry_same place kind least most size h e f =
      rw (
        number_same 2 place (omega arith),
        number_same 2 (place + 2) (omega arith),
        number_same 4 (place + 4) (omega arith),
        number_same 4 (place + 8) (omega arith),
        e,
        f,
      )

  pub counts_same : contents_size ≤ k → counts_in p ≡ counts_in q
  counts_same h = ap₂ (λ (u r : ℕ). record { units = u; requirements = r }) (number_same 2 34 (omega arith)) (number_same 2 46 (omega arith))

  contents_same : contents_size ≤ k → contents p ≡ contents q
  unfolding contents
  contents_same h =
      let units : items 32 p ≡ items 32 q = number_same 2 34 (omega arith) in
      unless_same EndsEarly (whole_same contents_size h)
      (unless_same WrongMark (ap (λ (x : ℕ). eqb x mark) (number_same 4 0 (omega arith)))
      (unless_same WrongTable (ap (λ (x : ℕ). eqb x 4) (number_same 2 4 (omega arith)))
      (unless_same WrongTable (ap (λ (x : ℕ). eqb x 0) (number_same 2 6 (omega arith)))
      (entry_same 8 1 1 1 _ (omega arith) refl
      (entry_same 20 2 5 5 _ (omega arith) refl
      (entry_same 32 3 0 _ _ (omega arith) refl
      (entry_same 44 4 1 _ _ (omega arith) (rw units)
      (ap taken (counts_same h)))))))))

  -- the records
  settings_same : settings_size ≤ k → settings p ≡ settings q
  unfolding settings
  settings_same h =
      rw (
        whole_same settings_size h,
        number_same 2 0 (omega arith),
        number_same 1 2 (omega arith),
        number_same 1 3 (omega arith),
        number_same 4 4 (omega arith),
      )

  region_same : frequency_size ≤ k → region_in p ≡ region_in q
  unfolding region_in
  region_same h =
      let frequency : (t : ℕ) → t < 0 + points → number_at 4 (68 + 4 * t) p ≡ number_at 4 (68 + 4 * t) q = λ t b. number_same 4 (68 + 4 * t) (omega arith) in
      rw (
        number_same 1 1 (omega arith),
        quality_same 2 (omega arith),
        number_same 4 12 (omega arith),
        number_same 4 16 (omega arith),
        defaults_same 20 (omega arith),
        listed_ext 0 points (λ t. number_at 4 (68 + 4 * t) p) (λ t. number_at 4 (68 + 4 * t) q) frequency,
      )

  frequency_same : (position : ℕ) → frequency_size ≤ k → frequency_record position p ≡ frequency_record position q
  unfolding frequency_record
  frequency_same position h =
      rw (whole_same frequency_size h, number_same 1 0 (omega arith), number_same 1 1 (omega arith), number_same 1 11 (omega arith), region_same h)

  -- the region that a unit's part names
  named_same : 3 ≤ k → named_region p ≡ named_region q
  named_same h = ap₂ (λ (s : Bool) (r : ℕ). cond s r regions) (whole_same 3 h) (number_same 1 2 (omega arith))

  -- and the group
  group_same : 72 ≤ k → named_group p ≡ named_group q
  group_same h = ap₂ (λ (s : Bool) (r : ℕ). cond s r 0) (whole_same 72 h) (number_same 2 70 (omega arith))

  unit_in_same : unit_size ≤ k → unit_in p ≡ unit_in q
  unfolding unit_in
  unit_in_same h =
      let reading : (t : ℕ) → t < 0 + points → integer_at 4 (72 + 4 * t) p ≡ integer_at 4 (72 + 4 * t) q =
      λ t b. ap (signed 4) (number_same 4 (72 + 4 * t) (omega arith)) in
      rw (
        number_same 2 0 (omega arith),
        number_same 1 2 (omega arith),
        number_same 1 3 (omega arith),
        number_same 4 4 (omega arith),
        number_same 4 8 (omega arith),
        defaults_same 12 (omega arith),
        quality_same 60 (omega arith),
        number_same 2 70 (omega arith),
        listed_ext 0 points (λ t. integer_at 4 (72 + 4 * t) p) (λ t. integer_at 4 (72 + 4 * t) q) reading,
      )

  unit_same : (least : ℕ) → unit_size ≤ k → unit_record least p ≡ unit_record least q
  unfolding unit_record
  unit_same least h =
      rw (whole_same unit_size h, number_same 1 3 (omega arith), number_same 1 69 (omega arith), unit_in_same h)

  requirement_in_same : requirement_size ≤ k → requirement_in p ≡ requirement_in q
  unfolding requirement_in
  requirement_in_same h =
      rw (
        number_same 2 0 (omega arith),
        number_same 1 2 (omega arith),
        number_same 1 3 (omega arith),
        number_same 4 4 (omega arith),
        number_same 8 8 (omega arith),
        number_same 4 16 (omega arith),
        number_same 4 20 (omega arith),
      )

  pub requirement_same : (least : ℕ) (last : Bool) → requirement_size + cond last 1 0 ≤ k → requirement_record least last p ≡ requirement_record least last q
  unfolding requirement_record
  requirement_same least true h =
      rw (whole_same requirement_size (omega arith), number_same 1 3 (omega arith), requirement_in_same (omega arith), ends_same requirement_size h)
  requirement_same least false h = rw (whole_same requirement_size (omega arith), number_same 1 3 (omega arith), requirement_in_same (omega arith))

  -- ---- and the calls answer the same
  pub contents_alike : {r : Result Tally Refusal} → contents_size ≤ k → ContentsPromise p r → ContentsPromise q r
  contents_alike h w = record { reply = rw (contents_same h) at w.reply }

  module _ (t : Tally) where
    settings_reply_same : settings_size ≤ k → settings_reply t p ≡ settings_reply t q
    unfolding settings_reply
    settings_reply_same h = rw (settings_same h)

    pub settings_alike : {r : Step} → settings_size ≤ k → SettingsPromise t p r → SettingsPromise t q r
    settings_alike h w = record { reply = rw (settings_reply_same h) at w.reply }

    requirement_reply_same : requirement_size + cond (eqb (t.records + 1) (book_end t)) 1 0 ≤ k → requirement_reply t p ≡ requirement_reply t q
    unfolding requirement_reply
    requirement_reply_same h = rw (requirement_same t.least (eqb (t.records + 1) (book_end t)) h)

    pub requirement_alike :
        {r : Step} → requirement_size + cond (eqb (t.records + 1) (book_end t)) 1 0 ≤ k → RequirementPromise t p r → RequirementPromise t q r
    requirement_alike h w = record { reply = rw (requirement_reply_same h) at w.reply }

    frequency_reply_same : (l : Lent) → frequency_size ≤ k → frequency_reply t p l ≡ frequency_reply t q l
    unfolding frequency_reply
    frequency_reply_same l h = rw (frequency_same (next_region t) h)

    pub frequency_alike : {l l' : Lent} {r : Step} → frequency_size ≤ k → FrequencyPromise t p l r l' → FrequencyPromise t q l r l'
    frequency_alike {l} h w = let same = frequency_reply_same l h in record { reply = rw same at w.reply; lent = rw same at w.lent }

    unit_reply_same : (l : Lent) → unit_size ≤ k → unit_reply t p l ≡ unit_reply t q l
    unfolding unit_reply
    unit_reply_same l h = rw (named_same (omega arith), group_same (omega arith), unit_same t.least h)

    pub unit_alike : {l l' : Lent} {r : Step} → unit_size ≤ k → UnitPromise t p l r l' → UnitPromise t q l r l'
    unit_alike {l} h w = let same = unit_reply_same l h in record { reply = rw same at w.reply; lent = rw same at w.lent }
