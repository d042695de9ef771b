-- A reader of records looks only at its record's bytes: what follows them changes nothing, but for the last requirement, which nothing follows.
use mathlib.Core.Path.{◌≡◌, refl, sym, ◌∙◌, ap, ap₂}
use mathlib.Core.Bool.{Bool, true, false}
use mathlib.Core.List.{List, [], ◌∷◌, ◌++◌, append-nil}
use Prim.Native.Nat.{ℕ, zero, suc, ◌+◌, ◌*◌, ◌/◌, ◌≤◌, ◌<◌}
use native.Mathlib.Omega.{arith}
use lib.Dec.{leb}
use lib.ListN.{length, length-append, get_or-append}
use borrow.Author.Tests.{le-leb}
use Rattle.rules.specs.Quantities.{points}
use Rattle.rules.specs.Bytes.{number_at, integer_at, signed, listed}
use Rattle.laws.proofs.BytesLaws.{number_step, number_none}
use Rattle.rules.specs.Contents.{settings_size, frequency_size, unit_size, requirement_size}
use Rattle.rules.specs.SettingsRecord.{settings, settings_judged}
use Rattle.rules.specs.Fields.{quality_in, three_in, defaults_in}
use Rattle.rules.specs.FrequencyRecord.{region_in, region_judged, frequency_record}
use Rattle.rules.specs.UnitRecord.{unit_in, unit_judged, unit_record}
use Rattle.rules.specs.RequirementRecord.{requirement_in, requirement_judged, requirement_record}

-- lists of values by index, alike at each index
pub listed_alike : {A : Type 0} (i n : ℕ) (f g : ℕ → A) → ((t : ℕ) → t < i + n → f t ≡ g t) → listed i n f ≡ listed i n g
unfolding listed
listed_alike i zero f g e = refl
listed_alike {A} i (suc n) f g e =
    ap₂ (λ (x : A) (l : List A). x ∷ l) (e i (omega arith)) (listed_alike (suc i) n f g (λ t h. e t (omega arith)))

module _ (xs rest : List ℕ) where
  pub number_front : (n place : ℕ) → place + n ≤ length xs → number_at n place (xs ++ rest) ≡ number_at n place xs
  number_front zero place h = number_none place (xs ++ rest) ∙ sym (number_none place xs)
  number_front (suc n) place h =
      number_step n place (xs ++ rest)
      ∙ ap₂ (λ (a b : ℕ). a + 256 * b) (get_or-append xs rest 0 place (omega arith)) (number_front n (place + 1) (omega arith))
      ∙ sym (number_step n place xs)

  whole_front : (size : ℕ) → size ≤ length xs → leb size (length (xs ++ rest)) ≡ true
  whole_front size h = le-leb size (length (xs ++ rest)) (omega (arith, length-append xs rest))

  quality_front : (place : ℕ) → place + 10 ≤ length xs → quality_in place (xs ++ rest) ≡ quality_in place xs
  quality_front place h = listed_alike 0 points _ _ (λ t b. rw (number_front 1 (place + t / 8) (omega arith)))

  three_front : (place : ℕ) → place + 24 ≤ length xs → three_in place (xs ++ rest) ≡ three_in place xs
  three_front place h = rw (number_front 8 place (omega arith), number_front 8 (place + 8) (omega arith), number_front 8 (place + 16) (omega arith))

  defaults_front : (place : ℕ) → place + 48 ≤ length xs → defaults_in place (xs ++ rest) ≡ defaults_in place xs
  defaults_front place h = rw (three_front place (omega arith), three_front (place + 24) (omega arith))

  -- the records
  pub settings_front : settings_size ≤ length xs → settings (xs ++ rest) ≡ settings_judged true xs
  unfolding settings
  settings_front h =
      rw (
        whole_front settings_size h,
        number_front 2 0 (omega arith),
        number_front 1 2 (omega arith),
        number_front 1 3 (omega arith),
        number_front 4 4 (omega arith),
      )

  region_front : frequency_size ≤ length xs → region_in (xs ++ rest) ≡ region_in xs
  unfolding region_in
  region_front h =
      let frequency : (t : ℕ) → t < 0 + points → number_at 4 (68 + 4 * t) (xs ++ rest) ≡ number_at 4 (68 + 4 * t) xs =
      λ t b. number_front 4 (68 + 4 * t) (omega arith) in
      rw (
        number_front 1 1 (omega arith),
        quality_front 2 (omega arith),
        number_front 4 12 (omega arith),
        number_front 4 16 (omega arith),
        defaults_front 20 (omega arith),
        listed_alike 0 points (λ t. number_at 4 (68 + 4 * t) (xs ++ rest)) (λ t. number_at 4 (68 + 4 * t) xs) frequency,
      )

  pub frequency_front : (position : ℕ) → frequency_size ≤ length xs →
      frequency_record position (xs ++ rest) ≡ region_judged (record { separation = true; amounts = true }) position xs
  unfolding frequency_record
  frequency_front position h =
      rw (
        whole_front frequency_size h,
        number_front 1 0 (omega arith),
        number_front 1 1 (omega arith),
        number_front 1 11 (omega arith),
        region_front h,
      )

  unit_in_front : unit_size ≤ length xs → unit_in (xs ++ rest) ≡ unit_in xs
  unfolding unit_in
  unit_in_front h =
      let reading : (t : ℕ) → t < 0 + points → integer_at 4 (72 + 4 * t) (xs ++ rest) ≡ integer_at 4 (72 + 4 * t) xs =
      λ t b. ap (signed 4) (number_front 4 (72 + 4 * t) (omega arith)) in
      rw (
        number_front 2 0 (omega arith),
        number_front 1 2 (omega arith),
        number_front 1 3 (omega arith),
        number_front 4 4 (omega arith),
        number_front 4 8 (omega arith),
        defaults_front 12 (omega arith),
        quality_front 60 (omega arith),
        number_front 2 70 (omega arith),
        listed_alike 0 points (λ t. integer_at 4 (72 + 4 * t) (xs ++ rest)) (λ t. integer_at 4 (72 + 4 * t) xs) reading,
      )

  pub unit_front : (least : ℕ) → unit_size ≤ length xs →
      unit_record least (xs ++ rest) ≡ unit_judged (record { header = true; group = true; number = true }) least xs
  unfolding unit_record
  unit_front least h = rw (whole_front unit_size h, number_front 1 3 (omega arith), number_front 1 69 (omega arith), unit_in_front h)

  requirement_in_front : requirement_size ≤ length xs → requirement_in (xs ++ rest) ≡ requirement_in xs
  unfolding requirement_in
  requirement_in_front h =
      rw (
        number_front 2 0 (omega arith),
        number_front 1 2 (omega arith),
        number_front 1 3 (omega arith),
        number_front 4 4 (omega arith),
        number_front 8 8 (omega arith),
        number_front 4 16 (omega arith),
        number_front 4 20 (omega arith),
      )

  pub requirement_front : (least : ℕ) (last : Bool) → requirement_size ≤ length xs → (last ≡ true → rest ≡ []) →
      requirement_record least last (xs ++ rest) ≡ requirement_judged true least last xs
  unfolding requirement_record
  requirement_front least false h none =
      rw (whole_front requirement_size h, number_front 1 3 (omega arith), requirement_in_front h)
  requirement_front least true h none =
      let same : xs ++ rest ≡ xs = ap (λ (l : List ℕ). xs ++ l) (none refl) ∙ append-nil xs in
      rw (whole_front requirement_size h, same)
