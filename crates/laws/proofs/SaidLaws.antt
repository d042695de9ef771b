-- A book that the writer judges fine is the one that the values handed in say.
use mathlib.Core.Path.{◌≡◌, sym, ◌∙◌, ap, ap₂}
use mathlib.Core.Bool.{Bool, true}
use mathlib.Core.List.{List, [], ◌∷◌}
use Prim.Native.Nat.{ℕ, zero, suc, ◌+◌, ◌≤◌, ◌<◌}
use native.Mathlib.Omega.{arith}
use lib.Dec.{eqb}
use Rattle.rules.specs.Quantities.{regions}
use Rattle.rules.specs.Bytes.{listed}
use Rattle.rules.specs.Refusals.{taken, at, ◌>>=◌}
use Rattle.rules.specs.Book.{Region, Unit, Requirement, Book}
use Rattle.rules.specs.SettingsRecord.{settings_judged}
use Rattle.rules.specs.FrequencyRecord.{region_in}
use Rattle.rules.specs.UnitRecord.{unit_in}
use Rattle.rules.specs.Groups.{in_its_group}
use Rattle.rules.specs.RequirementRecord.{requirement_in}
use Rattle.rules.specs.Laid.{laid}
use Rattle.rules.specs.Given.{Given}
use Rattle.rules.specs.Written.{
  settings_filled,
  region_laid,
  unit_laid,
  requirement_laid,
  region_widths,
  unit_widths,
  requirement_widths,
  settings_given,
  region_given,
  unit_given,
  requirement_given,
  regions_given,
  units_given,
  requirements_given,
  book_given,
}
use Rattle.rules.specs.Said.{Fit, Typed, settings_said, region_said, unit_said, requirement_said, said}
use Rattle.laws.proofs.LimitsLaws.{took, went_on, there, in_group}
use Rattle.laws.proofs.Judged.{settings_taken, region_taken, unit_taken, requirement_taken}
use Rattle.laws.proofs.ReadBack.{settings_back, region_back, unit_back, requirement_back}

-- a book is its four parts
pub parts_alike : (a b : Book) → a.settings ≡ b.settings → a.regions ≡ b.regions → a.roster ≡ b.roster → a.requirements ≡ b.requirements → a ≡ b
parts_alike a b s rs us qs = rw (s, rs, us, qs)

module _ (g : Given) where
  regions_said : (n r : ℕ) (xs : List Region) → regions_given n g r ≡ taken xs →
      ((i : ℕ) → r ≤ i → i < r + n → region_in (region_laid g i) ≡ region_said g i) → xs ≡ listed r n (region_said g)
  unfolding regions_given listed
  regions_said zero r xs e back = sym (took e)
  regions_said (suc n) r xs e back =
      let first = went_on (at (suc r) (region_given g r)) _ xs e in
      let rest = went_on (regions_given n g (suc r)) _ xs first.2 in
      let here = (region_taken (region_widths g r) r (region_laid g r) first.0 (there (suc r) _ first.0 first.1)).is in
      sym (took rest.2) ∙ ap₂ (λ (y : Region) (ys : List Region). y ∷ ys) (sym here ∙ back r (omega arith) (omega arith))
      (regions_said n (suc r) rest.0 rest.1 (λ i l h. back i (omega arith) (omega arith)))

  units_said : (n least : ℕ) (before : List Unit) (j : ℕ) (xs : List Unit) → units_given n least before g j ≡ taken xs →
      ((i : ℕ) → j ≤ i → i < j + n → unit_in (unit_laid g i) ≡ unit_said g i) → xs ≡ listed j n (unit_said g)
  unfolding units_given listed
  units_said zero least before j xs e back = sym (took e)
  units_said (suc n) least before j xs e back =
      let first = went_on (at (suc j) (unit_given least g j >>= in_its_group before)) _ xs e in
      let u = first.0 in
      let rest = went_on (units_given n (suc u.number) (u ∷ before) g (suc j)) _ xs first.2 in
      let alone = (in_group before (unit_given least g j) u (there (suc j) _ u first.1)).0 in
      let here = (unit_taken (unit_widths g j) least (unit_laid g j) u alone).is in
      sym (took rest.2) ∙ ap₂ (λ (y : Unit) (ys : List Unit). y ∷ ys) (sym here ∙ back j (omega arith) (omega arith))
      (units_said n (suc u.number) (u ∷ before) (suc j) rest.0 rest.1 (λ i l h. back i (omega arith) (omega arith)))

  requirements_said : (n least q : ℕ) (xs : List Requirement) → requirements_given n least g q ≡ taken xs →
      ((i : ℕ) → q ≤ i → i < q + n → requirement_in (requirement_laid g i) ≡ requirement_said g i) → xs ≡ listed q n (requirement_said g)
  unfolding requirements_given listed
  requirements_said zero least q xs e back = sym (took e)
  requirements_said (suc n) least q xs e back =
      let first = went_on (at (suc q) (requirement_given least (eqb n 0) g q)) _ xs e in
      let x = first.0 in
      let rest = went_on (requirements_given n (suc x.number) g (suc q)) _ xs first.2 in
      let here = (requirement_taken (requirement_widths g q) least (eqb n 0) (requirement_laid g q) x (there (suc q) _ x first.1)).is in
      sym (took rest.2) ∙ ap₂ (λ (y : Requirement) (ys : List Requirement). y ∷ ys) (sym here ∙ back q (omega arith) (omega arith))
      (requirements_said n (suc x.number) (suc q) rest.0 rest.1 (λ i l h. back i (omega arith) (omega arith)))

  -- a book that the writer judges fine is the one that is said
  pub book_said : Fit g → Typed g → (b : Book) → book_given g ≡ taken b → b ≡ said g
  unfolding book_given
  book_said fit typed b e =
      let s = went_on (at 1 (settings_given g)) _ b e in
      let rs = went_on (regions_given regions g 0) _ b s.2 in
      let us = went_on (units_given g.units 0 [] g 0) _ b rs.2 in
      let qs = went_on (requirements_given g.requirements 0 g 0) _ b us.2 in
      let given : settings_judged true (laid (settings_filled g)) ≡ taken s.0 =
      ap (λ (t : Bool). settings_judged t (laid (settings_filled g))) (sym fit.settings) ∙ there 1 (settings_given g) s.0 s.1 in
      let settings_is : s.0 ≡ settings_said g = sym (settings_taken true (laid (settings_filled g)) s.0 given).is ∙ settings_back g fit in
      let regions_is = regions_said regions 0 rs.0 rs.1 (λ i l h. region_back g fit typed i h) in
      let units_is = units_said g.units 0 [] 0 us.0 us.1 (λ i l h. unit_back g fit typed i (omega arith)) in
      let requirements_is = requirements_said g.requirements 0 0 qs.0 qs.1 (λ i l h. requirement_back g fit i (omega arith)) in
      sym (took qs.2) ∙ parts_alike _ (said g) settings_is regions_is units_is requirements_is
