-- What the reader went through in a book that it takes: each record stands at its place, whole, and the table says where.
use mathlib.Core.Path.{◌≡◌, refl, sym, ◌∙◌, ap, subst}
use mathlib.Core.Bool.{Bool, true, false}
use mathlib.Core.List.{List, ◌∷◌}
use Prim.Native.Nat.{ℕ, zero, suc, ◌+◌, ◌*◌, ◌≤◌, ◌<◌}
use native.Mathlib.Nat.{add-zero, mul-zero, mul-suc}
use native.Mathlib.Omega.{arith}
use lib.Dec.{leb, eqb}
use lib.ListN.{length, get_or, drop, length-drop}
use lib.Seq.{drop-drop}
use borrow.Author.Tests.{leb-true, eqb-true}
use Rattle.integers.proofs.Sums.{none_below}
use Rattle.rules.specs.declared.Refusal.TheVariants.{EndsEarly}
use Rattle.rules.specs.Refusals.{taken, at, ◌>>=◌}
use Rattle.rules.specs.Book.{Settings, Region, Unit, Requirement}
use Rattle.rules.specs.Contents.{settings_size, frequency_size, unit_size, requirement_size}
use Rattle.rules.specs.SettingsRecord.{settings}
use Rattle.rules.specs.FrequencyRecord.{frequency_record}
use Rattle.rules.specs.UnitRecord.{unit_record}
use Rattle.rules.specs.Groups.{in_its_group}
use Rattle.rules.specs.RequirementRecord.{requirement_record}
use Rattle.rules.specs.WholeBook.{frequency_body, unit_body, requirement_body}
use Rattle.laws.proofs.LimitsLaws.{passed, took, went_on, there, in_group}
use Rattle.laws.proofs.Judged.{SettingsTaken, RegionTaken, UnitTaken, RequirementTaken, settings_taken, region_taken, unit_taken, requirement_taken}

-- ---- one record
pub record SettingsRead (bs : List ℕ) (s : Settings) : Type 0 where
  pub whole : settings_size ≤ length bs
  pub went : SettingsTaken true bs s

pub settings_read : (bs : List ℕ) (s : Settings) → settings bs ≡ taken s → SettingsRead bs s
unfolding settings
settings_read bs s e =
    let p = passed (leb settings_size (length bs)) EndsEarly _ s e in
    record { whole = leb-true _ _ p.0; went = settings_taken true bs s p.1 }

pub record RegionRead (position : ℕ) (bs : List ℕ) (r : Region) : Type 0 where
  pub whole : frequency_size ≤ length bs
  pub went : RegionTaken (record { separation = true; amounts = true }) position bs r

region_read : (position : ℕ) (bs : List ℕ) (r : Region) → frequency_record position bs ≡ taken r → RegionRead position bs r
unfolding frequency_record
region_read position bs r e =
    let p = passed (leb frequency_size (length bs)) EndsEarly _ r e in
    record { whole = leb-true _ _ p.0; went = region_taken (record { separation = true; amounts = true }) position bs r p.1 }

pub record UnitRead (bs : List ℕ) (u : Unit) : Type 0 where
  pub whole : unit_size ≤ length bs
  pub went : UnitTaken (record { header = true; group = true; number = true }) bs u

unit_read : (least : ℕ) (bs : List ℕ) (u : Unit) → unit_record least bs ≡ taken u → UnitRead bs u
unfolding unit_record
unit_read least bs u e =
    let p = passed (leb unit_size (length bs)) EndsEarly _ u e in
    record { whole = leb-true _ _ p.0; went = unit_taken (record { header = true; group = true; number = true }) least bs u p.1 }

pub record RequirementRead (last : Bool) (bs : List ℕ) (q : Requirement) : Type 0 where
  pub whole : requirement_size ≤ length bs
  pub went : RequirementTaken true last bs q

requirement_read : (least : ℕ) (last : Bool) (bs : List ℕ) (q : Requirement) → requirement_record least last bs ≡ taken q → RequirementRead last bs q
unfolding requirement_record
requirement_read least last bs q e =
    let p = passed (leb requirement_size (length bs)) EndsEarly _ q e in
    record { whole = leb-true _ _ p.0; went = requirement_taken true least last bs q p.1 }

-- ---- the bodies
-- what holds of the first record and of the others behind it holds of each at its place
each : {A : Type 0} (size : ℕ) (d : A) (P : ℕ → List ℕ → A → Type 0) (n r : ℕ) (xs : List ℕ) (y : A) (ys : List A) → P r xs y →
    ((j : ℕ) → j < n → P (suc r + j) (drop (size * j) (drop size xs)) (get_or ys j d)) →
    (i : ℕ) → i < suc n → P (r + i) (drop (size * i) xs) (get_or (y ∷ ys) i d)
each size d P n r xs y ys a b zero h = rw (add-zero r, mul-zero size) a
each size d P n r xs y ys a b (suc i) h =
    let next : suc r + i ≡ r + suc i = omega arith in
    let place : size + size * i ≡ size * suc i = omega (arith, mul-suc size i) in
    subst (λ (k : ℕ). P k (drop (size * suc i) xs) (get_or ys i d)) next
    (subst (λ (l : List ℕ). P (suc r + i) l (get_or ys i d)) (drop-drop (size * i) size xs ∙ ap (λ (p : ℕ). drop p xs) place) (b i (omega arith)))

pub regions_read : (none : Region) (n r : ℕ) (xs : List ℕ) (rs : List Region) → frequency_body n r xs ≡ taken rs →
    (length rs ≡ n) × ((i : ℕ) → i < n → RegionRead (r + i) (drop (frequency_size * i) xs) (get_or rs i none))
unfolding frequency_body
regions_read none zero r xs rs e = (ap length (sym (took e)), λ i h. none_below i h)
regions_read none (suc n) r xs rs e =
    let first = went_on (at (suc r) (frequency_record r xs)) _ rs e in
    let rest = went_on (frequency_body n (suc r) (drop frequency_size xs)) _ rs first.2 in
    let here = region_read r xs first.0 (there (suc r) _ first.0 first.1) in
    let others = regions_read none n (suc r) (drop frequency_size xs) rest.0 rest.1 in
    subst (λ (rs : List Region). (length rs ≡ suc n) × ((i : ℕ) → i < suc n → RegionRead (r + i) (drop (frequency_size * i) xs) (get_or rs i none)))
    (took rest.2) (ap suc others.0, each frequency_size none RegionRead n r xs first.0 rest.0 here others.1)

pub units_read : (none : Unit) (n place least : ℕ) (before : List Unit) (xs : List ℕ) (us : List Unit) → unit_body n place least before xs ≡ taken us →
    (length us ≡ n) × ((i : ℕ) → i < n → UnitRead (drop (unit_size * i) xs) (get_or us i none))
unfolding unit_body
units_read none zero place least before xs us e = (ap length (sym (took e)), λ i h. none_below i h)
units_read none (suc n) place least before xs us e =
    let first = went_on (at place (unit_record least xs >>= in_its_group before)) _ us e in
    let u = first.0 in
    let rest = went_on (unit_body n (suc place) (suc u.number) (u ∷ before) (drop unit_size xs)) _ us first.2 in
    let here = unit_read least xs u (in_group before (unit_record least xs) u (there place _ u first.1)).0 in
    let others = units_read none n (suc place) (suc u.number) (u ∷ before) (drop unit_size xs) rest.0 rest.1 in
    subst (λ (us : List Unit). (length us ≡ suc n) × ((i : ℕ) → i < suc n → UnitRead (drop (unit_size * i) xs) (get_or us i none))) (took rest.2)
    (ap suc others.0, each unit_size none (λ k. UnitRead) n 0 xs u rest.0 here others.1)

pub requirements_read : (none : Requirement) (n place least : ℕ) (xs : List ℕ) (qs : List Requirement) → requirement_body n place least xs ≡ taken qs →
    (length qs ≡ n) × ((i : ℕ) → i < n → RequirementRead false (drop (requirement_size * i) xs) (get_or qs i none))
unfolding requirement_body
requirements_read none zero place least xs qs e = (ap length (sym (took e)), λ i h. none_below i h)
requirements_read none (suc n) place least xs qs e =
    let first = went_on (at place (requirement_record least (eqb n 0) xs)) _ qs e in
    let q = first.0 in
    let rest = went_on (requirement_body n (suc place) (suc q.number) (drop requirement_size xs)) _ qs first.2 in
    let here = requirement_read least (eqb n 0) xs q (there place _ q first.1) in
    let others = requirements_read none n (suc place) (suc q.number) (drop requirement_size xs) rest.0 rest.1 in
    let went : RequirementTaken true false xs q = record { fits = refl; direction = here.went.direction; ends = refl; is = here.went.is } in
    subst (λ (qs : List Requirement). (length qs ≡ suc n) × ((i : ℕ) → i < suc n → RequirementRead false (drop (requirement_size * i) xs) (get_or qs i none)))
    (took rest.2) (
      ap suc others.0,
      each requirement_size none (λ k. RequirementRead false) n 0 xs q rest.0 (record { whole = here.whole; went = went }) others.1,
    )

-- nothing follows the last requirement
pub requirements_end : (n place least : ℕ) (xs : List ℕ) (qs : List Requirement) → requirement_body (suc n) place least xs ≡ taken qs →
    length xs ≡ suc n * requirement_size
unfolding requirement_body
requirements_end zero place least xs qs e =
    let first = went_on (at place (requirement_record least true xs)) _ qs e in
    let here = requirement_read least true xs first.0 (there place _ first.0 first.1) in
    eqb-true _ _ here.went.ends
requirements_end (suc n) place least xs qs e =
    let first = went_on (at place (requirement_record least (eqb (suc n) 0) xs)) _ qs e in
    let rest = went_on (requirement_body (suc n) (suc place) (suc first.0.number) (drop requirement_size xs)) _ qs first.2 in
    omega (arith, requirements_end n (suc place) (suc first.0.number) (drop requirement_size xs) rest.0 rest.1, length-drop requirement_size xs)
