-- A body from a record on: the record's refusal is the body's, or the body is judged from the next record on. The counts are those of a loop over all `many`
-- records.
use Rattle.std.specs.Prelude.{Ok, Err}
use mathlib.Core.Path.{◌≡◌, refl, sym, ◌∙◌, ap}
use mathlib.Core.Bool.{Bool}
use mathlib.Core.List.{List, ◌∷◌}
use Prim.Native.Nat.{ℕ, zero, suc, ◌+◌, ◌-◌, ◌<◌, ◌≤◌}
use native.Mathlib.Numerals.{add-one}
use native.Mathlib.Decide.{ℕ_discrete}
use native.Mathlib.Omega.{arith}
use lib.Dec.{eqb}
use borrow.Author.Tests.{eq-eqb, ne_eqb}
use Rattle.rules.specs.declared.Refusal.{Refusal}
use Rattle.rules.specs.Refusals.{LocatedReply, taken, refused, at, located, ◌>>=◌}
use Rattle.rules.specs.Book.{Region, Unit, Requirement}
use Rattle.rules.specs.Given.{Given}
use Rattle.rules.specs.Groups.{in_its_group}
use Rattle.rules.specs.Written.{region_given, unit_given, requirement_given, regions_given, units_given, requirements_given}
use Rattle.writer.specs.Values.{region_values, unit_values, requirement_values}
use Rattle.writer.specs.Judged.{judged, units_before, unit_found}
use Rattle.writer.proofs.JudgedLaws.{front_refused, front_taken, found_is}

-- what is left of a loop's records: none, or one and the rest
none_left : (i many : ℕ) → many ≤ i → many - i ≡ 0
none_left i many h = omega arith

some_left : (i many : ℕ) → i < many → many - i ≡ suc (many - (i + 1))
some_left i many h = omega arith

-- ---- regions
module _ (g : Given) (many r : ℕ) where
  pub regions_done : many ≤ r → judged (regions_given (many - r) g r) ≡ Ok tt
  unfolding regions_given
  regions_done h = rw (none_left r many h)

  pub regions_wrong : (w : Refusal) → r < many → region_given g r ≡ refused w → judged (regions_given (many - r) g r) ≡ Err (located (r + 1) w)
  unfolding regions_given
  regions_wrong w h e =
      rw (some_left r many h, add-one r)
      (front_refused (suc r) (region_given g r) (λ first. regions_given (many - suc r) g (suc r) >>= λ rest. taken (first ∷ rest)) w e)

  pub regions_next : (a : Region) → r < many → region_given g r ≡ taken a →
      judged (regions_given (many - r) g r) ≡ judged (regions_given (many - (r + 1)) g (r + 1))
  unfolding regions_given
  regions_next a h e =
      rw (some_left r many h, add-one r)
      (front_taken (suc r) (region_given g r) (λ first. regions_given (many - suc r) g (suc r)) (λ first rest. first ∷ rest) a e)

-- ---- units
module _ (g : Given) (many j least : ℕ) where
  pub units_done : many ≤ j → judged (units_given (many - j) least (units_before g j) g j) ≡ Ok tt
  unfolding units_given
  units_done h = rw (none_left j many h)

  pub units_wrong : (w : Refusal) → j < many → unit_found least g j ≡ refused w →
      judged (units_given (many - j) least (units_before g j) g j) ≡ Err (located (j + 1) w)
  unfolding units_given
  units_wrong w h e =
      rw (some_left j many h, add-one j)
      (front_refused (suc j) (unit_found least g j)
      (λ first. units_given (many - suc j) (suc first.number) (first ∷ units_before g j) g (suc j) >>= λ rest. taken (first ∷ rest)) w e)

  pub units_next : (u : Unit) → j < many → unit_found least g j ≡ taken u →
      judged (units_given (many - j) least (units_before g j) g j) ≡
      judged (units_given (many - (j + 1)) (u.number + 1) (units_before g (j + 1)) g (j + 1))
  unfolding units_given units_before
  units_next u h e =
      rw (some_left j many h, add-one j, add-one u.number)
      (front_taken (suc j) (unit_found least g j) (λ first. units_given (many - suc j) (suc first.number) (first ∷ units_before g j) g (suc j))
      (λ first rest. first ∷ rest) u e
      ∙ ap (λ (v : Unit). judged (units_given (many - suc j) (suc u.number) (v ∷ units_before g j) g (suc j))) (found_is least g j u e))

-- ---- requirements
module _ (g : Given) (many q least : ℕ) where
  -- the last one is the one with none behind it
  last_is : q < many → eqb (q + 1) many ≡ eqb (many - suc q) 0
  last_is h = go (ℕ_discrete (q + 1) many)
    where
      go : Dec (q + 1 ≡ many) → eqb (q + 1) many ≡ eqb (many - suc q) 0
      go (yes e) = eq-eqb (q + 1) many e ∙ sym (eq-eqb (many - suc q) 0 (omega arith))
      go (no d) = ne_eqb (q + 1) many d ∙ sym (ne_eqb (many - suc q) 0 (λ z. d (omega arith)))

  pub requirements_done : many ≤ q → judged (requirements_given (many - q) least g q) ≡ Ok tt
  unfolding requirements_given
  requirements_done h = rw (none_left q many h)

  pub requirements_wrong : (w : Refusal) → q < many → requirement_given least (eqb (q + 1) many) g q ≡ refused w →
      judged (requirements_given (many - q) least g q) ≡ Err (located (q + 1) w)
  unfolding requirements_given
  requirements_wrong w h e =
      rw (some_left q many h, add-one q)
      (front_refused (suc q) (requirement_given least (eqb (many - suc q) 0) g q)
      (λ first. requirements_given (many - suc q) (suc first.number) g (suc q) >>= λ rest. taken (first ∷ rest)) w
      (ap (λ (last : Bool). requirement_given least last g q) (sym (last_is h)) ∙ e))

  pub requirements_next : (a : Requirement) → q < many → requirement_given least (eqb (q + 1) many) g q ≡ taken a →
      judged (requirements_given (many - q) least g q) ≡ judged (requirements_given (many - (q + 1)) (a.number + 1) g (q + 1))
  unfolding requirements_given
  requirements_next a h e =
      rw (some_left q many h, add-one q, add-one a.number)
      (front_taken (suc q) (requirement_given least (eqb (many - suc q) 0) g q)
      (λ first. requirements_given (many - suc q) (suc first.number) g (suc q)) (λ first rest. first ∷ rest) a
      (ap (λ (last : Bool). requirement_given least last g q) (sym (last_is h)) ∙ e))

-- ---- a body is judged by its own lists alone
body_alike : {A : Type 0} (x : LocatedReply A) (f g : A → LocatedReply (List A)) → ((a : A) → f a ≡ g a) →
    (x >>= λ first. (f first >>= λ rest. taken (first ∷ rest))) ≡ (x >>= λ first. (g first >>= λ rest. taken (first ∷ rest)))
body_alike {A} (taken a) f g h = ap (λ (y : LocatedReply (List A)). y >>= λ rest. taken (a ∷ rest)) (h a)
body_alike (refused w) f g h = refl

pub regions_own : (g : Given) (n r : ℕ) → regions_given n g r ≡ regions_given n (region_values g.region_rows g.region_qualities g.frequencies) r
unfolding regions_given
regions_own g zero r = refl
regions_own g (suc n) r =
    let own = region_values g.region_rows g.region_qualities g.frequencies in
    body_alike (at (suc r) (region_given g r)) (λ first. regions_given n g (suc r)) (λ first. regions_given n own (suc r)) (λ first. regions_own g n (suc r))

pub units_own : (g : Given) (n least : ℕ) (before : List Unit) (j : ℕ) →
    units_given n least before g j ≡ units_given n least before (unit_values g.unit_rows g.unit_qualities g.readings) j
unfolding units_given
units_own g zero least before j = refl
units_own g (suc n) least before j =
    let own = unit_values g.unit_rows g.unit_qualities g.readings in
    body_alike (at (suc j) (unit_given least g j >>= in_its_group before)) (λ first. units_given n (suc first.number) (first ∷ before) g (suc j))
    (λ first. units_given n (suc first.number) (first ∷ before) own (suc j)) (λ first. units_own g n (suc first.number) (first ∷ before) (suc j))

pub requirements_own : (g : Given) (n least q : ℕ) → requirements_given n least g q ≡ requirements_given n least (requirement_values g.requirement_rows) q
unfolding requirements_given
requirements_own g zero least q = refl
requirements_own g (suc n) least q =
    let own = requirement_values g.requirement_rows in
    body_alike (at (suc q) (requirement_given least (eqb n 0) g q)) (λ first. requirements_given n (suc first.number) g (suc q))
    (λ first. requirements_given n (suc first.number) own (suc q)) (λ first. requirements_own g n (suc first.number) (suc q))
