-- A book is judged body by body: the first body that is wrong ends it.
use Rattle.std.specs.Prelude.{Result, Ok, Err, ⊤}
use mathlib.Core.Path.{◌≡◌, refl}
use mathlib.Core.List.{List, []}
use Prim.Native.Nat.{ℕ}
use native.Mathlib.Omega.{arith}
use Rattle.rules.specs.declared.Located.{Located}
use Rattle.rules.specs.Refusals.{LocatedReply, taken, refused, at, ◌>>=◌}
use Rattle.rules.specs.Book.{Settings, Region, Unit, Requirement, Book}
use Rattle.rules.specs.Given.{Given}
use Rattle.rules.specs.Written.{settings_given, regions_given, units_given, requirements_given, book_given}
use Rattle.writer.specs.Judged.{judged}

never : {A : Type 0} → ◌≡◌ {A = ℕ} 0 1 → A
never e = absurd (omega (arith, e))

pub judged_wrong : {A : Type 0} (x : LocatedReply A) (w : Located) → judged x ≡ Err w → x ≡ refused w
judged_wrong (taken a) w e = never (cc)
judged_wrong (refused v) w e = cc

pub judged_fine : {A : Type 0} (x : LocatedReply A) → judged x ≡ Ok tt → (a : A) × (x ≡ taken a)
judged_fine (taken a) e = (a, refl)
judged_fine (refused v) e = never (cc)

stop : {A B : Type 0} (x : LocatedReply A) (f : A → LocatedReply B) (w : Located) → judged x ≡ Err w → judged (x >>= f) ≡ Err w
stop (taken a) f w e = never (cc)
stop (refused v) f w e = e

go_on : {A B : Type 0} (x : LocatedReply A) (f : A → LocatedReply B) (j : Result ⊤ Located) → judged x ≡ Ok tt → ((a : A) → judged (f a) ≡ j) → judged (x >>= f) ≡ j
go_on (taken a) f j e h = h a
go_on (refused v) f j e h = never (cc)

last : {A B : Type 0} (x : LocatedReply A) (k : A → B) → judged (x >>= λ a. taken (k a)) ≡ judged x
last (taken a) k = refl
last (refused v) k = refl

module _ (g : Given) where
  abbrev of_settings : LocatedReply Settings
  of_settings = at 1 (settings_given g)

  abbrev of_regions : LocatedReply (List Region)
  of_regions = regions_given 5 g 0

  abbrev of_units : LocatedReply (List Unit)
  of_units = units_given g.units 0 [] g 0

  abbrev of_requirements : LocatedReply (List Requirement)
  of_requirements = requirements_given g.requirements 0 g 0

  abbrev behind_units : Settings → List Region → List Unit → LocatedReply Book
  behind_units s rs us = of_requirements >>= λ qs. taken (record { settings = s; regions = rs; roster = us; requirements = qs })

  abbrev behind_regions : Settings → List Region → LocatedReply Book
  behind_regions s rs = of_units >>= behind_units s rs

  abbrev behind_settings : Settings → LocatedReply Book
  behind_settings s = of_regions >>= behind_regions s

  pub settings_wrong : (w : Located) → judged of_settings ≡ Err w → judged (book_given g) ≡ Err w
  unfolding book_given
  settings_wrong w e = stop of_settings behind_settings w e

  pub regions_wrong : (w : Located) → judged of_settings ≡ Ok tt → judged of_regions ≡ Err w → judged (book_given g) ≡ Err w
  unfolding book_given
  regions_wrong w s e = go_on of_settings behind_settings (Err w) s (λ a. stop of_regions (behind_regions a) w e)

  pub units_wrong : (w : Located) → judged of_settings ≡ Ok tt → judged of_regions ≡ Ok tt → judged of_units ≡ Err w → judged (book_given g) ≡ Err w
  unfolding book_given
  units_wrong w s r e =
      go_on of_settings behind_settings (Err w) s (λ a. go_on of_regions (behind_regions a) (Err w) r (λ rs. stop of_units (behind_units a rs) w e))

  pub requirements_left : judged of_settings ≡ Ok tt → judged of_regions ≡ Ok tt → judged of_units ≡ Ok tt → judged (book_given g) ≡ judged of_requirements
  unfolding book_given
  requirements_left s r u =
      let j = judged of_requirements in
      go_on of_settings behind_settings j s (λ a. go_on of_regions (behind_regions a) j r (λ rs. go_on of_units (behind_units a rs) j u
      (λ us. last of_requirements
      (λ qs. record { settings = a; regions = rs; roster = us; requirements = qs }))))
