-- No place that the book writer names is past 512, so the header's macros take its refusals apart.
use mathlib.Core.Path.{◌≡◌, refl, subst}
use mathlib.Core.Bool.{Bool, true, false, cond}
use mathlib.Core.List.{List, [], ◌∷◌}
use Prim.Native.Nat.{ℕ, zero, suc, ◌+◌, ◌≤◌}
use native.Mathlib.Omega.{arith}
use lib.Dec.{eqb}
use Rattle.rules.specs.declared.Refusal.TheVariants.{TooShort, WrongCount}
use Rattle.rules.specs.declared.Located.{Located}
use Rattle.rules.specs.Refusals.{Reply, LocatedReply, taken, refused, number, at, located, ◌>>=◌}
use Rattle.rules.specs.Quantities.{regions}
use Rattle.rules.specs.Book.{Unit}
use Rattle.rules.specs.Groups.{in_its_group}
use Rattle.rules.specs.Given.{Given}
use Rattle.rules.specs.Written.{
  settings_given,
  region_given,
  unit_given,
  requirement_given,
  regions_given,
  units_given,
  requirements_given,
  book_given,
  book_laid,
  long_enough,
  counts_fine,
  written,
}
use Rattle.writer.proofs.WriteLaws.{Few, counts_few}

-- a reply that is taken, or refused at a place within the first 512
pub data Near {A : Type 0} : LocatedReply A → Type 0 where
  is_taken : {a : A} → Near (taken a)
  is_near : {w : Located} → w.place ≤ 512 → Near (refused w)

near_place : {A : Type 0} (w : Located) → Near {A = A} (refused w) → w.place ≤ 512
near_place w (is_near h) = h

at_near : {A : Type 0} (place : ℕ) (x : Reply A) → place ≤ 512 → Near (at place x)
at_near place (taken a) h = is_taken
at_near place (refused r) h = is_near (go (eqb (number r) 11))
  where
    go : (t : Bool) → cond t 0 place ≤ 512
    go true = omega arith
    go false = h

bind_near : {A B : Type 0} (x : LocatedReply A) (f : A → LocatedReply B) → Near x → ((a : A) → Near (f a)) → Near (x >>= f)
bind_near (taken a) f n h = h a
bind_near (refused w) f (is_near n) h = is_near n

module _ (g : Given) where
  regions_near : (n r : ℕ) → r + n ≤ 512 → Near (regions_given n g r)
  unfolding regions_given
  regions_near zero r h = is_taken
  regions_near (suc n) r h =
      bind_near (at (suc r) (region_given g r)) _ (at_near (suc r) (region_given g r) (omega arith))
      (λ first. bind_near (regions_given n g (suc r)) _ (regions_near n (suc r) (omega arith)) (λ rest. is_taken))

  units_near : (n least : ℕ) (before : List Unit) (j : ℕ) → j + n ≤ 512 → Near (units_given n least before g j)
  unfolding units_given
  units_near zero least before j h = is_taken
  units_near (suc n) least before j h =
      bind_near (at (suc j) (unit_given least g j >>= in_its_group before)) _ (at_near (suc j) (unit_given least g j >>= in_its_group before) (omega arith))
      (λ u. bind_near (units_given n (suc u.number) (u ∷ before) g (suc j)) _ (units_near n (suc u.number) (u ∷ before) (suc j) (omega arith))
      (λ us. is_taken))

  requirements_near : (n least q : ℕ) → q + n ≤ 512 → Near (requirements_given n least g q)
  unfolding requirements_given
  requirements_near zero least q h = is_taken
  requirements_near (suc n) least q h =
      bind_near (at (suc q) (requirement_given least (eqb n 0) g q)) _ (at_near (suc q) (requirement_given least (eqb n 0) g q) (omega arith))
      (λ x. bind_near (requirements_given n (suc x.number) g (suc q)) _ (requirements_near n (suc x.number) (suc q) (omega arith)) (λ xs. is_taken))

  book_near : Few g → Near (book_given g)
  unfolding book_given
  book_near few =
      bind_near (at 1 (settings_given g)) _ (at_near 1 (settings_given g) (omega arith))
      (λ s. bind_near (regions_given regions g 0) _ (regions_near regions 0 (omega arith))
      (λ rs. bind_near (units_given g.units 0 [] g 0) _ (units_near g.units 0 [] 0 (omega (arith, few.units)))
      (λ us. bind_near (requirements_given g.requirements 0 g 0) _ (requirements_near g.requirements 0 0 (omega (arith, few.requirements)))
      (λ qs. is_taken))))

  written_near : (room : ℕ) → Near (written g room)
  unfolding written
  written_near room = go (long_enough g room) (counts_fine g) refl refl
    where
      go : (t u : Bool) → long_enough g room ≡ t → counts_fine g ≡ u → Near (written g room)
      go false u e f = rw e (is_near {w = located 0 TooShort} (omega arith))
      go true false e f = rw (e, f) (is_near {w = located 0 WrongCount} (omega arith))
      go true true e f = rw (e, f) (bind_near (book_given g) (λ b. taken (book_laid g)) (book_near (counts_few g f)) (λ b. is_taken))

pub written_place : (g : Given) (room : ℕ) (w : Located) → written g room ≡ refused w → w.place ≤ 512
written_place g room w e = near_place {A = List ℕ} w (subst Near e (written_near g room))
