-- What the book writer never refuses with, and what an accepted book is.
use mathlib.Core.Path.{◌≡◌, refl, sym, ◌∙◌, ap, subst}
use mathlib.Core.Bool.{Bool, true, false, false≢true}
use mathlib.Core.List.{List, [], ◌∷◌}
use Prim.Native.Nat.{ℕ, zero, suc, ◌+◌, ◌<◌}
use native.Mathlib.Nat.{zero-add, add-zero}
use native.Mathlib.Omega.{arith}
use lib.Dec.{leb, eqb}
use lib.ListN.{length}
use borrow.Author.Tests.{leb-true}
use Rattle.integers.proofs.Sums.{none_below}
use Rattle.rules.specs.declared.Refusal.{Refusal}
use Rattle.rules.specs.declared.Located.{Located}
use Rattle.rules.specs.Quantities.{regions}
use Rattle.rules.specs.Refusals.{ReplyOf, Reply, taken, refused, number, at, unless, ◌>>=◌}
use Rattle.rules.specs.Book.{Region, Unit, Requirement, Book}
use Rattle.rules.specs.Groups.{in_its_group}
use Rattle.rules.specs.WholeBook.{book}
use Rattle.rules.specs.Given.{Given}
use Rattle.rules.specs.Laid.{laid}
use Rattle.rules.specs.Written.{
  settings_filled,
  region_laid,
  unit_laid,
  requirement_laid,
  book_laid,
  region_widths,
  unit_widths,
  requirement_widths,
  settings_given,
  region_given,
  unit_given,
  requirement_given,
  regions_given,
  units_given,
  requirements_given,
  book_given,
  book_size,
  long_enough,
  counts_fine,
  written,
}
use Rattle.rules.specs.Said.{Fit, Accepted, can_come}
use Rattle.laws.proofs.LimitsLaws.{passed, took, went_on, there, in_group}
use Rattle.laws.proofs.LaidLaws.{requirement_length, book_length}
use Rattle.laws.proofs.Judged.{first_of, settings_taken, region_taken, unit_taken, requirement_taken}
use Rattle.laws.proofs.WrittenLaws.{refused_alike}

-- ---- refusals that a test allows
module _ {R : Type 0} (test : R → Bool) where
  only : {A : Type 0} → ReplyOf R A → Bool
  only (taken a) = true
  only (refused r) = test r

  only_taken : {A : Type 0} (a : A) → only (taken a) ≡ true
  unfolding only
  only_taken a = refl

  only_unless : {A : Type 0} (fine : Bool) (r : R) (rest : ReplyOf R A) → test r ≡ true → only rest ≡ true → only (unless fine r rest) ≡ true
  unfolding only
  only_unless true r rest e h = h
  only_unless false r rest e h = e

  only_bind : {A B : Type 0} (m : ReplyOf R A) (f : A → ReplyOf R B) → only m ≡ true → ((a : A) → only (f a) ≡ true) → only (m >>= f) ≡ true
  unfolding only
  only_bind (taken a) f e h = h a
  only_bind (refused r) f e h = e

  only_refused : {A : Type 0} (m : ReplyOf R A) (r : R) → m ≡ refused r → only m ≡ true → test r ≡ true
  unfolding only
  only_refused m r e h = sym (ap only e) ∙ h

abbrev comes : Refusal → Bool
comes r = can_come (number r)

abbrev comes_there : Located → Bool
comes_there l = comes l.refusal

placed : {A : Type 0} (place : ℕ) (m : Reply A) → only comes m ≡ true → only comes_there (at place m) ≡ true
unfolding only
placed place (taken a) e = refl
placed place (refused r) e = e

-- ---- the records, and the bodies
module _ (g : Given) where
  settings_comes : only comes (settings_given g) ≡ true
  settings_comes = search (only_unless comes, only_taken comes) depth 7

  region_comes : (r : ℕ) → only comes (region_given g r) ≡ true
  region_comes r = search (only_unless comes, only_taken comes) depth 7

  unit_comes : (least j : ℕ) (before : List Unit) → only comes (unit_given least g j >>= in_its_group before) ≡ true
  unit_comes least j before =
      only_bind comes (unit_given least g j) (in_its_group before) (search (only_unless comes, only_taken comes) depth 7)
      (λ u. search (only_unless comes, only_taken comes) depth 7)

  -- a requirement is laid out whole, so that no bytes follow it
  requirement_comes : (least : ℕ) (last : Bool) (q : ℕ) → only comes (requirement_given least last g q) ≡ true
  requirement_comes least true q = rw (requirement_length g q) (search (only_unless comes, only_taken comes) depth 7)
  requirement_comes least false q = search (only_unless comes, only_taken comes) depth 7

  regions_come : (n r : ℕ) → only comes_there (regions_given n g r) ≡ true
  unfolding regions_given
  regions_come zero r = only_taken comes_there _
  regions_come (suc n) r =
      only_bind comes_there _ _ (placed (suc r) _ (region_comes r)) (λ x. only_bind comes_there _ _ (regions_come n (suc r)) (λ xs. only_taken comes_there _))

  units_come : (n least : ℕ) (before : List Unit) (j : ℕ) → only comes_there (units_given n least before g j) ≡ true
  unfolding units_given
  units_come zero least before j = only_taken comes_there _
  units_come (suc n) least before j =
      only_bind comes_there _ _ (placed (suc j) _ (unit_comes least j before))
      (λ u. only_bind comes_there _ _ (units_come n (suc u.number) (u ∷ before) (suc j)) (λ us. only_taken comes_there _))

  requirements_come : (n least q : ℕ) → only comes_there (requirements_given n least g q) ≡ true
  unfolding requirements_given
  requirements_come zero least q = only_taken comes_there _
  requirements_come (suc n) least q =
      only_bind comes_there _ _ (placed (suc q) _ (requirement_comes least (eqb n 0) q))
      (λ x. only_bind comes_there _ _ (requirements_come n (suc x.number) (suc q)) (λ xs. only_taken comes_there _))

  book_comes : only comes_there (book_given g) ≡ true
  unfolding book_given
  book_comes =
      only_bind comes_there _ _ (placed 1 _ settings_comes) (λ s. only_bind comes_there _ _ (regions_come regions 0) (λ rs. only_bind comes_there _ _
      (units_come g.units 0 [] 0) (λ us. only_bind comes_there _ _ (requirements_come g.requirements 0 0) (λ qs. only_taken comes_there _))))

-- THE WRITER NEVER REFUSES WITH 1, 2, 3, 4 OR 11, nor with any other number that is not its own
pub never : (g : Given) (room : ℕ) (r : Located) → written g room ≡ refused r → can_come (number r.refusal) ≡ true
unfolding written
never g room r e =
    only_refused comes_there (written g room) r e (only_unless comes_there (long_enough g room) _ _ refl (only_unless comes_there (counts_fine g) _ _ refl
    (only_bind comes_there (book_given g) _ (book_comes g) (λ b. only_taken comes_there (book_laid g)))))

-- the reader's numbers for bytes that end early, follow, or say a wrong mark or table, and for a call out of turn
pub never_these : (g : Given) (room : ℕ) (r : Located) → written g room ≡ refused r →
    (number r.refusal ≡ 1 → ⊥) × (number r.refusal ≡ 2 → ⊥) × (number r.refusal ≡ 3 → ⊥) × (number r.refusal ≡ 4 → ⊥)
    × (number r.refusal ≡ 11 → ⊥)
never_these g room r e = (λ n. no n refl, λ n. no n refl, λ n. no n refl, λ n. no n refl, λ n. no n refl)
  where
    no : {k : ℕ} → number r.refusal ≡ k → can_come k ≡ false → ⊥
    no n f = false≢true (sym f ∙ ap can_come (sym n) ∙ never g room r e)

-- ---- what was taken fits
-- what holds of the first and of the others holds of all
from_first : (P : ℕ → Type 0) (n r : ℕ) → P r → ((j : ℕ) → j < n → P (suc r + j)) → (i : ℕ) → i < suc n → P (r + i)
from_first P n r a b zero h = subst P (sym (add-zero r)) a
from_first P n r a b (suc i) h = let next : suc r + i ≡ r + suc i = omega arith in subst P next (b i (omega arith))

module _ (g : Given) where
  regions_fit : (n r : ℕ) (xs : List Region) → regions_given n g r ≡ taken xs → (i : ℕ) → i < n →
      region_widths g (r + i) ≡ record { separation = true; amounts = true }
  unfolding regions_given
  regions_fit zero r xs e i h = none_below i h
  regions_fit (suc n) r xs e i h =
      let first = went_on (at (suc r) (region_given g r)) _ xs e in
      let rest = went_on (regions_given n g (suc r)) _ xs first.2 in
      let here = region_taken (region_widths g r) r (region_laid g r) first.0 (there (suc r) _ first.0 first.1) in
      from_first (λ k. region_widths g k ≡ record { separation = true; amounts = true }) n r here.fits
      (λ j. regions_fit n (suc r) rest.0 rest.1 j) i h

  units_fit : (n least : ℕ) (before : List Unit) (j : ℕ) (xs : List Unit) → units_given n least before g j ≡ taken xs → (i : ℕ) → i < n →
      unit_widths g (j + i) ≡ record { header = true; group = true; number = true }
  unfolding units_given
  units_fit zero least before j xs e i h = none_below i h
  units_fit (suc n) least before j xs e i h =
      let first = went_on (at (suc j) (unit_given least g j >>= in_its_group before)) _ xs e in
      let u = first.0 in
      let rest = went_on (units_given n (suc u.number) (u ∷ before) g (suc j)) _ xs first.2 in
      let alone = (in_group before (unit_given least g j) u (there (suc j) _ u first.1)).0 in
      let here = unit_taken (unit_widths g j) least (unit_laid g j) u alone in
      from_first (λ k. unit_widths g k ≡ record { header = true; group = true; number = true }) n j here.fits
      (λ k. units_fit n (suc u.number) (u ∷ before) (suc j) rest.0 rest.1 k) i h

  requirements_fit : (n least q : ℕ) (xs : List Requirement) → requirements_given n least g q ≡ taken xs → (i : ℕ) → i < n →
      requirement_widths g (q + i) ≡ true
  unfolding requirements_given
  requirements_fit zero least q xs e i h = none_below i h
  requirements_fit (suc n) least q xs e i h =
      let first = went_on (at (suc q) (requirement_given least (eqb n 0) g q)) _ xs e in
      let x = first.0 in
      let rest = went_on (requirements_given n (suc x.number) g (suc q)) _ xs first.2 in
      let here = requirement_taken (requirement_widths g q) least (eqb n 0) (requirement_laid g q) x (there (suc q) _ x first.1) in
      from_first (λ k. requirement_widths g k ≡ true) n q here.fits (λ k. requirements_fit n (suc x.number) (suc q) rest.0 rest.1 k) i h

  book_fit : (b : Book) → book_given g ≡ taken b → Fit g
  unfolding book_given
  book_fit b e =
      let s = went_on (at 1 (settings_given g)) _ b e in
      let rs = went_on (regions_given regions g 0) _ b s.2 in
      let us = went_on (units_given g.units 0 [] g 0) _ b rs.2 in
      let qs = went_on (requirements_given g.requirements 0 g 0) _ b us.2 in
      record {
        settings = (settings_taken _ (laid (settings_filled g)) s.0 (there 1 _ s.0 s.1)).fits;
        region = λ r h. rw zero-add at (regions_fit regions 0 rs.0 rs.1 r h);
        unit = λ j h. rw zero-add at (units_fit g.units 0 [] 0 us.0 us.1 j h);
        requirement = λ q h. rw zero-add at (requirements_fit g.requirements 0 0 qs.0 qs.1 q h);
      }

-- WHAT A WRITTEN BOOK IS
pub written_taken : (g : Given) (room : ℕ) (bs : List ℕ) → written g room ≡ taken bs → Accepted g room bs
unfolding written
written_taken g room bs e =
    let long = passed (long_enough g room) _ _ bs e in
    let counts = passed (counts_fine g) _ _ bs long.1 in
    let made = went_on (book_given g) _ bs counts.1 in
    let fine : leb (book_size g.units g.requirements) room ≡ true = search first_of depth 9 in
    let fit = book_fit g made.0 made.1 in
    let is : book_laid g ≡ bs = took made.2 in
    let alike : book_given g ≡ book bs = refused_alike g fit counts.0 ∙ ap book is in
    let size : length bs ≡ book_size g.units g.requirements = ap length (sym is) ∙ book_length g in
    record {
      bytes = sym is;
      size = size;
      room = omega (arith, leb-true (book_size g.units g.requirements) room fine);
      long = long.0;
      counts = counts.0;
      fit = fit;
      alike = alike;
      read = (made.0, sym alike ∙ made.1);
    }
