-- Laws of two for one. A total in which the two weigh what the one did stays, and so do those that pass a test which all three fail; among those that pass a
-- test which all three pass there are two for one, and so there are among the images of all.
use mathlib.Core.Path.{◌≡◌, refl, sym, ◌∙◌, ap}
use mathlib.Core.Bool.{Bool, true, false, cond}
use mathlib.Core.List.{List, ◌∷◌, map}
use native.Mathlib.Omega.{arith}
use lib.Dec.{leb}
use lib.IntN.{ℤ, ◌+ℤ◌, +ℤ_assoc, +ℤ_comm}
use lib.ListN.{length}
use borrow.Author.Tests.{le-leb}
use Rattle.integers.specs.Totals.{total, those}
use Rattle.closing.specs.TwoForOne.{Inserted, here, later, TwoForOne}

swap : (a b c : ℤ) → a +ℤ (b +ℤ c) ≡ b +ℤ (a +ℤ c)
swap a b c = sym (+ℤ_assoc a b c) ∙ ap (λ (s : ℤ). s +ℤ c) (+ℤ_comm a b) ∙ +ℤ_assoc b a c

-- ---- one put in
module _ {A : Type 0} {z : A} where
  inserted_total : (g : A → ℤ) {rest whole : List A} → Inserted z rest whole → total g whole ≡ g z +ℤ total g rest
  unfolding total
  inserted_total g here = refl
  inserted_total g (later {w} {rest} i) = ap (λ (s : ℤ). g w +ℤ s) (inserted_total g i) ∙ swap (g w) (g z) (total g rest)

  inserted_passes : (p : A → Bool) → p z ≡ true → {rest whole : List A} → Inserted z rest whole → Inserted z (those p rest) (those p whole)
  unfolding those
  inserted_passes p e here = rw e here
  inserted_passes p e (later {w} {rest} {whole} i) = go (those p rest) (those p whole) (inserted_passes p e i) (p w)
    where
      go : (vs ws : List A) → Inserted z vs ws → (t : Bool) → Inserted z (cond t (w ∷ vs) vs) (cond t (w ∷ ws) ws)
      go vs ws i true = later i
      go vs ws i false = i

  inserted_fails : (p : A → Bool) → p z ≡ false → {rest whole : List A} → Inserted z rest whole → those p whole ≡ those p rest
  unfolding those
  inserted_fails p e here = rw e
  inserted_fails p e (later {w} i) = ap (λ (l : List A). cond (p w) (w ∷ l) l) (inserted_fails p e i)

  inserted_some : {rest whole : List A} → Inserted z rest whole → leb 1 (length whole) ≡ true
  inserted_some (here {rest}) = le-leb 1 (length (z ∷ rest)) (omega arith)
  inserted_some (later {w} {rest} {whole} i) = le-leb 1 (length (w ∷ whole)) (omega arith)

  inserted_image : {B : Type 0} (f : A → B) {rest whole : List A} → Inserted z rest whole → Inserted (f z) (map f rest) (map f whole)
  inserted_image f here = here
  inserted_image f (later i) = later (inserted_image f i)

-- ---- one taken out, two put in
module _ {A : Type 0} {u x y : A} {old new : List A} (k : TwoForOne u x y old new) where
  pub total_stays : (g : A → ℤ) → g x +ℤ g y ≡ g u → total g new ≡ total g old
  total_stays g e =
      inserted_total g k.second
      ∙ ap (λ (s : ℤ). g y +ℤ s) (inserted_total g k.first)
      ∙ swap (g y) (g x) rest
      ∙ sym (+ℤ_assoc (g x) (g y) rest)
      ∙ ap (λ (s : ℤ). s +ℤ rest) e
      ∙ sym (inserted_total g k.one)
    where
      rest : ℤ
      rest = total g k.others

  pub those_stay : (p : A → Bool) → p u ≡ false → p x ≡ false → p y ≡ false → those p new ≡ those p old
  those_stay p a b c = inserted_fails p c k.second ∙ inserted_fails p b k.first ∙ sym (inserted_fails p a k.one)

  pub those_for_one : (p : A → Bool) → p u ≡ true → p x ≡ true → p y ≡ true → TwoForOne u x y (those p old) (those p new)
  those_for_one p a b c =
      record {
        others = those p k.others;
        with_first = those p k.with_first;
        one = inserted_passes p a k.one;
        first = inserted_passes p b k.first;
        second = inserted_passes p c k.second;
      }

  pub images_for_one : {B : Type 0} (f : A → B) → TwoForOne (f u) (f x) (f y) (map f old) (map f new)
  images_for_one f =
      record {
        others = map f k.others;
        with_first = map f k.with_first;
        one = inserted_image f k.one;
        first = inserted_image f k.first;
        second = inserted_image f k.second;
      }

  -- neither list is empty
  pub some_old : leb 1 (length old) ≡ true
  some_old = inserted_some k.one

  pub some_new : leb 1 (length new) ≡ true
  some_new = inserted_some k.second
