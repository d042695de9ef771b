-- There is a party of a sign exactly where the performances of that sign weigh.
use mathlib.Core.Path.{◌≡◌, refl, sym, ◌∙◌, ap}
use mathlib.Core.Bool.{Bool, true, false, ◌||◌}
use mathlib.Core.List.{List, [], ◌∷◌}
use Prim.Native.Nat.{ℕ, suc, ◌+◌}
use native.Mathlib.Omega.{arith}
use lib.Dec.{leb, ltb}
use lib.IntN.{ℤ, pos, negsuc}
use lib.Signed.{lt_z}
use borrow.Author.Tests.{ltb-true, ltb-false, lt-ltb, le-ltb, le-leb}
use Rattle.integers.specs.Pairs.{gain, loss}
use Rattle.integers.specs.Totals.{totalℕ}
use Rattle.integers.proofs.Totals.{totalℕ_map}
use Rattle.rules.specs.Book.{Requirement, Book}
use Rattle.rules.specs.Members.{members}
use Rattle.rules.specs.Factors.{helpful, unhelpful}
use Rattle.rules.specs.Cents.{any_weight}
use Rattle.closing.specs.Parties.{some, some_helpful, some_unhelpful}

-- a test of one more, and the weight of one more
more : (t : Bool) (n k : ℕ) → t ≡ ltb 0 n → t || leb 1 k ≡ leb 1 (n + k)
more true n k e = sym (le-leb 1 (n + k) (omega (arith, ltb-true 0 n (sym e))))
more false n k e = let z : n ≡ 0 = omega (arith, ltb-false 0 n (sym e)) in ap (leb 1) (same n k z)
  where
    same : (n k : ℕ) → n ≡ 0 → k ≡ n + k
    same n k z = omega arith

some_weighs : {A : Type 0} (p : A → Bool) (f : A → ℕ) → ((x : A) → p x ≡ ltb 0 (f x)) → (xs : List A) → some p xs ≡ leb 1 (totalℕ f xs)
unfolding some totalℕ
some_weighs p f e [] = refl
some_weighs p f e (x ∷ xs) = ap (λ (t : Bool). p x || t) (some_weighs p f e xs) ∙ more (p x) (f x) (totalℕ f xs) (e x)

above : (z : ℤ) → lt_z (pos 0) z ≡ ltb 0 (gain z)
above (pos n) = refl
above (negsuc n) = refl

below : (z : ℤ) → lt_z z (pos 0) ≡ ltb 0 (loss z)
below (pos n) = le-ltb n 0 (omega arith)
below (negsuc n) = sym (lt-ltb 0 (suc n) (omega arith))

module _ (b : Book) (q : Requirement) where
  pub some_helpful_is : some_helpful b q ≡ leb 1 (totalℕ (λ m. gain m.payment) (members b q))
  some_helpful_is = some_weighs _ (λ m. gain m.payment) (λ m. above m.payment) (members b q)

  pub some_unhelpful_is : some_unhelpful b q ≡ leb 1 (totalℕ (λ m. loss m.payment) (members b q))
  some_unhelpful_is = some_weighs _ (λ m. loss m.payment) (λ m. below m.payment) (members b q)

  -- as the pool asks
  pub helpful_weighs : any_weight (helpful (members b q)) ≡ some_helpful b q
  helpful_weighs = ap (leb 1) (totalℕ_map (λ w. w) (λ m. gain m.payment) (members b q)) ∙ sym some_helpful_is

  pub unhelpful_weighs : any_weight (unhelpful (members b q)) ≡ some_unhelpful b q
  unhelpful_weighs = ap (leb 1) (totalℕ_map (λ w. w) (λ m. loss m.payment) (members b q)) ∙ sym some_unhelpful_is
