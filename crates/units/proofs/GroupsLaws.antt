-- Laws of the definitions in specs/Groups.antt.
use Rattle.std.proofs.Common.{◌≡◌, ℕ, zero, suc, ◌+◌, ◌-◌, ◌≤◌, Bool, true, false, ◌&&◌, ℤ, sym, refl, ap, ◌∙◌, ap₂, add-zero, add-one, arith}
use Rattle.integers.specs.Bounds.{Within}
use Rattle.integers.proofs.Bounds.{within_natural}
use Rattle.integers.specs.Sums.{every, when}
use Rattle.integers.proofs.Sums.{every_none, every_more}

-- nothing is within every bound
pub when_within : {k : ℕ} {x : ℤ} (t : Bool) → Within k x → Within k (when t x)
when_within true h = h
when_within false h = within_natural (omega arith)

-- ---- a test over a part, and over all
module _ (p : ℕ → Bool) where
  pub every_further : (m n : ℕ) → every (m + n) p ≡ (every m p && every n (λ i. p (m + i)))
  every_further m zero = ap (λ (k : ℕ). every k p) (add-zero m) ∙ sym (last (every m p)) ∙ ap (λ (t : Bool). every m p && t) (sym (every_none (λ i. p (m + i))))
    where
      last : (t : Bool) → (t && true) ≡ t
      last true = refl
      last false = refl
  every_further m (suc n) =
      let here : m + suc n ≡ m + n + 1 = omega arith in
      let next : n + 1 ≡ suc n = add-one n in
      ap (λ (k : ℕ). every k p) here ∙ every_more (m + n) p ∙ ap (λ (t : Bool). t && p (m + n)) (every_further m n)
      ∙ regrouped (every m p) (every n (λ i. p (m + i))) (p (m + n))
      ∙ ap (λ (t : Bool). every m p && t) (sym (every_more n (λ i. p (m + i))) ∙ ap (λ (k : ℕ). every k (λ i. p (m + i))) next)
    where
      regrouped : (a b c : Bool) → ((a && b) && c) ≡ (a && (b && c))
      regrouped true b c = refl
      regrouped false b c = refl

  pub every_part : (m n : ℕ) → every m p ≡ true → every n (λ i. p (m + i)) ≡ true → every (m + n) p ≡ true
  every_part m n a b = every_further m n ∙ ap₂ ◌&&◌ a b

  -- a part that fails
  pub part_fails : (m n all : ℕ) → m + n ≤ all → every n (λ i. p (m + i)) ≡ false → every all p ≡ false
  part_fails m n all h e =
      let rest : all ≡ m + n + (all - (m + n)) = omega arith in
      ap (λ (k : ℕ). every k p) rest ∙ every_further (m + n) (all - (m + n))
      ∙ ap (λ (t : Bool). t && every (all - (m + n)) (λ i. p (m + n + i))) (every_further m n ∙ ap (λ (t : Bool). every m p && t) e ∙ none (every m p))
    where
      none : (t : Bool) → (t && false) ≡ false
      none true = refl
      none false = refl
