-- Numbers that were read, handed in again: they fit their fields, which hold the same bytes.
use mathlib.Core.Path.{◌≡◌, ◌∙◌, ap}
use mathlib.Core.Bool.{true, cond}
use mathlib.Core.List.{List}
use Prim.Native.Nat.{ℕ, zero, suc, ◌+◌, ◌<◌}
use native.Mathlib.Omega.{arith}
use lib.IntN.{ℤ, pos, nat_abs}
use borrow.Author.Tests.{lt-ltb}
use Rattle.integers.proofs.Sums.{none_below}
use Rattle.rules.specs.Layout.{Field, number_in}
use Rattle.rules.specs.Laid.{below, halved, turned}
use Rattle.laws.proofs.ReadBack.{signed_by}
use Rattle.laws.proofs.HandedLaws.{word_of, signed_fits, signed_turned, signed_word_of}

-- ---- numbers of one field
pub below_of : (end n : ℕ) (x : ℤ) → x ≡ pos n → n < end → below end x ≡ true
below_of end n x e h = ap (below end) e ∙ lt-ltb n end h

pub held : (end n : ℕ) (x : ℤ) → x ≡ pos n → n < end → cond (below end x) (nat_abs x) 0 ≡ n
held end n x e h = ap (λ (y : ℤ). cond (below end y) (nat_abs y) 0) e ∙ word_of end n h

pub halved_of : (half n : ℕ) (x : ℤ) → x ≡ signed_by half n → n < half + half → halved half x ≡ true
halved_of half n x e h = ap (halved half) e ∙ signed_fits half n h

pub held_signed : (half n : ℕ) (x : ℤ) → x ≡ signed_by half n → n < half + half → cond (halved half x) (turned (half + half) x) 0 ≡ n
held_signed half n x e h = ap (λ (y : ℤ). cond (halved half y) (turned (half + half) y) 0) e ∙ signed_word_of half n h

pub turned_of : (half n : ℕ) (x : ℤ) → x ≡ signed_by half n → n < half + half → turned (half + half) x ≡ n
turned_of half n x e h = ap (turned (half + half)) e ∙ signed_turned half n h

-- an index below one, two, six
pub at_one : (P : ℕ → Type 0) → P 0 → (i : ℕ) → i < 1 → P i
at_one P a zero h = a
at_one P a (suc i) h = none_below i (omega arith)

pub at_two : (P : ℕ → Type 0) → P 0 → P 1 → (i : ℕ) → i < 2 → P i
at_two P a b zero h = a
at_two P a b (suc i) h = at_one (λ j. P (suc j)) b i (omega arith)

pub at_six : (P : ℕ → Type 0) → P 0 → P 1 → P 2 → P 3 → P 4 → P 5 → (i : ℕ) → i < 6 → P i
at_six P a b c d e f zero h = a
at_six P a b c d e f (suc zero) h = b
at_six P a b c d e f (suc (suc zero)) h = c
at_six P a b c d e f (suc (suc (suc zero))) h = d
at_six P a b c d e f (suc (suc (suc (suc i)))) h = at_two (λ j. P (suc (suc (suc (suc j))))) e f i (omega arith)

-- the one number of a field, from what is handed in
pub one_held : (f : Field) (end : ℕ) (x : ℤ) (bs : List ℕ) → x ≡ pos (number_in f 0 bs) → number_in f 0 bs < end → (i : ℕ) → i < 1 →
    cond (below end x) (nat_abs x) 0 ≡ number_in f i bs
one_held f end x bs e h = at_one (λ i. cond (below end x) (nat_abs x) 0 ≡ number_in f i bs) (held end (number_in f 0 bs) x e h)
