-- Laws of the members' rows: how many of the first rows are of the set's regions, and which member such a row is. A row is the n-th member where n rows before
-- it are of the set's regions, and it is one itself.
use mathlib.Core.Path.{◌≡◌, refl, ◌∙◌}
use mathlib.Core.Bool.{Bool, true}
use mathlib.Core.List.{List, [], ◌∷◌}
use Prim.Native.Nat.{ℕ, zero, suc, ◌+◌, ◌≤◌, ◌<◌}
use native.Mathlib.Omega.{arith}
use lib.Dec.{leb}
use lib.ListN.{length, get_or, get_or-eq_default}
use borrow.Author.Tests.{leb-true}
use Rattle.integers.specs.Sums.{one}
use Rattle.integers.proofs.Sums.{none_below, every_at}
use Rattle.answer.proofs.ReportLaws.{up_to_none, up_to_more, up_to_few, found_at}
use Rattle.panel.specs.Press.{set_rows}
use Rattle.panel.specs.Past.{of_set, Homed}

-- what stands in a list does not go by what stands past it
any_default : {A : Type 0} (xs : List A) (k : ℕ) (d e : A) → k < length xs → get_or xs k d ≡ get_or xs k e
any_default [] k d e h = none_below k h
any_default (x ∷ xs) zero d e h = refl
any_default (x ∷ xs) (suc k) d e h = any_default xs k d e (omega arith)

module _ (set : ℕ) (homes : List ℕ) where
  abbrev pub rows : ℕ → List ℕ
  rows n = set_rows set n homes

  pub rows_none : length (rows 0) ≡ 0
  unfolding set_rows
  rows_none = up_to_none (of_set set homes)

  pub rows_more : (n : ℕ) (t : Bool) → of_set set homes n ≡ t → length (rows (n + 1)) ≡ length (rows n) + one t
  unfolding set_rows
  rows_more n t e = rw (← e) (up_to_more (of_set set homes) n)

  pub rows_few : (n : ℕ) → length (rows n) ≤ n
  unfolding set_rows
  rows_few n = up_to_few (of_set set homes) n

  pub row_at_is : (n i : ℕ) → i < n → of_set set homes i ≡ true → get_or (rows n) (length (rows i)) n ≡ i
  unfolding set_rows
  row_at_is n i h e = let f = found_at (of_set set homes) n i h e in any_default (rows n) (length (rows i)) n 0 f.0 ∙ f.1

  pub past_rows : (n k : ℕ) → length (rows n) ≤ k → get_or (rows n) k n ≡ n
  past_rows n k h = get_or-eq_default (rows n) n h

-- a home names a region, or its row is passed over
pub home_least : {units : ℕ} {homes : List ℕ} → Homed units homes → (i : ℕ) → i < units → get_or homes i 0 ≤ 10
home_least {units} {homes} h i l = leb-true _ _ (every_at units (λ i. leb (get_or homes i 0) 10) h.fine i l)
