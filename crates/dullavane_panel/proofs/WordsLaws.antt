-- Laws of the numbers and words that C hands over.
use mathlib.Core.Path.{◌≡◌, refl}
use mathlib.Core.Bool.{true}
use Prim.Native.Nat.{ℕ, zero, suc, ◌≤◌, ◌<◌}
use native.Mathlib.Omega.{arith}
use borrow.Author.Tests.{ltb-true, lt-ltb, le-ltb}
use lib.Dec.{ltb}
use Rattle.report_row.proofs.PieceLaws.{both_first, both_second}
use Rattle.rules.specs.declared.Key.TheVariants.{Show}
use Rattle.rules.specs.declared.Reason.TheVariants.{NoGoodUnit}
use Rattle.rules.specs.declared.Standing.TheVariants.{Default}
use Rattle.pages.specs.declared.Who.TheVariants.{Residual}
use Rattle.dullavane_panel.specs.Words.{first_narrow, member_narrow, number_narrow, who_in, standing_in, key_of, members_of}

-- ---- the residual's page has no number
pub residual_narrow : (residual n : ℕ) → (residual ≡ 0 → ⊥) → ltb residual 2 ≡ number_narrow residual n
residual_narrow zero n h = absurd (h refl)
residual_narrow (suc k) n h = refl

pub residual_in : (residual n : ℕ) → (residual ≡ 0 → ⊥) → Residual ≡ who_in residual n
residual_in zero n h = absurd (h refl)
residual_in (suc k) n h = refl

-- what passes with a standing passes with every one that passes
pub narrow_live : (residual n standing : ℕ) → member_narrow residual n standing ≡ true → member_narrow residual n 0 ≡ true
unfolding member_narrow
narrow_live residual n standing e = both_second (ltb standing 4) (number_narrow residual n) e

pub unit_narrow : (residual n : ℕ) → member_narrow residual n 0 ≡ true → residual ≡ 0 → n < 65_536
unfolding member_narrow
unit_narrow zero n e z = ltb-true n 65_536 e
unit_narrow (suc k) n e z = absurd (omega arith)

pub first_fits : (n direction : ℕ) → first_narrow n direction ≡ true → n < 65_536
unfolding first_narrow
first_fits n direction e = ltb-true n 65_536 (both_first (ltb n 65_536) (ltb direction 2) e)

-- ---- the numbers past those that are named
pub last_standing : (n : ℕ) → (n ≡ 0 → ⊥) → (n ≡ 1 → ⊥) → (n ≡ 2 → ⊥) → Default NoGoodUnit ≡ standing_in n
last_standing zero a b c = absurd (a refl)
last_standing (suc zero) a b c = absurd (b refl)
last_standing (suc (suc zero)) a b c = absurd (c refl)
last_standing (suc (suc (suc n))) a b c = refl

pub other_key : (n : ℕ) → (n ≡ 1 → ⊥) → (n ≡ 2 → ⊥) → (n ≡ 3 → ⊥) → Show ≡ key_of n
other_key zero a b c = refl
other_key (suc zero) a b c = absurd (a refl)
other_key (suc (suc zero)) a b c = absurd (b refl)
other_key (suc (suc (suc zero))) a b c = absurd (c refl)
other_key (suc (suc (suc (suc n)))) a b c = refl

-- ---- how many members words say
pub members_over : (members standing : ℕ) → 65_536 ≤ members → 0 ≡ members_of members standing
members_over members standing h = rw (le-ltb members 65_536 h)

pub standing_over : (members standing : ℕ) → members < 65_536 → 4 ≤ standing → 0 ≡ members_of members standing
standing_over members standing h k = rw (lt-ltb members 65_536 h, le-ltb standing 4 k)

pub members_there : (members standing : ℕ) → members < 65_536 → standing < 4 → members ≡ members_of members standing
members_there members standing h k = rw (lt-ltb members 65_536 h, lt-ltb standing 4 k)
