-- Laws of the definitions in specs/Made.antt.
use mathlib.Core.Path.{◌≡◌, refl, ◌∙◌, ap, ap₂}
use mathlib.Core.Bool.{Bool, true, false, cond, ◌&&◌}
use Prim.Native.Nat.{ℕ, ◌+◌, ◌≤◌}
use native.Mathlib.Omega.{arith}
use lib.IntN.{ℤ, pos}
use lib.Signed.{lt_z}
use Rattle.rules.specs.declared.Direction.{Direction}
use Rattle.rules.specs.declared.Direction.TheVariants.{Raise, Lower}
use Rattle.rules.specs.declared.Reason.TheVariants.{BadUnit}
use Rattle.rules.specs.declared.Standing.{Standing}
use Rattle.rules.specs.Standings.{standing, live_or}
use Rattle.interval.specs.Lent.{Lent, in_row}
use Rattle.kept.specs.Kept.{figure, reliable_of, region_of, good_of, residual_default, row_member}
use Rattle.answer.specs.declared.Field.{Field}
use Rattle.answer.specs.declared.Field.TheVariants.{Payment, Used, Unused}
use Rattle.answer.specs.Made.{reliable_at, performance_at, defaults_at, field_at, field_of, made, performed}

pub reliable_at_≤ : (d : Direction) → reliable_at d ≤ 3
reliable_at_≤ Raise = omega arith
reliable_at_≤ Lower = omega arith

pub performance_at_≤ : (d : Direction) → performance_at d ≤ 1
performance_at_≤ Raise = omega arith
performance_at_≤ Lower = omega arith

pub defaults_at_≤ : (d : Direction) → defaults_at d ≤ 3
defaults_at_≤ Raise = omega arith
defaults_at_≤ Lower = omega arith

pub field_at_≤ : (f : Field) → field_at f ≤ 2
field_at_≤ Payment = omega arith
field_at_≤ Used = omega arith
field_at_≤ Unused = omega arith

pub made_same : {s s' : Standing} {x x' p p' u u' v v' : ℤ} → s ≡ s' → x ≡ x' → p ≡ p' → u ≡ u' → v ≡ v' → made s x p u v ≡ made s' x' p' u' v'
made_same {s} {s'} {x} {x'} {p} {p'} {u} {u'} {v} {v'} hs hx hp hu hv =
    ap₂ (λ (a : Standing) (b : ℤ). made a b p u v) hs hx ∙ ap₂ (λ (a b : ℤ). made s' x' a b v) hp hu ∙ ap (λ (a : ℤ). made s' x' p' u' a) hv

live_is : (a b : Bool) (x y : ℤ) → live_or (standing a b BadUnit) x y ≡ cond (a && b) x y
live_is true true x y = refl
live_is true false x y = refl
live_is false b x y = refl

-- ---- what stands at the direction's place
module _ (l : Lent) where
  pub reliable_is : (d : Direction) (r : ℕ) → lt_z (pos 0) (figure l r (reliable_at d)) ≡ reliable_of l d r
  reliable_is Raise r = refl
  reliable_is Lower r = refl

  pub residual_default_is : (d : Direction) (f r : ℕ) → figure l r (4 + defaults_at d + f) ≡ residual_default l d f r
  residual_default_is Raise f r = refl
  residual_default_is Lower f r = refl

  -- a unit's number: its performance, or the default of the field
  pub number_is :
      (f : Field) (d : Direction) (i : ℕ) →
      field_of f (row_member l d i) ≡
      cond (performed f && (reliable_of l d (region_of l i) && good_of l i)) (in_row l.rows i (performance_at d))
      (in_row l.rows i (2 + defaults_at d + field_at f))
  number_is Payment Raise i = live_is (reliable_of l Raise (region_of l i)) (good_of l i) (in_row l.rows i 0) (in_row l.rows i 2)
  number_is Payment Lower i = live_is (reliable_of l Lower (region_of l i)) (good_of l i) (in_row l.rows i 1) (in_row l.rows i 5)
  number_is Used Raise i = live_is (reliable_of l Raise (region_of l i)) (good_of l i) (in_row l.rows i 0) (in_row l.rows i 3)
  number_is Used Lower i = live_is (reliable_of l Lower (region_of l i)) (good_of l i) (in_row l.rows i 1) (in_row l.rows i 6)
  number_is Unused Raise i = refl
  number_is Unused Lower i = refl
