-- Laws of the definitions in specs/Trends.antt.
use mathlib.Core.Path.{◌≡◌, refl, sym, ◌∙◌, ap}
use mathlib.Core.Bool.{Bool, true, false, ◌&&◌}
use mathlib.Core.List.{List, [], ◌∷◌}
use Prim.Native.Nat.{ℕ, ◌≤◌}
use native.Mathlib.Omega.{arith}
use lib.Dec.{leb}
use lib.Ieee.{Float}
use lib.ListN.{length, set, drop}
use borrow.Author.Tests.{leb-true}
use Rattle.integers.specs.Sums.{both}
use Rattle.rules.specs.declared.Trend.{Trend}
use Rattle.strip.specs.Promise.{TrendPromise}
use Rattle.dullavane.specs.Trends.{strip_numbers, drawn_numbers, trend_told, strip_after, drawn_after, TrendCalled}

pub dullavane_trend_only : {part : List ℕ} {xs ss : List Float} {ns : List ℕ} {r r₂ : ℕ} {xs' xs₂ ss' ss₂ : List Float} {ns' ns₂ : List ℕ} →
    TrendCalled part xs ss ns r xs' ss' ns' → TrendCalled part xs ss ns r₂ xs₂ ss₂ ns₂ → (r ≡ r₂) × (xs' ≡ xs₂) × (ss' ≡ ss₂) × (ns' ≡ ns₂)
dullavane_trend_only a b = (a.reply ∙ sym b.reply, a.points ∙ sym b.points, a.strip ∙ sym b.strip, a.drawn ∙ sym b.drawn)

-- one store
pub one_store : {A : Type 0} (xs : List A) (a : A) → 1 ≤ length xs → set xs 0 a ≡ a ∷ drop 1 xs
one_store (x ∷ xs) a long = refl
one_store [] a long = absurd (omega arith)

-- ---- how the promise is met
module _ (part : List ℕ) (xs ss : List Float) (ns : List ℕ) where
  abbrev fits : Bool
  fits = leb strip_numbers (length ss) && leb drawn_numbers (length ns)

  pub record Room : Type 0 where
    pub strip : strip_numbers ≤ length ss
    pub drawn : drawn_numbers ≤ length ns

  pub has_room : fits ≡ true → Room
  has_room e =
      let b = both (leb strip_numbers (length ss)) (leb drawn_numbers (length ns)) e in
      record { strip = leb-true strip_numbers (length ss) b.0; drawn = leb-true drawn_numbers (length ns) b.1 }

  pub trend_no_room : fits ≡ false → {r : ℕ} → r ≡ 12 → TrendCalled part xs ss ns r xs ss ns
  trend_no_room h e = record { reply = e ∙ rw h; points = rw h; strip = rw h; drawn = rw h }

  pub trend_was_told : fits ≡ true → (t : Trend) {xs' : List Float} → TrendPromise part xs t xs' → {r : ℕ} {ss' : List Float} {ns' : List ℕ} → r ≡ trend_told t →
      ss' ≡ strip_after t ss → ns' ≡ drawn_after t ns → TrendCalled part xs ss ns r xs' ss' ns'
  trend_was_told h t p e f g = record {
    reply = rw h (e ∙ ap trend_told p.reply);
    points = rw h p.points;
    strip = rw h (f ∙ ap (λ (x : Trend). strip_after x ss) p.reply);
    drawn = rw h (g ∙ ap (λ (x : Trend). drawn_after x ns) p.reply);
  }
