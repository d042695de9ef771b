-- R-2, THE TREND STRIP, over C: whatever `dullavane_trend` replies and leaves is a good unit's strip with all that `strip`, Shown says of it, a bad unit's three
-- zeros, or a refusal that leaves every list as it came. 75 or 0 in the last list tells a plant on its set point from a bad one.
use mathlib.Core.Path.{◌≡◌, refl, sym, ap, subst}
use mathlib.Core.Bool.{Bool, true, false, cond, ◌&&◌}
use mathlib.Core.List.{List}
use Prim.Native.Nat.{ℕ, ◌<◌}
use native.Mathlib.Omega.{arith}
use lib.Dec.{leb, eqb}
use lib.Ieee.{Float}
use lib.ListN.{length, get_or}
use Rattle.rules.specs.declared.Refusal.{Refusal}
use Rattle.rules.specs.declared.Refusal.TheVariants.{TooShort}
use Rattle.rules.specs.declared.Strip.{Strip}
use Rattle.rules.specs.declared.Trend.{Trend}
use Rattle.rules.specs.declared.Trend.TheVariants.{Drawn, Bad, Refused}
use Rattle.rules.specs.Refusals.{located, number}
use Rattle.rules.specs.Strip.{strip_reply, trend_of}
use Rattle.strip.specs.Promise.{TrendPromise}
use Rattle.strip.specs.Shown.{DrawnShown, BadShown}
use Rattle.strip.proofs.Shown.{drawn_shown, bad_shown, refused_shown}
use Rattle.dullavane.specs.Trends.{strip_numbers, drawn_numbers, trend_told, strip_after, drawn_after, TrendCalled}
use Rattle.dullavane.proofs.WordsLaws.{told_apart}
use Rattle.demands.specs.TrendStrip.{strip_in, CallOutcome, drawn, bad, refused}

located_low : (r : Refusal) → (located 0 r).place < 0x1_0000
located_low r = go (eqb (number r) 11)
  where
    go : (b : Bool) → cond b 0 0 < 0x1_0000
    go true = omega arith
    go false = omega arith

module _ (part : List ℕ) (xs ss : List Float) (ns : List ℕ) {r : ℕ} {xs' ss' : List Float} {ns' : List ℕ} where
  -- by what the call below answers
  by_trend : (t : Trend) → TrendPromise part xs t xs' → r ≡ trend_told t → ss' ≡ strip_after t ss → ns' ≡ drawn_after t ns →
      CallOutcome part xs ss ns r xs' ss' ns'
  by_trend (Drawn s) p e f g =
      let told : s ≡ strip_in ss' = sym (ap strip_in f) in
      drawn (record {
        answered = e;
        count = ap (λ (us : List ℕ). get_or us 0 0) g;
        shown = subst (λ (s : Strip). DrawnShown part xs s xs') told (drawn_shown part xs xs' s p);
      })
  by_trend (Bad s) p e f g =
      let told : s ≡ strip_in ss' = sym (ap strip_in f) in
      bad (record {
        answered = e;
        count = ap (λ (us : List ℕ). get_or us 0 0) g;
        shown = subst (λ (s : Strip). BadShown part xs s xs') told (bad_shown part xs xs' s p);
      })
  by_trend (Refused x) p e f g =
      let q = refused_shown part xs xs' x p in
      refused (record {
        refusal = x;
        told = e;
        apart = told_apart (located 0 x) (located_low x);
        comes = q.comes;
        points = q.unwritten;
        strip = f;
        drawn = g;
      })

  pub every_strip : TrendCalled part xs ss ns r xs' ss' ns' → CallOutcome part xs ss ns r xs' ss' ns'
  every_strip c = go (leb strip_numbers (length ss) && leb drawn_numbers (length ns)) refl
    where
      -- short lists are 12; past that the call below answers
      go : (b : Bool) → (leb strip_numbers (length ss) && leb drawn_numbers (length ns)) ≡ b → CallOutcome part xs ss ns r xs' ss' ns'
      go true e =
          by_trend (trend_of (strip_reply (length xs) part)) (record { reply = refl; points = rw e at c.points }) (rw e at c.reply) (rw e at c.strip)
          (rw e at c.drawn)
      go false e =
          refused (record {
            refusal = TooShort;
            told = rw e at c.reply;
            apart = told_apart (located 0 TooShort) (located_low TooShort);
            comes = refl;
            points = rw e at c.points;
            strip = rw e at c.strip;
            drawn = rw e at c.drawn;
          })
