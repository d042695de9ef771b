-- The call that draws a unit's trend strip (02, R-2): its points and its small record as floats, and how many points are drawn.
use Rattle.std.specs.Prelude.{◌≡◌, ◌&&◌, List, ◌∷◌, ℕ, leb, Float, length, drop}
use Rattle.rules.specs.declared.Refusal.TheVariants.{TooShort}
use Rattle.rules.specs.declared.Strip.{Strip}
use Rattle.rules.specs.declared.Trend.{Trend}
use Rattle.rules.specs.declared.Trend.TheVariants.{Drawn, Bad, Refused}
use Rattle.rules.specs.Quantities.{points}
use Rattle.rules.specs.Refusals.{Reply, unless, located}
use Rattle.rules.specs.Book.{Unit}
use Rattle.rules.specs.Strip.{strip_reply, trend_of, points_after}
use Rattle.dullavane.specs.Words.{said}

-- lowest, highest and last; numbers past them as they were
abbrev pub strip_numbers : ℕ
strip_numbers = 3

abbrev pub with_strip : Strip → List Float → List Float
with_strip s xs = s.lowest ∷ s.highest ∷ s.last ∷ drop strip_numbers xs

-- how many points are drawn: all 75, or none of a bad unit's
abbrev pub drawn_numbers : ℕ
drawn_numbers = 1

abbrev pub with_drawn : ℕ → List ℕ → List ℕ
with_drawn n xs = n ∷ drop drawn_numbers xs

-- 12 for each of the three lists, before 1
abbrev pub trend_answer : List ℕ → List Float → List Float → List ℕ → Reply Unit
trend_answer part xs ss ns = unless (leb strip_numbers (length ss) && leb drawn_numbers (length ns)) TooShort (strip_reply (length xs) part)

-- ---- what is told of the answer of `strip`
-- number and t; a record alone has no place
abbrev pub trend_told : Trend → ℕ
trend_told (Drawn s) = 0
trend_told (Bad s) = 0
trend_told (Refused r) = said (located 0 r)

abbrev pub strip_after : Trend → List Float → List Float
strip_after (Drawn s) ss = with_strip s ss
strip_after (Bad s) ss = with_strip s ss
strip_after (Refused r) ss = ss

abbrev pub drawn_after : Trend → List ℕ → List ℕ
drawn_after (Drawn s) ns = with_drawn points ns
drawn_after (Bad s) ns = with_drawn 0 ns
drawn_after (Refused r) ns = ns

pub record TrendCalled (part : List ℕ) (xs ss : List Float) (ns : List ℕ) (r : ℕ) (xs' ss' : List Float) (ns' : List ℕ) : Type 0 where
  pub reply : r ≡ trend_told (trend_of (trend_answer part xs ss ns))
  pub points : xs' ≡ points_after (trend_answer part xs ss ns) xs
  pub strip : ss' ≡ strip_after (trend_of (trend_answer part xs ss ns)) ss
  pub drawn : ns' ≡ drawn_after (trend_of (trend_answer part xs ss ns)) ns
