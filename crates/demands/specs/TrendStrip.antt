-- What proofs/TrendStrip.antt speaks of: what a caller from C has after `dullavane_trend` (02, R-2).
use Rattle.std.specs.Prelude.{◌≡◌, true, List, ℕ, Float, get_or}
use Rattle.rules.specs.declared.Refusal.{Refusal}
use Rattle.rules.specs.declared.Strip.{Strip}
use Rattle.rules.specs.Refusals.{located, number}
use Rattle.strip.specs.Shown.{at, can_come, DrawnShown, BadShown}
use Rattle.dullavane.specs.Words.{said}
use Rattle.dullavane.proofs.WordsLaws.{Apart}

-- the record in the first three floats of a list
abbrev pub strip_in : List Float → Strip
strip_in ss = record { lowest = at ss 0; highest = at ss 1; last = at ss 2 }

-- what is replied and left, of lists that were lent
module _ (part : List ℕ) (xs ss : List Float) (ns : List ℕ) (r : ℕ) (xs' ss' : List Float) (ns' : List ℕ) where
  -- 0 and 75: a good unit's strip
  pub record CallDrawn : Type 0 where
    pub answered : r ≡ 0
    pub count : get_or ns' 0 0 ≡ 75
    pub shown : DrawnShown part xs (strip_in ss') xs'

  -- 0 and 0: a bad unit
  pub record CallBad : Type 0 where
    pub answered : r ≡ 0
    pub count : get_or ns' 0 0 ≡ 0
    pub shown : BadShown part xs (strip_in ss') xs'

  -- number and t as the header's macros take them apart, place 0; nothing is written
  pub record CallRefused : Type 0 where
    pub refusal : Refusal
    pub told : r ≡ said (located 0 refusal)
    pub apart : Apart (located 0 refusal)
    pub comes : can_come (number refusal) ≡ true
    pub points : xs' ≡ xs
    pub strip : ss' ≡ ss
    pub drawn : ns' ≡ ns

  pub data CallOutcome : Type 0 where
    drawn : CallDrawn → CallOutcome
    bad : CallBad → CallOutcome
    refused : CallRefused → CallOutcome
