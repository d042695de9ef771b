-- The tally as the firmware holds it: eight words, in the order of its fields. A word over its field's width is a tally out of range (01, Numbers the box
-- can say no with); without eight words there is no tally to judge, so 12 is told first.
use Rattle.std.specs.Prelude.{◌≡◌, Bool, ◌&&◌, List, [], ◌∷◌, ◌++◌, ℕ, ◌+◌, ◌*◌, ◌≤◌, ◌<◌, leb, ltb, length, get_or, drop, Result, Ok, Err, ⊤}
use Rattle.rules.specs.declared.Refusal.{Refusal}
use Rattle.rules.specs.declared.Refusal.TheVariants.{WrongState, TooShort}
use Rattle.rules.specs.declared.Located.{Located}
use Rattle.rules.specs.Refusals.{Reply, LocatedReply, taken, refused, unless, number, point}
use Rattle.interval.specs.declared.Tally.{Tally}
use Rattle.interval.specs.declared.Step.{Step}

-- how many words a tally takes
abbrev pub tally_words : ℕ
tally_words = 8

abbrev pub words_of : Tally → List ℕ
words_of t =
    t.units ∷ t.requirements ∷ t.records ∷ t.least ∷ t.smoothing ∷ t.limit ∷ t.percent ∷ t.interval ∷ []

-- the words of a tally, and those past the eight as they were
abbrev pub with_words : Tally → List ℕ → List ℕ
with_words t ws = words_of t ++ drop tally_words ws

abbrev pub tally_of : List ℕ → Tally
tally_of ws =
    record {
      units = get_or ws 0 0;
      requirements = get_or ws 1 0;
      records = get_or ws 2 0;
      least = get_or ws 3 0;
      smoothing = get_or ws 4 0;
      limit = get_or ws 5 0;
      percent = get_or ws 6 0;
      interval = get_or ws 7 0;
    }

-- each word within its field's width: 16, 16, 16, 32, 16, 8, 8 and 32 bits; no word passes 32
unfoldable pub words_fit : List ℕ → Bool
words_fit ws =
    ltb (get_or ws 0 0) 65_536
    && (ltb (get_or ws 1 0) 65_536
    && (ltb (get_or ws 2 0) 65_536
    && (ltb (get_or ws 4 0) 65_536
    && (ltb (get_or ws 5 0) 256
    && ltb (get_or ws 6 0) 256))))

-- the tally that words hold, or why they hold none
unfoldable pub held : List ℕ → Reply Tally
held ws = unless (leb tally_words (length ws)) TooShort (unless (words_fit ws) WrongState (taken (tally_of ws)))

-- a reply as functions hand it on
abbrev pub handed : {A : Type 0} → Reply A → Result A Refusal
handed (taken a) = Ok a
handed (refused r) = Err r

-- 0, or the refusal's number
abbrev pub reply_number : {A : Type 0} → Reply A → ℕ
reply_number (taken a) = 0
reply_number (refused r) = number r

-- ---- where a refusal is, in one number of 64 bits: its number in bits 0 to 31, the place in bits 32 to 47, t in bits 48 to 63 (02, R-1)
abbrev pub said : Located → ℕ
said r = number r.refusal + r.place * 0x1_0000_0000 + point r.refusal * 0x1_0000_0000_0000

-- 0, or the refusal
abbrev pub reply_said : {A : Type 0} → LocatedReply A → ℕ
reply_said (taken a) = 0
reply_said (refused r) = said r

-- ---- after a step: 0 or the refusal, and the next tally's words or the words as they came
abbrev pub taking_said : Result ⊤ Located → ℕ
taking_said (Ok tt) = 0
taking_said (Err r) = said r

abbrev pub told : Step → ℕ
told s = taking_said s.taking

abbrev pub words_left : Result ⊤ Located → Tally → List ℕ → List ℕ
words_left (Ok tt) t ws = with_words t ws
words_left (Err r) t ws = ws

abbrev pub words_after : Step → List ℕ → List ℕ
words_after s ws = words_left s.taking s.tally ws

pub record Narrow (ws : List ℕ) : Type 0 where
  pub units : get_or ws 0 0 < 65_536
  pub requirements : get_or ws 1 0 < 65_536
  pub records : get_or ws 2 0 < 65_536
  pub smoothing : get_or ws 4 0 < 65_536
  pub limit : get_or ws 5 0 < 256
  pub percent : get_or ws 6 0 < 256

-- words that hold a tally
pub record Held (ws : List ℕ) : Type 0 where
  pub long : tally_words ≤ length ws
  pub narrow : Narrow ws
  pub tally : held ws ≡ taken (tally_of ws)
