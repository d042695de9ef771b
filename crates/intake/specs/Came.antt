-- What a book that came is, whatever bytes a file gave: the calls have taken records of some book, one after the other, and tally and lists are as they left
-- them; or they have refused the one that came next.
use Rattle.std.specs.Prelude.{◌≡◌, Bool, List, ℕ, ◌-◌, ◌≤◌, ◌<◌, get_or, take, Err}
use Rattle.rules.specs.declared.Refusal.{Refusal}
use Rattle.rules.specs.declared.Located.{Located}
use Rattle.rules.specs.Refusals.{located}
use Rattle.interval.specs.declared.Tally.{Tally}
use Rattle.interval.specs.declared.Step.{Step}
use Rattle.interval.specs.Tally.{book_end}
use Rattle.interval.specs.Lent.{Lent}
use Rattle.interval.specs.Promises.{ContentsPromise}
use Rattle.chain.specs.Taken.{counts_in}
use Rattle.chain.specs.Chain.{Chain, Refused}
use Rattle.chain.specs.Way.{Call}
use Rattle.reader.specs.declared.Came as c
use Rattle.reader.specs.Arrives.{ReadFrom}
use Rattle.intake.specs.declared.whole.Next as n
use Rattle.intake.specs.declared.whole.Next.{Next}

-- the first so many records of a book were taken, from the lists as they were lent
pub record Came (l₀ : Lent) (records : ℕ) (t : Tally) (l : Lent) : Type 0 where
  pub head : List ℕ
  pub part : ℕ → List ℕ
  pub chain : Chain head part l₀ records t l

-- the table of contents was refused, or the record that came next; l is what the lists hold then
pub data RefusedBook (l₀ : Lent) (why : Located) (l : Lent) : Type 0 where
  at_contents : {head : List ℕ} {x : Refusal} → ContentsPromise head (Err x) → located 0 x ≡ why → l ≡ l₀ → RefusedBook l₀ why l
  at_record :
      {head p : List ℕ} {part : ℕ → List ℕ} {records : ℕ} {t : Tally} {l₁ : Lent} {r : Step} → Chain head part l₀ records t l₁ →
      Call (counts_in head) p records t l₁ r l → Refused r why → RefusedBook l₀ why l

-- a tally that is handed on has so many records in, and a refusal is that of the record behind them; of an input that ends before a book, or fails, nothing is
-- said
abbrev pub TakenTo : (Tally → ℕ) → Lent → Next → Lent → Type 0
TakenTo end l₀ (n.TheVariants.Taken t) l = Came l₀ (end t) t l
TakenTo end l₀ n.TheVariants.Ended l = Unit {0}
TakenTo end l₀ (n.TheVariants.Refused why) l = RefusedBook l₀ why l
TakenTo end l₀ n.TheVariants.Failed l = Unit {0}

-- there is room for the requirements that a tally announces
abbrev pub RoomFor : ℕ → Next → Type 0
RoomFor room (n.TheVariants.Taken t) = t.requirements ≤ room
RoomFor room n.TheVariants.Ended = Unit {0}
RoomFor room (n.TheVariants.Refused why) = Unit {0}
RoomFor room n.TheVariants.Failed = Unit {0}

-- one reading to where bytes are wanted: what stands before stays, and what is there is bytes
pub record ReadHere (from to count : ℕ) (old new : List ℕ) : Type 0 where
  pub inside : count ≤ to - from
  pub before : take from new ≡ take from old
  pub bytes : (i : ℕ) → get_or new i 0 < 256

-- what came of the input, and where it stands: the reading of it is a walk that has ended so
abbrev pub ReadTo : Bool → List ℕ → Lent → Next → List ℕ → Lent → Type 0
ReadTo alone place₀ l₀ (n.TheVariants.Taken t) place l = ReadFrom alone place₀ l₀ (c.TheVariants.Taken t) place l
ReadTo alone place₀ l₀ n.TheVariants.Ended place l = Unit {0}
ReadTo alone place₀ l₀ (n.TheVariants.Refused why) place l = ReadFrom alone place₀ l₀ (c.TheVariants.Refused why) place l
ReadTo alone place₀ l₀ n.TheVariants.Failed place l = Unit {0}

-- ---- what a reading of a book promises, whatever comes
pub record BookCame (alone : Bool) (place₀ : List ℕ) (l₀ : Lent) (x : Next) (place : List ℕ) (l : Lent) : Type 0 where
  pub taken_to : TakenTo book_end l₀ x l
  pub read_to : ReadTo alone place₀ l₀ x place l
