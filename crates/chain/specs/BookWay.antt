-- What proofs/BookWay.antt speaks of.
use Rattle.std.specs.Prelude.{◌≡◌, List, ℕ, ◌≤◌, ◌<◌, Err}
use Rattle.rules.specs.declared.Refusal.{Refusal}
use Rattle.rules.specs.declared.Located.{Located}
use Rattle.rules.specs.Refusals.{located}
use Rattle.rules.specs.Contents.{contents_size}
use Rattle.interval.specs.declared.Tally.{Tally}
use Rattle.interval.specs.declared.Step.{Step}
use Rattle.interval.specs.Lent.{Lent}
use Rattle.interval.specs.Calls.{stopped_step}
use Rattle.interval.specs.Promises.{ContentsPromise}
use Rattle.chain.specs.Taken.{counts_in}
use Rattle.chain.specs.Chain.{Taken, Chain}
use Rattle.chain.specs.BookRecords.{part_of}
use Rattle.chain.specs.Alike.{Alike}
use Rattle.chain.specs.Way.{records_of, reads, Call, Way}

-- the records of a book, by its table of contents
abbrev pub records_in : List ℕ → ℕ
records_in bs = records_of (counts_in bs)

-- ---- what a caller hands on, as the manual says: `head` to the first call, `part n` to the call that takes record n. Each starts as the book does there, as
-- far as the call looks: its record, and for the last requirement one byte more, where there is one
pub record Hands (bs head : List ℕ) (part : ℕ → List ℕ) : Type 0 where
  pub contents : Alike contents_size head bs
  pub records : (n : ℕ) → n < records_in head → Alike (reads (counts_in head) n) (part n) (part_of bs n)

module _ (head : List ℕ) (part : ℕ → List ℕ) (l₀ : Lent) where
  -- ---- the calls take all records before record m, whatever was refused before: on every chain the call for the next of them is taken, so that one comes to m
  pub record Takes (m : ℕ) : Type 0 where
    pub each :
        {n : ℕ} {t : Tally} {l l' : Lent} {r : Step} → n < m → Chain head part l₀ n t l → Call (counts_in head) (part n) n t l r l' → Taken r
    pub there : (t : Tally) × (l : Lent) × Chain head part l₀ m t l

  -- and refuse that one, on every chain that has come there, by a call that leaves tally and lists as they came; so no chain comes further
  pub record Stops (why : Located) (m : ℕ) : Type 0 where
    pub inside : m < records_in head
    pub before : Takes m
    pub refuses :
        {t : Tally} {l l' : Lent} {r : Step} → Chain head part l₀ m t l → Call (counts_in head) (part m) m t l r l' → (r ≡ stopped_step t why) × (l' ≡ l)
    pub furthest : {n : ℕ} {t : Tally} {l : Lent} → Chain head part l₀ n t l → n ≤ m

  -- the refusal that they meet, of the table of contents, which has no place, or of a record, with its place
  pub data Meets (why : Located) : Type 0 where
    at_contents : {x : Refusal} → ContentsPromise head (Err x) → located 0 x ≡ why → Meets why
    at_record : {m : ℕ} → Stops why m → Meets why

  -- ---- so the way goes on to record n, or meets a refusal before it
  pub data Walked (n : ℕ) : Type 0 where
    arrived : {t : Tally} {l : Lent} → Way head part l₀ n t l → Walked n
    stopped : {why : Located} → Meets why → Walked n
