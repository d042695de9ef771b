-- THE READING: for every way in which a book's bytes arrive, in pieces of any size, with an end at any place, a walk ends in the taken book or in the refusal
-- that the format gives, and it ends.
use mathlib.Core.Path.{◌≡◌, refl, ◌∙◌, ap}
use mathlib.Core.Bool.{Bool, true, false}
use mathlib.Core.List.{List}
use Prim.Native.Nat.{ℕ, suc, ◌+◌, ◌≤◌, ◌<◌}
use native.Mathlib.Omega.{arith}
use lib.ListN.{length, get_or}
use Rattle.rules.specs.Refusals.{taken, refused}
use Rattle.rules.specs.Contents.{contents, requirement_size}
use Rattle.rules.specs.RequirementRecord.{requirement_record}
use Rattle.rules.specs.WholeBook.{book}
use Rattle.interval.specs.declared.Tally.{Tally}
use Rattle.interval.specs.Tally.{before_units}
use Rattle.interval.specs.Lent.{Lent}
use Rattle.chain.specs.Taken.{counts_in}
use Rattle.chain.proofs.Taken.{contents_is}
use Rattle.chain.proofs.ChainTheorem.{chain}
use Rattle.chain.specs.Long.{Long}
use Rattle.chain.specs.BookRecords.{part_of}
use Rattle.chain.proofs.BookChain.{requirements_many}
use Rattle.chain.proofs.Alike.{requirement_same}
use Rattle.chain.proofs.BookWay.{hands_whole}
use Rattle.chain.proofs.Spelled.{handed_book}
use Rattle.chain.proofs.Answerable.{requirement_read}
use Rattle.reader.specs.declared.Reading.{Reading}
use Rattle.reader.specs.declared.Reading.TheVariants.{Contents, Record}
use Rattle.reader.specs.declared.Came.{Came}
use Rattle.reader.specs.declared.Came.TheVariants.{Wants, Taken, Refused}
use Rattle.reader.specs.Arrives.{GoesOn, ReadOutcome, Reads, TakenBook, arrives, starts}
use Rattle.reader.proofs.Arrives.{Stands}
use Rattle.reader.proofs.ReadsStep.{After, AtEnd, Fair, stands_next, wanted_from, wanted_to}

-- a walk of n arrivals, by what was said last
abbrev pub Walked : (alone : Bool) (bs : List ℕ) (l₀ : Lent) (n p : ℕ) → Came → List ℕ → Lent → Type 0
Walked alone bs l₀ n p (Wants reading) place l = (n ≤ p) × Stands alone bs l₀ p reading place l
Walked alone bs l₀ n p (Taken t) place l = Fair alone bs l₀ → AtEnd bs l₀ t place l
Walked alone bs l₀ n p (Refused why) place l = Fair alone bs l₀ → book bs ≡ refused why

one_further :
    (alone : Bool) (bs : List ℕ) (l₀ : Lent) (n p count : ℕ) (r : Came) (place : List ℕ) (l : Lent) → n ≤ p → After alone bs l₀ count (p + count) r place l →
    Walked alone bs l₀ (suc n) (p + count) r place l
one_further alone bs l₀ n p count (Wants reading) place l few a = (omega (arith, a.0), a.1)
one_further alone bs l₀ n p count (Taken t) place l few a = a
one_further alone bs l₀ n p count (Refused why) place l few a = a

-- the book that was taken
end_taken : {bs : List ℕ} {l₀ : Lent} {t : Tally} {place : List ℕ} {l : Lent} → 769 ≤ length place → AtEnd bs l₀ t place l → TakenBook bs l₀ t place l
end_taken {bs} {l₀} {t} {place} {l} room e =
    let hands = hands_whole bs in
    let m = chain e.chain in
    let b = handed_book hands e.chain in
    let many = requirements_many bs b.0 b.1 in
    let few = (contents_is bs (counts_in bs) m.table).1.requirements in
    record {
      head = bs;
      part = part_of bs;
      hands = hands;
      chain = e.chain;
      the_book = b.0;
      is_taken = b.1;
      asks =
          λ i z h.
          requirement_same {k = requirement_size} (record { starts = e.kept i (omega (arith, many, m.units)) }) 0 false (omega arith)
          ∙ ap (λ (u : ℕ). requirement_record 0 false (part_of bs (before_units + u + i))) m.units
          ∙ requirement_read hands b.0 b.1 i z h;
      room = omega (arith, few, m.requirements, room);
    }

module _ {alone : Bool} {bs place₀ : List ℕ} {l₀ : Lent} where
  pub reads_size : {n p : ℕ} {r : Came} {place : List ℕ} {l : Lent} → Reads alone bs place₀ l₀ n p r place l → length place ≡ length place₀
  reads_size starts = refl
  reads_size (arrives w a c) = a.size ∙ reads_size w

  module _ (room : 769 ≤ length place₀) where
    pub walked : {n p : ℕ} {r : Came} {place : List ℕ} {l : Lent} → Reads alone bs place₀ l₀ n p r place l → Walked alone bs l₀ n p r place l
    walked starts =
        (omega arith, record { come = refl; within = omega arith; few = omega arith; here = refl; lent = refl })
    walked (arrives {n} {p} {count} {reading} {old} {new} {l} {l'} {r} w a c) =
        let at = walked w in
        one_further alone bs l₀ n p count r new l' at.0 (stands_next l₀ reading at.1 (omega (arith, reads_size w)) a c)

    -- ---- IT ENDS: a walk that still wants more has had a byte of each arrival, so there are no more arrivals than bytes; and then something is wanted
    pub reads_on :
        {n p : ℕ} {reading : Reading} {place : List ℕ} {l : Lent} → Reads alone bs place₀ l₀ n p (Wants reading) place l →
        GoesOn alone bs n p reading place
    reads_on {n} {p} {reading} {place} {l} w = let at = walked w in go reading at.0 at.1
      where
        long : 769 ≤ length place
        long = omega (arith, reads_size w)

        go : (x : Reading) → n ≤ p → Stands alone bs l₀ p x place l → GoesOn alone bs n p x place
        go (Contents got) few s = record { brought = few; there = s.within; wants = omega (arith, s.few, long) }
        go (Record t got) few s =
            record {
              brought = few;
              there = s.within;
              wants = omega (arith, wanted_from s (length place) long, wanted_to s (length place) long, s.few);
            }

  -- ---- where it ends
  pub reads_fair :
      {n p : ℕ} {r : Came} {place : List ℕ} {l : Lent} → 769 ≤ length place₀ → Fair alone bs l₀ → Reads alone bs place₀ l₀ n p r place l →
      ReadOutcome bs l₀ r place l
  reads_fair {n} {p} {r} {place} {l} room fair w = go r (walked room w)
    where
      go : (x : Came) → Walked alone bs l₀ n p x place l → ReadOutcome bs l₀ x place l
      go (Wants reading) at = tt
      go (Taken t) at = end_taken (omega (arith, reads_size w)) (at fair)
      go (Refused why) at = at fair

-- ---- THE BOOK ALONE: bs is the whole input, with what follows the book
pub reads_book :
    {bs place₀ : List ℕ} {l₀ : Lent} {n p : ℕ} {r : Came} {place : List ℕ} {l : Lent} → 769 ≤ length place₀ →
    (contents bs ≡ taken (counts_in bs) → Long l₀ (counts_in bs).units) → ((i : ℕ) → get_or bs i 0 < 256) →
    Reads true bs place₀ l₀ n p r place l → ReadOutcome bs l₀ r place l
reads_book room long bytes w = reads_fair room (record { seen = tt; long = long; bytes = bytes }) w
