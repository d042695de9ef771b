-- A book among others: where it does not stand alone, no byte behind its last requirement is asked for, so that a walk is one over the book's own bytes.
use mathlib.Core.Path.{◌≡◌, refl, sym, ◌∙◌, ap, subst}
use mathlib.Core.Bool.{false}
use mathlib.Core.List.{List}
use Prim.Native.Nat.{ℕ, zero, suc, ◌+◌, ◌-◌, ◌≤◌, ◌<◌, min}
use native.Mathlib.Decide.{dec_lt}
use native.Mathlib.Omega.{arith}
use lib.ListN.{length, get_or, take, length-take}
use lib.Seq.{get_or-take, take-take}
use Rattle.integers.proofs.Fills.{get_d_past}
use Rattle.rules.specs.Refusals.{taken}
use Rattle.rules.specs.Contents.{Counts, contents, contents_size}
use Rattle.interval.specs.Lent.{Lent}
use Rattle.interval.specs.Calls.{opened}
use Rattle.chain.specs.Taken.{counts_in}
use Rattle.chain.specs.Chain.{Chain, begun}
use Rattle.chain.proofs.ChainTheorem.{chain}
use Rattle.chain.specs.Long.{Long}
use Rattle.chain.specs.BookRecords.{part_of, record_size, record_start}
use Rattle.chain.specs.Alike.{Alike}
use Rattle.chain.proofs.Alike.{contents_alike, counts_same, cut_behind}
use Rattle.chain.specs.Way.{records_of}
use Rattle.chain.specs.BookWay.{records_in}
use Rattle.reader.specs.declared.Reading.{Reading}
use Rattle.reader.specs.declared.Reading.TheVariants.{Contents, Record}
use Rattle.reader.specs.declared.Wanted.{Wanted}
use Rattle.reader.specs.declared.Came.{Came}
use Rattle.reader.specs.Reading.{wanted_part}
use Rattle.reader.specs.Arrives.{Arrives, ReadOutcome, Reads, arrives, book_size, starts}
use Rattle.reader.proofs.ReadingLaws.{asked_of_many}
use Rattle.reader.proofs.Arrives.{Stands, part_alike}
use Rattle.reader.proofs.ReadsStep.{means, same_end, wanted_from, wanted_to}
use Rattle.reader.proofs.ReadsBook.{reads_fair, reads_size, walked}

-- records start one behind the other
starts_up : (units m n : ℕ) → m ≤ n → record_start units m ≤ record_start units n
unfolding record_start
starts_up units m zero h = let none : m ≡ 0 = omega arith in omega (arith, ap (record_start units) none)
starts_up units m (suc n) h = go (dec_lt n m) (λ b. starts_up units m n b)
  where
    go : Dec (n < m) → (m ≤ n → record_start units m ≤ record_start units n) → record_start units m ≤ record_start units n + record_size units n
    go (yes b) before = let same : m ≡ suc n = omega arith in omega (arith, ap (record_start units) same)
    go (no b) before = omega (arith, before (omega arith))

table_inside : (bs : List ℕ) → contents_size ≤ book_size bs
unfolding record_start
table_inside bs = starts_up (counts_in bs).units 0 (records_in bs) (omega arith)

-- ---- what is asked for is the book's
stands_inside :
    (bs : List ℕ) (p count : ℕ) (place : List ℕ) (l₀ l : Lent) (reading : Reading) → Stands false bs l₀ p reading place l → 769 ≤ length place →
    count ≤ (wanted_part reading false (length place)).to - (wanted_part reading false (length place)).from → p + count ≤ book_size bs
unfolding record_start
stands_inside bs p count place l₀ l (Contents got) s room h = omega (arith, table_inside bs, s.come, s.few, h, room)
stands_inside bs p count place l₀ l (Record t got) s room h =
    let units = (counts_in bs).units in
    let m = means s in
    let up = starts_up units (suc t.records) (records_in bs) (omega (arith, s.inside, same_end s)) in
    let size = ap (λ (u : ℕ). record_size u t.records) m.units in
    omega (arith, up, size, sym (asked_of_many t false refl), s.come, wanted_from s (length place) room, wanted_to s (length place) room, h, s.few)

module _ (bs : List ℕ) where
  abbrev own : List ℕ
  own = take (book_size bs) bs

  own_long : length own ≡ min (book_size bs) (length bs)
  own_long = length-take (book_size bs) bs

  own_arrives :
      {p count : ℕ} {w : Wanted} {old new : List ℕ} → p + count ≤ book_size bs → Arrives bs p w count old new → Arrives own p w count old new
  own_arrives {p} {count} h a =
      record {
        inside = a.inside;
        there = omega (arith, own_long, a.there);
        ended = λ z b. omega (arith, own_long, a.ended z b);
        bytes = a.bytes ∙ part_alike bs own (book_size bs) p count (sym (take-take (book_size bs) (book_size bs) bs (omega arith))) h;
        before = a.before;
        size = a.size;
      }

  module _ {place₀ : List ℕ} {l₀ : Lent} (room : 769 ≤ length place₀) where
    own_reads : {n p : ℕ} {r : Came} {place : List ℕ} {l : Lent} → Reads false bs place₀ l₀ n p r place l → Reads false own place₀ l₀ n p r place l
    own_reads starts = starts
    own_reads (arrives {n} {p} {count} {reading} {old} {new} {l} {l'} {r} w a c) =
        arrives (own_reads w) (own_arrives (stands_inside bs p count old l₀ l reading (walked room w).1 (omega (arith, reads_size w)) a.inside) a) c

  own_alike : Alike contents_size own bs
  own_alike = cut_behind contents_size (book_size bs) bs (table_inside bs)

  own_counts : counts_in own ≡ counts_in bs
  own_counts = counts_same own_alike (omega arith)

  own_seen : length own ≤ book_size own
  own_seen = omega (arith, own_long, ap (λ (c : Counts). record_start c.units (records_of c)) own_counts)

  own_bytes : ((i : ℕ) → get_or bs i 0 < 256) → (i : ℕ) → get_or own i 0 < 256
  own_bytes bytes i = go (dec_lt i (book_size bs))
    where
      go : Dec (i < book_size bs) → get_or own i 0 < 256
      go (yes h) = rw (get_or-take (book_size bs) bs i 0 h) (bytes i)
      go (no h) = rw (get_d_past own i 0 (omega (arith, own_long))) (omega arith)

-- ---- THE BOOK AMONG OTHERS
pub reads_among :
    {bs place₀ : List ℕ} {l₀ : Lent} {n p : ℕ} {r : Came} {place : List ℕ} {l : Lent} → 769 ≤ length place₀ →
    (contents bs ≡ taken (counts_in bs) → Long l₀ (counts_in bs).units) → ((i : ℕ) → get_or bs i 0 < 256) →
    Reads false bs place₀ l₀ n p r place l → ReadOutcome (take (book_size bs) bs) l₀ r place l
reads_among {bs} {l₀ = l₀} room long bytes w =
    reads_fair room (record { seen = own_seen bs; long = own_lists; bytes = own_bytes bs bytes }) (own_reads bs room w)
  where
    own_lists : contents (own bs) ≡ taken (counts_in (own bs)) → Long l₀ (counts_in (own bs)).units
    own_lists e =
        let d : Chain bs (part_of bs) l₀ 0 _ l₀ = begun (contents_alike (own_alike bs) (omega arith) (record { reply = sym (ap opened e) })) in
        subst (λ (c : Counts). Long l₀ c.units) (sym (own_counts bs)) (long (chain d).table)
