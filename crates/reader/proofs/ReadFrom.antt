-- What has come so far is an input of its own, which may go on in any way: each arrival makes it longer, and the walk over it is one further. Who reads until
-- `came` wants no more has so walked over what came.
use mathlib.Core.Path.{◌≡◌, sym, ◌∙◌, ap, subst}
use mathlib.Core.Bool.{Bool, true, false}
use mathlib.Core.List.{List, [], ◌∷◌, ◌++◌}
use Prim.Native.Nat.{ℕ, zero, suc, ◌+◌, ◌*◌, ◌-◌, ◌≤◌, ◌<◌}
use native.Mathlib.Decide.{dec_lt}
use native.Mathlib.Omega.{arith}
use lib.ListN.{length, get_or, take, drop, length-append, length-drop, length-take}
use lib.Seq.{drop-append_seam, get_or-drop, get_or-take, length-take-le, take_all, take-append_seam, take-length}
use Rattle.integers.proofs.Fills.{get_d_past}
use Rattle.rules.specs.Quantities.{most_units}
use Rattle.rules.specs.Refusals.{taken}
use Rattle.rules.specs.Contents.{contents}
use Rattle.interval.specs.Lent.{Lent}
use Rattle.chain.specs.Taken.{counts_in}
use Rattle.chain.proofs.Taken.{contents_is}
use Rattle.chain.specs.Long.{Long}
use Rattle.chain.proofs.Long.{shorter}
use Rattle.chain.specs.BookRecords.{record_start}
use Rattle.reader.specs.declared.Reading.{Reading}
use Rattle.reader.specs.declared.Reading.TheVariants.{Contents, Record}
use Rattle.reader.specs.declared.Wanted.{Wanted}
use Rattle.reader.specs.declared.Came.{Came}
use Rattle.reader.specs.declared.Came.TheVariants.{Wants}
use Rattle.reader.specs.declared.Span.{Span}
use Rattle.reader.specs.Reading.{CamePromise, span_of, wanted_in, wanted_part}
use Rattle.reader.specs.Arrives.{Arrives, ReadFrom, ReadOutcome, Reads, arrives, book_size, starts}
use Rattle.reader.proofs.Arrives.{Stands, asked_most, part_alike, record_most}
use Rattle.reader.proofs.ReadsStep.{After, means, stands_next}
use Rattle.reader.proofs.ReadsBook.{reads_book, reads_size, walked}
use Rattle.reader.proofs.ReadsAmong.{reads_among}

-- a walk that goes on says nothing of what is behind the bytes that came
arrives_more :
    {bs : List ℕ} (rest : List ℕ) {p count : ℕ} {w : Wanted} {old new : List ℕ} → 1 ≤ count → Arrives bs p w count old new →
    Arrives (bs ++ rest) p w count old new
arrives_more {bs} rest {p} {count} h a =
    record {
      inside = a.inside;
      there = omega (arith, a.there, length-append bs rest);
      ended = λ z b. absurd (omega (arith, z, h));
      bytes = a.bytes ∙ part_alike bs (bs ++ rest) (length bs) p count (take-length bs ∙ sym (take-append_seam bs rest)) a.there;
      before = a.before;
      size = a.size;
    }

module _ {alone : Bool} {bs place₀ : List ℕ} {l₀ : Lent} (room : 769 ≤ length place₀) (rest : List ℕ) where
  pub reads_more :
      {n p : ℕ} {reading : Reading} {place : List ℕ} {l : Lent} → Reads alone bs place₀ l₀ n p (Wants reading) place l →
      Reads alone (bs ++ rest) place₀ l₀ n p (Wants reading) place l
  reads_more starts = starts
  reads_more (arrives {reading = reading} w a c) =
      let after = stands_next l₀ reading (walked room w).1 (omega (arith, reads_size w)) a c in
      arrives (reads_more w) (arrives_more rest after.0 a) c

-- ---- lists of bytes
bytes_append : (xs ys : List ℕ) → ((i : ℕ) → get_or xs i 0 < 256) → ((i : ℕ) → get_or ys i 0 < 256) → (i : ℕ) → get_or (xs ++ ys) i 0 < 256
bytes_append [] ys f g i = g i
bytes_append (x ∷ xs) ys f g zero = f 0
bytes_append (x ∷ xs) ys f g (suc i) = bytes_append xs ys (λ j. f (suc j)) g i

bytes_part : (count from : ℕ) (xs : List ℕ) → ((i : ℕ) → get_or xs i 0 < 256) → (i : ℕ) → get_or (take count (drop from xs)) i 0 < 256
bytes_part count from xs f i = go (dec_lt i count)
  where
    go : Dec (i < count) → get_or (take count (drop from xs)) i 0 < 256
    go (yes h) = rw (get_or-take count (drop from xs) i 0 h, get_or-drop from xs i 0) (f (from + i))
    go (no h) = rw (get_d_past (take count (drop from xs)) i 0 (omega (arith, length-take count (drop from xs)))) (omega arith)

-- what is wanted has its room
wanted_room :
    (s : Span) (room count : ℕ) → count ≤ (wanted_in s room).to - (wanted_in s room).from → count ≤ room - (wanted_in s room).from
wanted_room s room count h = omega arith

-- ---- so many bytes came where they were wanted
module _
    {alone : Bool} {place₀ : List ℕ} {l₀ : Lent} {reading : Reading} {old : List ℕ} {l : Lent} (s : ReadFrom alone place₀ l₀ (Wants reading) old l)
    (room : 769 ≤ length place₀) {count : ℕ} {new : List ℕ}
    (inside : count ≤ (wanted_part reading alone (length old)).to - (wanted_part reading alone (length old)).from)
    (before : take (wanted_part reading alone (length old)).from new ≡ take (wanted_part reading alone (length old)).from old)
    (size : length new ≡ length old) {r : Came} {l' : Lent} (c : CamePromise reading alone count new l r l') where
  abbrev from : ℕ
  from = (wanted_part reading alone (length old)).from

  abbrev came_now : List ℕ
  came_now = take count (drop from new)

  came_long : length came_now ≡ count
  came_long =
      length-take-le count (drop from new)
      (omega (arith, wanted_room (span_of reading alone) (length old) count inside, length-drop from new, size))

  input_long : length (s.input ++ came_now) ≡ length s.input + count
  input_long = length-append s.input came_now ∙ ap (λ (k : ℕ). length s.input + k) came_long

  arrives_now : Arrives (s.input ++ came_now) (length s.input) (wanted_part reading alone (length old)) count old new
  arrives_now =
      record {
        inside = inside;
        there = omega (arith, input_long);
        ended = λ z b. omega (arith, input_long);
        bytes = sym (ap (take count) (drop-append_seam s.input came_now) ∙ take_all count came_now (omega (arith, came_long)));
        before = before;
        size = size;
      }

  walk_before : Reads alone (s.input ++ came_now) place₀ l₀ s.arrivals (length s.input) (Wants reading) old l
  walk_before = reads_more room came_now s.walk

  pub read_further : ((i : ℕ) → get_or new i 0 < 256) → ReadFrom alone place₀ l₀ r new l'
  read_further bytes =
      record {
        input = s.input ++ came_now;
        arrivals = suc s.arrivals;
        walk =
            subst (λ (p : ℕ). Reads alone (s.input ++ came_now) place₀ l₀ (suc s.arrivals) p r new l') (sym input_long)
            (arrives walk_before arrives_now c);
        bytes = bytes_append s.input came_now s.bytes (bytes_part count from new bytes);
      }

  read_after : After alone (s.input ++ came_now) l₀ count (length s.input + count) r new l'
  read_after = stands_next l₀ reading (walked room walk_before).1 (omega (arith, reads_size walk_before)) arrives_now c

-- ---- the measure: how far the reading is in a book, which no reading passes
abbrev pub position : Reading → ℕ
position (Contents got) = got
position (Record t got) = record_start t.units t.records + got

starts_within : (units m : ℕ) → record_start units m ≤ 56 + 372 * m
unfolding record_start
starts_within units zero = omega arith
starts_within units (suc m) = omega (arith, starts_within units m, record_most units m)

position_is :
    (alone : Bool) (bs : List ℕ) (l₀ : Lent) (p : ℕ) (reading : Reading) (place : List ℕ) (l : Lent) → Stands alone bs l₀ p reading place l →
    (p ≡ position reading) × (p < 210_000)
position_is alone bs l₀ p (Contents got) place l s = (s.come, omega (arith, s.come, s.few))
position_is alone bs l₀ p (Record t got) place l s =
    let m = means s in
    let fit = (contents_is bs (counts_in bs) m.table).1 in
    let up = starts_within (counts_in bs).units t.records in
    let most = record_most t.units t.records in (
      s.come ∙ ap (λ (u : ℕ). record_start u t.records + got) (sym m.units),
      omega (arith, s.come, up, s.few, asked_most t alone, most, s.inside, m.units, m.requirements, fit.units, fit.requirements),
    )

-- each turn that wants more has come further
pub read_falls :
    {alone : Bool} {place₀ : List ℕ} {l₀ : Lent} {reading next : Reading} {old : List ℕ} {l : Lent} (s : ReadFrom alone place₀ l₀ (Wants reading) old l) →
    769 ≤ length place₀ → {count : ℕ} {new : List ℕ} →
    count ≤ (wanted_part reading alone (length old)).to - (wanted_part reading alone (length old)).from →
    take (wanted_part reading alone (length old)).from new ≡ take (wanted_part reading alone (length old)).from old → length new ≡ length old →
    {l' : Lent} → CamePromise reading alone count new l (Wants next) l' → 210_000 - position next < 210_000 - position reading
read_falls {alone} {place₀} {l₀} {reading} {next} {old} {l} s room {count} {new} inside before size {l'} c =
    let after = read_after s room inside before size c in
    let at = position_is alone s.input l₀ (length s.input) reading old l (walked room s.walk).1 in
    let then = position_is alone _ l₀ (length s.input + count) next new l' after.1 in
    omega (arith, after.0, at.0, at.1, then.0)

-- ---- and where the reading has ended is said of what came
pub enough : {l₀ : Lent} → Long l₀ most_units → (bs : List ℕ) → contents bs ≡ taken (counts_in bs) → Long l₀ (counts_in bs).units
enough long bs table = shorter (contents_is bs (counts_in bs) table).1.units long

module _ {place₀ : List ℕ} {l₀ : Lent} {r : Came} {place : List ℕ} {l : Lent} (room : 769 ≤ length place₀) (long : Long l₀ most_units) where
  pub read_alone : (w : ReadFrom true place₀ l₀ r place l) → ReadOutcome w.input l₀ r place l
  read_alone w = reads_book room (enough long w.input) w.bytes w.walk

  pub read_among : (w : ReadFrom false place₀ l₀ r place l) → ReadOutcome (take (book_size w.input) w.input) l₀ r place l
  read_among w = reads_among room (enough long w.input) w.bytes w.walk
