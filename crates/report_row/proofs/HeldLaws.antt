-- Of a line that is longer than any row, its first 107 bytes decide which column is refused. Right columns end within them, and the first wrong one either
-- ends there too, or has by then more bytes than any right column in its place.
use mathlib.Core.Path.{◌≡◌, refl, sym, ◌∙◌, ap}
use mathlib.Core.Bool.{Bool, true, false}
use mathlib.Core.List.{List, [], ◌∷◌, ◌++◌}
use Prim.Native.Nat.{ℕ, ◌+◌, ◌≤◌, ◌<◌}
use native.Mathlib.Omega.{arith}
use lib.Dec.{eqb}
use lib.IntN.{ℤ}
use lib.ListN.{length, take, drop, length-append, take-append-drop}
use lib.Seq.{length-take-le}
use Rattle.rules.specs.declared.Refusal.{Refusal}
use Rattle.rules.specs.declared.Refusal.TheVariants.{WrongRow}
use Rattle.rules.specs.declared.Reported.{Reported}
use Rattle.rules.specs.declared.FigureType.{FigureType}
use Rattle.rules.specs.declared.ReportRow.{ReportRow}
use Rattle.rules.specs.Refusals.{Reply, taken, refused, ◌>>=◌}
use Rattle.rules.specs.ReportRead.{
  before_comma,
  behind_comma,
  behind_commas,
  interval_read,
  whose_read,
  performance_read,
  type_read,
  version_read,
  row_read,
}
use Rattle.report_row.proofs.ColumnLaws.{
  Ends,
  Reads,
  type_reads,
  version_reads,
  performance_reads,
  whose_reads,
  interval_reads,
  interval_long,
  whose_long,
  performance_long,
  type_long,
  version_long,
}

-- ---- what stands before a cut and behind it: either a comma before the cut ends the column, or the column goes on past the cut
data Cut (rest bs : List ℕ) : Type 0 where
  ended : before_comma (bs ++ rest) ≡ before_comma bs → behind_comma (bs ++ rest) ≡ behind_comma bs ++ rest →
      length bs ≡ length (before_comma bs) + 1 + length (behind_comma bs) → Cut rest bs
  goes_past : before_comma bs ≡ bs → before_comma (bs ++ rest) ≡ bs ++ before_comma rest → Cut rest bs

-- every cut is one of the two
cut : (rest bs : List ℕ) → Cut rest bs
unfolding before_comma behind_comma
cut rest [] = goes_past refl refl
cut rest (b ∷ bs) = go (eqb b 44) refl (cut rest bs)
  where
    go : (t : Bool) → eqb b 44 ≡ t → Cut rest bs → Cut rest (b ∷ bs)
    go true e c = ended (rw (before_comma, e)) (rw (behind_comma, e)) (rw (before_comma, behind_comma, e) (omega arith))
    go false e (ended p q l) =
        ended (rw (before_comma, e) (ap (λ (k : List ℕ). b ∷ k) p)) (rw (behind_comma, e) q) (rw (before_comma, behind_comma, e) (omega arith))
    go false e (goes_past p q) =
        goes_past (rw (before_comma, e) (ap (λ (k : List ℕ). b ∷ k) p)) (rw (before_comma, e) (ap (λ (k : List ℕ). b ∷ k) q))

-- ---- a reply is one or the other
data Outcome {A : Type 0} (m : Reply A) : Type 0 where
  is_taken : (a : A) → m ≡ taken a → Outcome m
  is_refused : (x : Refusal) → m ≡ refused x → Outcome m

-- by its constructor
outcome : {A : Type 0} (m : Reply A) → Outcome m
outcome (taken a) = is_taken a refl
outcome (refused x) = is_refused x refl

-- two replies with one refusal
pub record SameRefusal {A : Type 0} (m m' : Reply A) : Type 0 where
  pub refusal : Refusal
  pub first : m ≡ refused refusal
  pub second : m' ≡ refused refusal

-- two replies: refused alike, or taken alike, and then something more is known
data Alike {A : Type 0} (More : Type 0) (m m' : Reply A) : Type 0 where
  stops : SameRefusal m m' → Alike More m m'
  goes_on : (a : A) → m ≡ taken a → m' ≡ taken a → More → Alike More m m'

-- and then what comes after them decides
alike_then : {A B : Type 0} {More : Type 0} {m m' : Reply A} (f g : A → Reply B) → Alike More m m' → ((a : A) → More → SameRefusal (f a) (g a)) →
    SameRefusal (m >>= f) (m' >>= g)
alike_then f g (stops s) k = record { refusal = s.refusal; first = rw s.first; second = rw s.second }
alike_then f g (goes_on a e e' more) k = let s = k a more in record { refusal = s.refusal; first = rw e s.first; second = rw e' s.second }

-- ---- what is left of the line, before the cut and all of it, with so many bytes at least before the cut
record Left (least : ℕ) (rest bs all : List ℕ) : Type 0 where
  is : all ≡ bs ++ rest
  long : least ≤ length bs

module _ {A : Type 0} {write : A → List ℕ} {Inside : A → Type 0} {read : ℕ → List ℕ → Reply A} (reads : Reads write Inside read) (most : ℕ)
    (few : (a : A) → Inside a → length (write a) ≤ most) where
  -- more bytes than any right column has
  too_long : (k : ℕ) (bs : List ℕ) → most < length bs → read k bs ≡ refused (WrongRow k)
  too_long k bs h = go (outcome (read k bs))
    where
      go : Outcome (read k bs) → read k bs ≡ refused (WrongRow k)
      go (is_taken a e) = let m = reads.made k bs a e in absurd (omega (arith, few a m.0, ap length m.1))
      go (is_refused x e) = e ∙ ap refused (reads.named k bs x e)

  -- a column that is cut: wrong with the bytes before the cut and with all, or right with both, and then enough is left
  column_held : (k least : ℕ) (rest bs all : List ℕ) → Left (most + 1 + least) rest bs all →
      Alike (Left least rest (behind_comma bs) (behind_comma all)) (read k (before_comma bs)) (read k (before_comma all))
  column_held k least rest bs all l = go (cut rest bs)
    where
      go : Cut rest bs → Alike (Left least rest (behind_comma bs) (behind_comma all)) (read k (before_comma bs)) (read k (before_comma all))
      go (ended p q n) =
          let same : before_comma all ≡ before_comma bs = ap before_comma l.is ∙ p in
          found same (outcome (read k (before_comma bs)))
        where
          found : before_comma all ≡ before_comma bs → Outcome (read k (before_comma bs)) →
              Alike (Left least rest (behind_comma bs) (behind_comma all)) (read k (before_comma bs)) (read k (before_comma all))
          found same (is_refused x e) = stops (record { refusal = x; first = e; second = ap (read k) same ∙ e })
          found same (is_taken a e) =
              let m = reads.made k (before_comma bs) a e in
              goes_on a e (ap (read k) same ∙ e)
              (record { is = ap behind_comma l.is ∙ q; long = omega (arith, l.long, few a m.0, ap length m.1) })
      go (goes_past p q) =
          let past : most < length (bs ++ before_comma rest) = omega (arith, l.long, length-append bs (before_comma rest)) in
          stops
          (record {
            refusal = WrongRow k;
            first = ap (read k) p ∙ too_long k bs (omega (arith, l.long));
            second = ap (λ (z : List ℕ). read k (before_comma z)) l.is ∙ ap (read k) q ∙ too_long k (bs ++ before_comma rest) past;
          })

-- ---- the row from a column on, of what is left of the line
abbrev from_version : ℕ → Reported → ℤ → FigureType → ℤ → FigureType → List ℕ → Reply ReportRow
from_version i w p s l m bs = do
  v ← version_read 7 bs
  taken (record {
    interval = i;
    whose = w;
    raise = record { performance = p; typed = s };
    lower = record { performance = l; typed = m };
    version = v;
  })

abbrev from_lower_type : ℕ → Reported → ℤ → FigureType → ℤ → List ℕ → Reply ReportRow
from_lower_type i w p s l bs = type_read 6 (before_comma bs) >>= (λ m. from_version i w p s l m (behind_comma bs))

abbrev from_lower : ℕ → Reported → ℤ → FigureType → List ℕ → Reply ReportRow
from_lower i w p s bs = performance_read 5 (before_comma bs) >>= (λ l. from_lower_type i w p s l (behind_comma bs))

abbrev from_raise_type : ℕ → Reported → ℤ → List ℕ → Reply ReportRow
from_raise_type i w p bs = type_read 4 (before_comma bs) >>= (λ s. from_lower i w p s (behind_comma bs))

abbrev from_raise : ℕ → Reported → List ℕ → Reply ReportRow
from_raise i w bs = performance_read 3 (before_comma bs) >>= (λ p. from_raise_type i w p (behind_comma bs))

abbrev from_whose : ℕ → List ℕ → Reply ReportRow
from_whose i bs = whose_read 2 (before_comma bs) >>= (λ w. from_raise i w (behind_comma bs))

abbrev from_interval : List ℕ → Reply ReportRow
from_interval bs = interval_read 1 (before_comma bs) >>= (λ i. from_whose i (behind_comma bs))

-- that is how a row is read
from_first : (bs : List ℕ) → row_read bs ≡ from_interval bs
unfolding row_read behind_commas
from_first bs = refl

-- ---- column by column: 7 bytes at least are left for the seventh where six right ones were the longest
module _ (rest : List ℕ) where
  version_held : (i : ℕ) (w : Reported) (p : ℤ) (s : FigureType) (l : ℤ) (m : FigureType) (bs all : List ℕ) → Left 7 rest bs all →
      SameRefusal (from_version i w p s l m bs) (from_version i w p s l m all)
  version_held i w p s l m bs all left =
      let short = too_long version_reads 6 (λ n h. (version_long n h).most) 7 bs left.long in
      let long = too_long version_reads 6 (λ n h. (version_long n h).most) 7 all (omega (arith, left.long, ap length left.is, length-append bs rest)) in
      record { refusal = WrongRow 7; first = rw short; second = rw long }

  lower_type_held : (i : ℕ) (w : Reported) (p : ℤ) (s : FigureType) (l : ℤ) (bs all : List ℕ) → Left 18 rest bs all →
      SameRefusal (from_lower_type i w p s l bs) (from_lower_type i w p s l all)
  lower_type_held i w p s l bs all left =
      alike_then (λ m. from_version i w p s l m (behind_comma bs)) (λ m. from_version i w p s l m (behind_comma all))
      (column_held type_reads 10 (λ f h. (type_long f).most) 6 7 rest bs all left)
      (λ m more. version_held i w p s l m (behind_comma bs) (behind_comma all) more)

  lower_held : (i : ℕ) (w : Reported) (p : ℤ) (s : FigureType) (bs all : List ℕ) → Left 40 rest bs all →
      SameRefusal (from_lower i w p s bs) (from_lower i w p s all)
  lower_held i w p s bs all left =
      alike_then (λ l. from_lower_type i w p s l (behind_comma bs)) (λ l. from_lower_type i w p s l (behind_comma all))
      (column_held performance_reads 21 (λ b h. (performance_long b h).most) 5 18 rest bs all left)
      (λ l more. lower_type_held i w p s l (behind_comma bs) (behind_comma all) more)

  raise_type_held : (i : ℕ) (w : Reported) (p : ℤ) (bs all : List ℕ) → Left 51 rest bs all → SameRefusal (from_raise_type i w p bs) (from_raise_type i w p all)
  raise_type_held i w p bs all left =
      alike_then (λ s. from_lower i w p s (behind_comma bs)) (λ s. from_lower i w p s (behind_comma all))
      (column_held type_reads 10 (λ f h. (type_long f).most) 4 40 rest bs all left)
      (λ s more. lower_held i w p s (behind_comma bs) (behind_comma all) more)

  raise_held : (i : ℕ) (w : Reported) (bs all : List ℕ) → Left 73 rest bs all → SameRefusal (from_raise i w bs) (from_raise i w all)
  raise_held i w bs all left =
      alike_then (λ p. from_raise_type i w p (behind_comma bs)) (λ p. from_raise_type i w p (behind_comma all))
      (column_held performance_reads 21 (λ b h. (performance_long b h).most) 3 51 rest bs all left)
      (λ p more. raise_type_held i w p (behind_comma bs) (behind_comma all) more)

  whose_held : (i : ℕ) (bs all : List ℕ) → Left 87 rest bs all → SameRefusal (from_whose i bs) (from_whose i all)
  whose_held i bs all left =
      alike_then (λ w. from_raise i w (behind_comma bs)) (λ w. from_raise i w (behind_comma all))
      (column_held whose_reads 13 (λ w h. (whose_long w h).most) 2 73 rest bs all left)
      (λ w more. raise_held i w (behind_comma bs) (behind_comma all) more)

  interval_held : Ends → (bs all : List ℕ) → Left 107 rest bs all → SameRefusal (from_interval bs) (from_interval all)
  interval_held ends bs all left =
      alike_then (λ i. from_whose i (behind_comma bs)) (λ i. from_whose i (behind_comma all))
      (column_held (interval_reads ends) 19 (λ n h. omega (arith, interval_long n)) 1 87 rest bs all left)
      (λ i more. whose_held i (behind_comma bs) (behind_comma all) more)

-- THE FIRST 107 BYTES OF A LONGER LINE ARE REFUSED AS ALL OF IT IS
pub held_is_enough : Ends → (bs : List ℕ) → 107 ≤ length bs → SameRefusal (row_read (take 107 bs)) (row_read bs)
held_is_enough ends bs h =
    let s =
    interval_held (drop 107 bs) ends (take 107 bs) bs
    (record { is = sym (take-append-drop 107 bs); long = omega (arith, length-take-le 107 bs h) }) in
    record { refusal = s.refusal; first = from_first (take 107 bs) ∙ s.first; second = from_first bs ∙ s.second }
