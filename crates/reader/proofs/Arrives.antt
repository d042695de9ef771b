-- Where a walk stands: so many records of the book were taken from the bytes that came, what has come of the next one is in its place, and the requirements so
-- far stay in theirs.
use mathlib.Core.Path.{◌≡◌, sym, ◌∙◌, ap, ap₂}
use mathlib.Core.Bool.{Bool, true, false, cond, ◌&&◌}
use mathlib.Core.List.{List, ◌++◌}
use Prim.Native.Nat.{ℕ, ◌+◌, ◌*◌, ◌-◌, ◌≤◌, ◌<◌}
use native.Mathlib.Decide.{dec_lt}
use native.Mathlib.Omega.{arith}
use lib.Dec.{eqb, leb}
use lib.ListN.{length, take, drop, length-take, length-drop}
use lib.Seq.{drop-drop, ext_get_or, get_or-drop, get_or-take, take-add, take-take}
use borrow.Author.Tests.{leb-true, eq-eqb, ne_eqb}
use Rattle.rules.specs.declared.Refusal.TheVariants.{EndsEarly}
use Rattle.rules.specs.Refusals.{taken}
use Rattle.rules.specs.Contents.{Counts, contents, contents_size, requirement_size}
use Rattle.laws.proofs.LimitsLaws.{passed}
use Rattle.interval.specs.declared.Tally.{Tally}
use Rattle.interval.specs.Tally.{before_units, units_end, book_end}
use Rattle.interval.specs.Lent.{Lent}
use Rattle.chain.specs.Taken.{counts_in}
use Rattle.chain.specs.Chain.{Chain}
use Rattle.chain.specs.BookRecords.{part_of, record_size, record_start}
use Rattle.chain.proofs.BookRecords.{settings_sized, frequency_sized, unit_sized, requirement_sized}
use Rattle.reader.specs.declared.Reading.{Reading}
use Rattle.reader.specs.declared.Reading.TheVariants.{Contents, Record}
use Rattle.reader.specs.Reading.{asked, is_end}

-- ---- parts of lists
pub drop_take : (j k : ℕ) (xs : List ℕ) → drop j (take (j + k) xs) ≡ take k (drop j xs)
drop_take j k xs =
    ext_get_or 0 _ _ (simp (length-drop, length-take) (omega arith))
    (λ i h.
    let few : i < k = omega (arith, simp (length-drop, length-take) at h) in
    get_or-drop j (take (j + k) xs) i 0 ∙ get_or-take (j + k) xs (j + i) 0 (omega arith) ∙ sym (get_or-take k (drop j xs) i 0 few ∙ get_or-drop j xs i 0))

-- lists that start alike have alike parts there
pub part_alike : (xs ys : List ℕ) (a j k : ℕ) → take a xs ≡ take a ys → j + k ≤ a → take k (drop j xs) ≡ take k (drop j ys)
part_alike xs ys a j k e h =
    let same = sym (take-take (j + k) a xs h) ∙ ap (take (j + k)) e ∙ take-take (j + k) a ys h in
    sym (drop_take j k xs) ∙ ap (drop j) same ∙ drop_take j k ys

-- what had come, and what comes behind it
pub more_come :
    (old new bs : List ℕ) (start base got count : ℕ) → take (start + got) new ≡ take (start + got) old →
    take count (drop (start + got) new) ≡ take count (drop (base + got) bs) → take got (drop start old) ≡ take got (drop base bs) →
    take (got + count) (drop start new) ≡ take (got + count) (drop base bs)
more_come old new bs start base got count before bytes here =
    take-add got count (drop start new)
    ∙ ap₂ (λ (xs ys : List ℕ). xs ++ ys) (part_alike new old (start + got) start got before (omega arith) ∙ here)
    (ap (take count) (drop-drop got start new) ∙ bytes ∙ ap (take count) (sym (drop-drop got base bs)))
    ∙ sym (take-add got count (drop base bs))

-- ---- the sizes
module _ (units m : ℕ) where
  pub record_some : 8 ≤ record_size units m
  record_some = go (dec_lt m 1) (dec_lt m before_units) (dec_lt m (before_units + units))
    where
      go : Dec (m < 1) → Dec (m < before_units) → Dec (m < before_units + units) → 8 ≤ record_size units m
      go (yes x) _ _ = omega (arith, settings_sized units m (omega arith))
      go (no x) (yes y) _ = omega (arith, frequency_sized units m (omega arith) y)
      go (no x) (no y) (yes z) = omega (arith, unit_sized units m (omega arith) z)
      go (no x) (no y) (no z) = omega (arith, requirement_sized units m (omega arith))

  pub record_most : record_size units m ≤ 372
  record_most = go (dec_lt m 1) (dec_lt m before_units) (dec_lt m (before_units + units))
    where
      go : Dec (m < 1) → Dec (m < before_units) → Dec (m < before_units + units) → record_size units m ≤ 372
      go (yes x) _ _ = omega (arith, settings_sized units m (omega arith))
      go (no x) (yes y) _ = omega (arith, frequency_sized units m (omega arith) y)
      go (no x) (no y) (yes z) = omega (arith, unit_sized units m (omega arith) z)
      go (no x) (no y) (no z) = omega (arith, requirement_sized units m (omega arith))

module _ (t : Tally) (alone : Bool) where
  pub asked_least : record_size t.units t.records ≤ asked t alone
  unfolding asked
  asked_least = omega arith

  pub asked_most : asked t alone ≤ record_size t.units t.records + 1
  unfolding asked
  asked_most = go (alone && is_end (t.records + 1) t)
    where
      go : (x : Bool) → record_size t.units t.records + cond x 1 0 ≤ record_size t.units t.records + 1
      go true = omega arith
      go false = omega arith

  -- before the last record no byte more
  pub asked_before_last : t.records + 1 < book_end t → asked t alone ≡ record_size t.units t.records
  unfolding asked
  asked_before_last h = go alone
    where
      none : eqb (t.records + 1) (book_end t) ≡ false
      none = ne_eqb (t.records + 1) (book_end t) (λ e. omega arith)

      go : (x : Bool) → record_size t.units t.records + cond (x && is_end (t.records + 1) t) 1 0 ≡ record_size t.units t.records
      go true = rw none (omega arith)
      go false = omega arith

  -- with it one, where the book stands alone
  pub asked_last : alone ≡ true → t.records + 1 ≡ book_end t → asked t alone ≡ record_size t.units t.records + 1
  unfolding asked
  asked_last e h = rw (e, eq-eqb (t.records + 1) (book_end t) h)

  -- in a place of 769 bytes there is room for what is asked for
  pub span_fits : t.records < book_end t → t.requirements ≤ 32 → requirement_size * (t.records - units_end t) + asked t alone ≤ 769
  span_fits inside few = go (dec_lt t.records (units_end t))
    where
      go : Dec (t.records < units_end t) → requirement_size * (t.records - units_end t) + asked t alone ≤ 769
      go (yes h) = omega (arith, asked_most, record_most t.units t.records)
      go (no h) = omega (arith, asked_most, requirement_sized t.units t.records (omega arith))

pub contents_long : (bs : List ℕ) (c : Counts) → contents bs ≡ taken c → contents_size ≤ length bs
unfolding contents
contents_long bs c e = leb-true contents_size (length bs) (passed (leb contents_size (length bs)) EndsEarly _ c e).0

-- requirement i stands in its place
abbrev pub Keeps : List ℕ → Tally → List ℕ → ℕ → Type 0
Keeps bs t place i = take requirement_size (drop (requirement_size * i) place) ≡ take requirement_size (part_of bs (units_end t + i))

-- ---- the record whose turn it is, where so many of its bytes have come: those before it were taken, and the requirements among them stand in the place
module _ (alone : Bool) (bs : List ℕ) (l₀ : Lent) where
  pub record AtRecord (p : ℕ) (t : Tally) (got : ℕ) (place : List ℕ) (l : Lent) : Type 0 where
    pub chain : Chain bs (part_of bs) l₀ t.records t l
    pub inside : t.records < book_end t
    pub come : p ≡ record_start (counts_in bs).units t.records + got
    pub within : p ≤ length bs
    pub few : got < asked t alone
    pub here : take got (drop (requirement_size * (t.records - units_end t)) place) ≡ take got (part_of bs t.records)
    pub kept :
        (i : ℕ) → units_end t + i < t.records → Keeps bs t place i

  pub record AtContents (p got : ℕ) (place : List ℕ) (l : Lent) : Type 0 where
    pub come : p ≡ got
    pub within : p ≤ length bs
    pub few : got < contents_size
    pub here : take got place ≡ take got bs
    pub lent : l ≡ l₀

  abbrev pub Stands : ℕ → Reading → List ℕ → Lent → Type 0
  Stands p (Contents got) place l = AtContents p got place l
  Stands p (Record t got) place l = AtRecord p t got place l
