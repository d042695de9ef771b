-- The report's row, written and read back: what is written is taken as what it was written of, what is taken is what the writer makes, and what is refused
-- the writer never makes; the refusal names the first wrong column.
use mathlib.Core.Path.{◌≡◌, refl, sym, ◌∙◌, ap}
use mathlib.Core.Bool.{Bool, true, false}
use mathlib.Core.List.{List, [], ◌∷◌}
use Prim.Native.Nat.{ℕ, suc, ◌+◌, ◌-◌, ◌≤◌, ◌<◌}
use native.Mathlib.Omega.{arith}
use lib.IntN.{ℤ, nat_abs}
use lib.ListN.{length, get_or, take, replicate, length-append, get_or-replicate}
use lib.Seq.{get_or-take}
use Rattle.rules.specs.declared.Refusal.{Refusal}
use Rattle.rules.specs.declared.Refusal.TheVariants.{WrongRow}
use Rattle.rules.specs.declared.Reported.{Reported}
use Rattle.rules.specs.declared.FigureType.{FigureType}
use Rattle.rules.specs.declared.Figure.{Figure}
use Rattle.rules.specs.declared.ReportRow.{ReportRow}
use Rattle.rules.specs.Refusals.{Reply, taken, refused, ◌>>=◌}
use Rattle.rules.specs.Text.{text}
use Rattle.rules.specs.Calendar.{last_interval}
use Rattle.rules.specs.ReportRow.{
  interval_text,
  whose_text,
  performance_text,
  type_text,
  version_text,
  ◌then◌,
  row_text,
  in_billionths,
  report_row,
}
use Rattle.rules.specs.ReportRead.{
  before_comma,
  behind_comma,
  behind_commas,
  number_most,
  billionths_most,
  interval_read,
  whose_read,
  performance_read,
  type_read,
  version_read,
  column,
  row_read,
}
use Rattle.report_row.proofs.PieceLaws.{lacks, before_first, behind_first, parted}
use Rattle.report_row.proofs.ColumnLaws.{
  Ends,
  not_both,
  unit_number,
  type_reads,
  version_reads,
  performance_reads,
  whose_reads,
  interval_reads,
  interval_lacks,
  whose_lacks,
  performance_lacks,
  type_lacks,
  Between,
  interval_long,
  whose_long,
  performance_long,
  type_long,
  version_long,
}
use Rattle.report_row.proofs.BillionthsLaws.{Signed, billionths_within, performed, performed_signed, billionths_reached}

-- a row of billionths that the writer can be asked for
pub record RowInside (r : ReportRow) : Type 0 where
  pub interval : r.interval ≤ last_interval
  pub whose : unit_number r.whose ≤ number_most
  pub raise : nat_abs r.raise.performance ≤ billionths_most
  pub lower : nat_abs r.lower.performance ≤ billionths_most
  pub version : r.version ≤ number_most

-- ---- the columns of bytes that are a row's
pub record RowColumns (bs : List ℕ) (r : ReportRow) : Type 0 where
  pub interval : column 0 bs ≡ interval_text r.interval
  pub whose : column 1 bs ≡ whose_text r.whose
  pub raise : column 2 bs ≡ performance_text r.raise.performance
  pub raise_type : column 3 bs ≡ type_text r.raise.typed
  pub lower : column 4 bs ≡ performance_text r.lower.performance
  pub lower_type : column 5 bs ≡ type_text r.lower.typed
  pub version : behind_commas 6 bs ≡ version_text r.version

-- a column and its comma passed
passed : (bs xs ys : List ℕ) → lacks 44 xs ≡ true → bs ≡ (xs then ys) → behind_comma bs ≡ ys
passed bs xs ys p e = ap behind_comma e ∙ behind_first xs ys p

-- and what stands before the comma
first_column : (bs xs ys : List ℕ) → lacks 44 xs ≡ true → bs ≡ (xs then ys) → before_comma bs ≡ xs
first_column bs xs ys p e = ap before_comma e ∙ before_first xs ys p

-- a row's text has the row's columns
pub row_columns : (r : ReportRow) → RowColumns (row_text r) r
unfolding row_text behind_commas
row_columns r =
    let interval = interval_text r.interval in
    let whose = whose_text r.whose in
    let raise = performance_text r.raise.performance in
    let raise_type = type_text r.raise.typed in
    let lower = performance_text r.lower.performance in
    let lower_type = type_text r.lower.typed in
    let version = version_text r.version in
    let bs = row_text r in
    let from_whose = passed bs interval _ (interval_lacks r.interval) refl in
    let from_raise = passed (behind_commas 1 bs) whose _ (whose_lacks r.whose) from_whose in
    let from_raise_type = passed (behind_commas 2 bs) raise _ (performance_lacks r.raise.performance) from_raise in
    let from_lower = passed (behind_commas 3 bs) raise_type _ (type_lacks r.raise.typed) from_raise_type in
    let from_lower_type = passed (behind_commas 4 bs) lower _ (performance_lacks r.lower.performance) from_lower in
    record {
      interval = first_column bs interval _ (interval_lacks r.interval) refl;
      whose = first_column (behind_commas 1 bs) whose _ (whose_lacks r.whose) from_whose;
      raise = first_column (behind_commas 2 bs) raise _ (performance_lacks r.raise.performance) from_raise;
      raise_type = first_column (behind_commas 3 bs) raise_type _ (type_lacks r.raise.typed) from_raise_type;
      lower = first_column (behind_commas 4 bs) lower _ (performance_lacks r.lower.performance) from_lower;
      lower_type = first_column (behind_commas 5 bs) lower_type version (type_lacks r.lower.typed) from_lower_type;
      version = passed (behind_commas 5 bs) lower_type version (type_lacks r.lower.typed) from_lower_type;
    }

-- ---- seven replies, in turn
-- a row of its seven columns
abbrev whole_row : ℕ → Reported → ℤ → FigureType → ℤ → FigureType → ℕ → ReportRow
whole_row interval whose raise raise_type lower lower_type version =
    record {
      interval = interval;
      whose = whose;
      raise = record { performance = raise; typed = raise_type };
      lower = record { performance = lower; typed = lower_type };
      version = version;
    }

-- the first refusal, or the row of all seven
abbrev in_turn : Reply ℕ → Reply Reported → Reply ℤ → Reply FigureType → Reply ℤ → Reply FigureType → Reply ℕ → Reply ReportRow
in_turn i w r s l m v = do
  interval ← i
  whose ← w
  raise ← r
  raise_type ← s
  lower ← l
  lower_type ← m
  version ← v
  taken (whole_row interval whose raise raise_type lower lower_type version)

module _ (i : Reply ℕ) (w : Reply Reported) (p : Reply ℤ) (s : Reply FigureType) (l : Reply ℤ) (m : Reply FigureType) (v : Reply ℕ) where
  -- all are taken, as a row's
  pub record AllTaken (r : ReportRow) : Type 0 where
    pub interval : i ≡ taken r.interval
    pub whose : w ≡ taken r.whose
    pub raise : p ≡ taken r.raise.performance
    pub raise_type : s ≡ taken r.raise.typed
    pub lower : l ≡ taken r.lower.performance
    pub lower_type : m ≡ taken r.lower.typed
    pub version : v ≡ taken r.version

-- a row that is taken has all of its columns taken
all_taken : (i : Reply ℕ) (w : Reply Reported) (p : Reply ℤ) (s : Reply FigureType) (l : Reply ℤ) (m : Reply FigureType) (v : Reply ℕ) (r : ReportRow) →
    in_turn i w p s l m v ≡ taken r → AllTaken i w p s l m v r
all_taken (refused x) w p s l m v r e = absurd (not_both e refl)
all_taken (taken i) (refused x) p s l m v r e = absurd (not_both e refl)
all_taken (taken i) (taken w) (refused x) s l m v r e = absurd (not_both e refl)
all_taken (taken i) (taken w) (taken p) (refused x) l m v r e = absurd (not_both e refl)
all_taken (taken i) (taken w) (taken p) (taken s) (refused x) m v r e = absurd (not_both e refl)
all_taken (taken i) (taken w) (taken p) (taken s) (taken l) (refused x) v r e = absurd (not_both e refl)
all_taken (taken i) (taken w) (taken p) (taken s) (taken l) (taken m) (refused x) r e = absurd (not_both e refl)
all_taken (taken i) (taken w) (taken p) (taken s) (taken l) (taken m) (taken v) r e =
    let is : whole_row i w p s l m v ≡ r = cc in
    record {
      interval = ap (λ (r : ReportRow). taken r.interval) is;
      whose = ap (λ (r : ReportRow). taken r.whose) is;
      raise = ap (λ (r : ReportRow). taken r.raise.performance) is;
      raise_type = ap (λ (r : ReportRow). taken r.raise.typed) is;
      lower = ap (λ (r : ReportRow). taken r.lower.performance) is;
      lower_type = ap (λ (r : ReportRow). taken r.lower.typed) is;
      version = ap (λ (r : ReportRow). taken r.version) is;
    }

-- and the other way round
in_turn_taken : {i : Reply ℕ} {w : Reply Reported} {p : Reply ℤ} {s : Reply FigureType} {l : Reply ℤ} {m : Reply FigureType} {v : Reply ℕ} {r : ReportRow} →
    AllTaken i w p s l m v r → in_turn i w p s l m v ≡ taken r
in_turn_taken t = rw (t.interval, t.whose, t.raise, t.raise_type, t.lower, t.lower_type, t.version)

-- the columns of bytes, each taken as a row's
abbrev pub RowTaken : List ℕ → ReportRow → Type 0
RowTaken bs r =
    AllTaken (interval_read 1 (column 0 bs)) (whose_read 2 (column 1 bs)) (performance_read 3 (column 2 bs)) (type_read 4 (column 3 bs))
    (performance_read 5 (column 4 bs))
    (type_read 6 (column 5 bs))
    (version_read 7 (behind_commas 6 bs))
    r

-- a row that is read has its columns read
pub taken_columns : (bs : List ℕ) (r : ReportRow) → row_read bs ≡ taken r → RowTaken bs r
unfolding row_read
taken_columns bs r e =
    all_taken (interval_read 1 (column 0 bs)) (whose_read 2 (column 1 bs)) (performance_read 3 (column 2 bs)) (type_read 4 (column 3 bs))
    (performance_read 5 (column 4 bs))
    (type_read 6 (column 5 bs))
    (version_read 7 (behind_commas 6 bs))
    r
    e

-- and the other way round
pub columns_taken : (bs : List ℕ) (r : ReportRow) → RowTaken bs r → row_read bs ≡ taken r
unfolding row_read
columns_taken bs r t = in_turn_taken t

-- ---- columns put together again: where something stands behind the comma, the comma is there
-- a comma is a byte
then_some : (xs ys : List ℕ) → 1 ≤ length (xs then ys)
unfolding text
then_some xs ys = omega (arith, length-append xs (44 ∷ ys))

-- what stands before a comma and behind it, put together
joined : (bs xs ys : List ℕ) → 1 ≤ length ys → before_comma bs ≡ xs → behind_comma bs ≡ ys → xs then ys ≡ bs
joined bs xs ys h e f = rw (e, f) at (parted bs (rw f h))

-- bytes that have a row's columns are its text
pub columns_joined : (bs : List ℕ) (r : ReportRow) → 1 ≤ length (version_text r.version) → RowColumns bs r → row_text r ≡ bs
unfolding row_text behind_commas
columns_joined bs r h c =
    let interval = interval_text r.interval in
    let whose = whose_text r.whose in
    let raise = performance_text r.raise.performance in
    let raise_type = type_text r.raise.typed in
    let lower = performance_text r.lower.performance in
    let lower_type = type_text r.lower.typed in
    let version = version_text r.version in
    let from_lower_type = joined (behind_commas 5 bs) lower_type version h c.lower_type c.version in
    let from_lower = joined (behind_commas 4 bs) lower _ (then_some lower_type version) c.lower (sym from_lower_type) in
    let from_raise_type = joined (behind_commas 3 bs) raise_type _ (then_some lower _) c.raise_type (sym from_lower) in
    let from_raise = joined (behind_commas 2 bs) raise _ (then_some raise_type _) c.raise (sym from_raise_type) in
    let from_whose = joined (behind_commas 1 bs) whose _ (then_some raise _) c.whose (sym from_raise) in
    joined bs interval _ (then_some whose _) c.interval (sym from_whose)

-- ---- written, and read back
module _ (ends : Ends) where
  -- WHAT IS WRITTEN IS TAKEN, AS WHAT IT WAS WRITTEN OF
  pub read_after_write : (r : ReportRow) → RowInside r → row_read (row_text r) ≡ taken r
  read_after_write r i =
      let c = row_columns r in
      columns_taken (row_text r) r
      (record {
        interval = ap (interval_read 1) c.interval ∙ (interval_reads ends).back 1 r.interval i.interval;
        whose = ap (whose_read 2) c.whose ∙ whose_reads.back 2 r.whose i.whose;
        raise = ap (performance_read 3) c.raise ∙ performance_reads.back 3 r.raise.performance i.raise;
        raise_type = ap (type_read 4) c.raise_type ∙ type_reads.back 4 r.raise.typed tt;
        lower = ap (performance_read 5) c.lower ∙ performance_reads.back 5 r.lower.performance i.lower;
        lower_type = ap (type_read 6) c.lower_type ∙ type_reads.back 6 r.lower.typed tt;
        version = ap (version_read 7) c.version ∙ version_reads.back 7 r.version i.version;
      })

  -- WHAT IS TAKEN IS WHAT THE WRITER MAKES OF IT
  pub read_is_written : (bs : List ℕ) (r : ReportRow) → row_read bs ≡ taken r → RowInside r × (row_text r ≡ bs)
  read_is_written bs r e =
      let t = taken_columns bs r e in
      let interval = (interval_reads ends).made 1 (column 0 bs) r.interval t.interval in
      let whose = whose_reads.made 2 (column 1 bs) r.whose t.whose in
      let raise = performance_reads.made 3 (column 2 bs) r.raise.performance t.raise in
      let raise_type = type_reads.made 4 (column 3 bs) r.raise.typed t.raise_type in
      let lower = performance_reads.made 5 (column 4 bs) r.lower.performance t.lower in
      let lower_type = type_reads.made 6 (column 5 bs) r.lower.typed t.lower_type in
      let version = version_reads.made 7 (behind_commas 6 bs) r.version t.version in (
        record { interval = interval.0; whose = whose.0; raise = raise.0; lower = lower.0; version = version.0 },
        columns_joined bs r (omega (arith, (version_long r.version version.0).least))
            (record {
              interval = sym interval.1;
              whose = sym whose.1;
              raise = sym raise.1;
              raise_type = sym raise_type.1;
              lower = sym lower.1;
              lower_type = sym lower_type.1;
              version = sym version.1;
            }),
      )

-- ---- rows of performances
-- what a row may be asked for with: signed 64-bit performances, and numbers of 16 bits
pub record RowSigned (r : ReportRow) : Type 0 where
  pub interval : r.interval ≤ last_interval
  pub whose : unit_number r.whose ≤ number_most
  pub raise : Signed r.raise.performance
  pub lower : Signed r.lower.performance
  pub version : r.version ≤ number_most

-- in billionths it is one that can be written
pub billionths_inside : (r : ReportRow) → RowSigned r → RowInside (in_billionths r)
billionths_inside r s =
    record {
      interval = s.interval;
      whose = s.whose;
      raise = billionths_within r.raise.performance s.raise;
      lower = billionths_within r.lower.performance s.lower;
      version = s.version;
    }

-- the figure of a performance that one of billionths is made of
abbrev pub figure_performed : Figure → Figure
figure_performed f = record { performance = performed f.performance; typed = f.typed }

-- and the row
abbrev pub row_performed : ReportRow → ReportRow
row_performed r =
    record {
      interval = r.interval;
      whose = r.whose;
      raise = figure_performed r.raise;
      lower = figure_performed r.lower;
      version = r.version;
    }

-- its billionths are those
pub performed_back : (r : ReportRow) → in_billionths (row_performed r) ≡ r
performed_back r = rw (billionths_reached r.raise.performance, billionths_reached r.lower.performance)

-- and it may be asked for
pub performed_inside : (r : ReportRow) → RowInside r → RowSigned (row_performed r)
performed_inside r i =
    record {
      interval = i.interval;
      whose = i.whose;
      raise = performed_signed r.raise.performance i.raise;
      lower = performed_signed r.lower.performance i.lower;
      version = i.version;
    }

-- some row is written so
pub record IsMade (bs : List ℕ) : Type 0 where
  pub row : ReportRow
  pub signed : RowSigned row
  pub is : report_row row ≡ bs

module _ (ends : Ends) where
  -- A ROW OF PERFORMANCES IS TAKEN AS ITS BILLIONTHS
  pub read_after_report : (r : ReportRow) → RowSigned r → row_read (report_row r) ≡ taken (in_billionths r)
  read_after_report r s = read_after_write ends (in_billionths r) (billionths_inside r s)

  -- WHAT IS TAKEN, THE WRITER MAKES OF SOME PERFORMANCES
  pub every_read_is_made : (bs : List ℕ) (r : ReportRow) → row_read bs ≡ taken r → IsMade bs
  every_read_is_made bs r e =
      let w = read_is_written ends bs r e in
      record { row = row_performed r; signed = performed_inside r w.0; is = ap row_text (performed_back r) ∙ w.1 }

  -- WHAT IS REFUSED, THE WRITER MAKES OF NONE
  pub refused_never_made : (bs : List ℕ) (x : Refusal) → row_read bs ≡ refused x → (r : ReportRow) → RowSigned r → report_row r ≡ bs → ⊥
  refused_never_made bs x e r s w = not_both (rw w at (read_after_report r s)) e

-- ---- a refusal names the first wrong column
-- whether a reply is taken
abbrev pub is_taken : {A : Type 0} → Reply A → Bool
is_taken (taken a) = true
is_taken (refused x) = false

-- which columns are right
abbrev pub rights : List ℕ → List Bool
rights bs =
    is_taken (interval_read 1 (column 0 bs)) ∷ is_taken (whose_read 2 (column 1 bs)) ∷ is_taken (performance_read 3 (column 2 bs))
    ∷ is_taken (type_read 4 (column 3 bs)) ∷ is_taken (performance_read 5 (column 4 bs)) ∷ is_taken (type_read 6 (column 5 bs))
    ∷ is_taken (version_read 7 (behind_commas 6 bs)) ∷ []

-- columns are counted from 1
abbrev pub is_right : ℕ → List ℕ → Bool
is_right k bs = get_or (rights bs) (k - 1) false

-- the columns before it are right, and it is not
pub record FirstWrong (bs : List ℕ) (x : Refusal) : Type 0 where
  pub wrong : ℕ
  pub is : x ≡ WrongRow wrong
  pub from_one : 1 ≤ wrong
  pub to_seven : wrong ≤ 7
  pub before : (j : ℕ) → 1 ≤ j → j < wrong → is_right j bs ≡ true
  pub there : is_right wrong bs ≡ false

-- the first false of a list
record FirstFalse (ts : List Bool) (x : Refusal) : Type 0 where
  passed : ℕ
  is : x ≡ WrongRow (suc passed)
  few : passed < 7
  trues : take passed ts ≡ replicate passed true
  false_there : get_or ts (suc passed - 1) false ≡ false

-- a refusal is the same in a reply of another kind
other_reply : {A B : Type 0} {y x : Refusal} → ◌≡◌ {A = Reply A} (refused y) (refused x) → ◌≡◌ {A = Reply B} (refused y) (refused x)
other_reply e = ap refused (cc)

-- the reply that refuses is the first that is not taken
first_false : (i : Reply ℕ) (w : Reply Reported) (p : Reply ℤ) (s : Reply FigureType) (l : Reply ℤ) (m : Reply FigureType) (v : Reply ℕ) (x : Refusal) →
    ((y : Refusal) → i ≡ refused y → y ≡ WrongRow 1) → ((y : Refusal) → w ≡ refused y → y ≡ WrongRow 2) → ((y : Refusal) → p ≡ refused y → y ≡ WrongRow 3) →
    ((y : Refusal) → s ≡ refused y → y ≡ WrongRow 4) → ((y : Refusal) → l ≡ refused y → y ≡ WrongRow 5) → ((y : Refusal) → m ≡ refused y → y ≡ WrongRow 6) →
    ((y : Refusal) → v ≡ refused y → y ≡ WrongRow 7) → in_turn i w p s l m v ≡ refused x →
    FirstFalse (is_taken i ∷ is_taken w ∷ is_taken p ∷ is_taken s ∷ is_taken l ∷ is_taken m ∷ is_taken v ∷ []) x
first_false (refused y) w p s l m v x a b c d f g h e =
    record { passed = 0; is = a x (other_reply e); few = omega arith; trues = refl; false_there = refl }
first_false (taken i) (refused y) p s l m v x a b c d f g h e =
    record { passed = 1; is = b x (other_reply e); few = omega arith; trues = refl; false_there = refl }
first_false (taken i) (taken w) (refused y) s l m v x a b c d f g h e =
    record { passed = 2; is = c x (other_reply e); few = omega arith; trues = refl; false_there = refl }
first_false (taken i) (taken w) (taken p) (refused y) l m v x a b c d f g h e =
    record { passed = 3; is = d x (other_reply e); few = omega arith; trues = refl; false_there = refl }
first_false (taken i) (taken w) (taken p) (taken s) (refused y) m v x a b c d f g h e =
    record { passed = 4; is = f x (other_reply e); few = omega arith; trues = refl; false_there = refl }
first_false (taken i) (taken w) (taken p) (taken s) (taken l) (refused y) v x a b c d f g h e =
    record { passed = 5; is = g x (other_reply e); few = omega arith; trues = refl; false_there = refl }
first_false (taken i) (taken w) (taken p) (taken s) (taken l) (taken m) (refused y) x a b c d f g h e =
    record { passed = 6; is = h x (other_reply e); few = omega arith; trues = refl; false_there = refl }
first_false (taken i) (taken w) (taken p) (taken s) (taken l) (taken m) (taken v) x a b c d f g h e = absurd (not_both refl e)

-- WHAT IS REFUSED IS REFUSED BY ITS FIRST WRONG COLUMN
pub refused_is_first : Ends → (bs : List ℕ) (x : Refusal) → row_read bs ≡ refused x → FirstWrong bs x
unfolding row_read
refused_is_first ends bs x e =
    let interval = interval_read 1 (column 0 bs) in
    let whose = whose_read 2 (column 1 bs) in
    let raise = performance_read 3 (column 2 bs) in
    let raise_type = type_read 4 (column 3 bs) in
    let lower = performance_read 5 (column 4 bs) in
    let lower_type = type_read 6 (column 5 bs) in
    let version = version_read 7 (behind_commas 6 bs) in
    let f =
    first_false interval whose raise raise_type lower lower_type version x ((interval_reads ends).named 1 (column 0 bs)) (whose_reads.named 2 (column 1 bs))
    (performance_reads.named 3 (column 2 bs))
    (type_reads.named 4 (column 3 bs))
    (performance_reads.named 5 (column 4 bs))
    (type_reads.named 6 (column 5 bs))
    (version_reads.named 7 (behind_commas 6 bs))
    e in
    record {
      wrong = suc f.passed;
      is = f.is;
      from_one = omega arith;
      to_seven = omega (arith, f.few);
      before = λ j h l.
          let k : j - 1 < f.passed = omega arith in
          sym (get_or-take f.passed (rights bs) (j - 1) false k) ∙ ap (λ (ts : List Bool). get_or ts (j - 1) false) f.trues
          ∙ get_or-replicate f.passed (j - 1) true false k;
      there = f.false_there;
    }

-- ---- how long a row is
-- seven columns and six commas
six_commas : (a b c d e f g : List ℕ) → length (a then b then c then d then e then f then g) ≡
    length a + length b + length c + length d + length e + length f + length g + 6
unfolding text
six_commas a b c d e f g = simp length-append (omega arith)

-- A ROW HAS 64 TO 106 BYTES
pub row_long : (r : ReportRow) → RowInside r → Between 64 106 (row_text r)
unfolding row_text
row_long r i =
    let interval = interval_text r.interval in
    let whose = whose_text r.whose in
    let raise = performance_text r.raise.performance in
    let raise_type = type_text r.raise.typed in
    let lower = performance_text r.lower.performance in
    let lower_type = type_text r.lower.typed in
    let version = version_text r.version in
    let all = six_commas interval whose raise raise_type lower lower_type version in
    let interval_bytes = interval_long r.interval in
    let whose_bytes = whose_long r.whose i.whose in
    let raise_bytes = performance_long r.raise.performance i.raise in
    let raise_type_bytes = type_long r.raise.typed in
    let lower_bytes = performance_long r.lower.performance i.lower in
    let lower_type_bytes = type_long r.lower.typed in
    let version_bytes = version_long r.version i.version in
    record { least = omega arith; most = omega arith }
