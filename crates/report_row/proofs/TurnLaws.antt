-- Laws of the row read in turn: what a stage of the reader is told of its columns decides what the rest of the row is read as.
use Rattle.std.specs.Prelude.{Result, Option, Ok, Err, Some, None}
use Rattle.std.specs.Option.{ok_or}
use Rattle.std.specs.Result.{IsErrAnd}
use Rattle.report_row.specs.Promises.{read_answer}
use Rattle.rules.specs.declared.Refusal.TheVariants.{WrongRow}
use mathlib.Core.Path.{◌≡◌, refl, sym, ◌∙◌, ap, ap₂}
use mathlib.Core.List.{List}
use Prim.Native.Nat.{ℕ, ◌+◌, ◌-◌, ◌≤◌}
use native.Mathlib.Omega.{arith}
use lib.IntN.{ℤ}
use lib.ListN.{length, take, drop, length-drop}
use lib.Seq.{take_all}
use Rattle.rules.specs.declared.Refusal.{Refusal}
use Rattle.rules.specs.declared.Reported.{Reported}
use Rattle.rules.specs.declared.FigureType.{FigureType}
use Rattle.rules.specs.declared.Figure.{Figure}
use Rattle.rules.specs.declared.ReportRow.{ReportRow}
use Rattle.rules.specs.Refusals.{Reply, taken, refused, ◌>>=◌}
use Rattle.rules.specs.ReportRead.{
  before_comma,
  behind_comma,
  behind_commas,
  interval_read,
  whose_read,
  performance_read,
  type_read,
  version_read,
  column,
  row_read,
}
use Rattle.report_row.specs.Reading.{column_reply, From, ColumnAt, figure_read, version_on, lower_on, raise_on}

-- ---- a performance and its type
-- of two replies
abbrev figure_of : Reply ℤ → Reply FigureType → Reply Figure
figure_of m o = do
  performance ← m
  typed ← o
  taken (record { performance = performance; typed = typed })

module _ (k : ℕ) (bs : List ℕ) where
  -- the performance is wrong
  pub performance_wrong : {x : Refusal} → performance_read k (before_comma bs) ≡ refused x → figure_read k bs ≡ refused x
  unfolding figure_read
  performance_wrong e = ap (λ (m : Reply ℤ). figure_of m (type_read (k + 1) (before_comma (behind_comma bs)))) e

  -- the type is
  pub type_refused : {performance : ℤ} {x : Refusal} → performance_read k (before_comma bs) ≡ taken performance →
      type_read (k + 1) (before_comma (behind_comma bs)) ≡ refused x → figure_read k bs ≡ refused x
  unfolding figure_read
  type_refused e f = ap₂ figure_of e f

  -- neither is
  pub figure_taken : {performance : ℤ} {typed : FigureType} → performance_read k (before_comma bs) ≡ taken performance →
      type_read (k + 1) (before_comma (behind_comma bs)) ≡ taken typed → figure_read k bs ≡ taken (record { performance = performance; typed = typed })
  unfolding figure_read
  figure_taken e f = ap₂ figure_of e f

-- ---- the rest of a row
-- a row of its parts
abbrev row_of : ℕ → Reported → Figure → Figure → ℕ → ReportRow
row_of interval whose raise lower version = record { interval = interval; whose = whose; raise = raise; lower = lower; version = version }

-- with a reply for the version
abbrev with_version : ℕ → Reported → Figure → Figure → Reply ℕ → Reply ReportRow
with_version interval whose raise lower m = do
  version ← m
  taken (row_of interval whose raise lower version)

module _ (interval : ℕ) (whose : Reported) (raise lower : Figure) (bs : List ℕ) where
  -- the version is wrong
  pub version_refused : {x : Refusal} → version_read 7 bs ≡ refused x → version_on interval whose raise lower bs ≡ refused x
  unfolding version_on
  version_refused e = ap (with_version interval whose raise lower) e

  -- it is right
  pub version_taken : {version : ℕ} → version_read 7 bs ≡ taken version →
      version_on interval whose raise lower bs ≡ taken (row_of interval whose raise lower version)
  unfolding version_on
  version_taken e = ap (with_version interval whose raise lower) e

-- with a reply for the lower figure
abbrev with_lower : ℕ → Reported → Figure → List ℕ → Reply Figure → Reply ReportRow
with_lower interval whose raise bs m = do
  lower ← m
  version_on interval whose raise lower bs

module _ (interval : ℕ) (whose : Reported) (raise : Figure) (bs : List ℕ) where
  -- the lower figure is wrong
  pub lower_refused : {x : Refusal} → figure_read 5 bs ≡ refused x → lower_on interval whose raise bs ≡ refused x
  unfolding lower_on
  lower_refused e = ap (with_lower interval whose raise (behind_commas 2 bs)) e

  -- it is right
  pub lower_taken : {lower : Figure} → figure_read 5 bs ≡ taken lower →
      lower_on interval whose raise bs ≡ version_on interval whose raise lower (behind_commas 2 bs)
  unfolding lower_on
  lower_taken e = ap (with_lower interval whose raise (behind_commas 2 bs)) e

-- with a reply for the raise figure
abbrev with_raise : ℕ → Reported → List ℕ → Reply Figure → Reply ReportRow
with_raise interval whose bs m = do
  raise ← m
  lower_on interval whose raise bs

module _ (interval : ℕ) (whose : Reported) (bs : List ℕ) where
  -- the raise figure is wrong
  pub raise_refused : {x : Refusal} → figure_read 3 bs ≡ refused x → raise_on interval whose bs ≡ refused x
  unfolding raise_on
  raise_refused e = ap (with_raise interval whose (behind_commas 2 bs)) e

  -- it is right
  pub raise_taken : {raise : Figure} → figure_read 3 bs ≡ taken raise → raise_on interval whose bs ≡ lower_on interval whose raise (behind_commas 2 bs)
  unfolding raise_on
  raise_taken e = ap (with_raise interval whose (behind_commas 2 bs)) e

-- ---- the row: seven columns in turn are two, and what the stages read of the others
-- the first refusal, or the row of all seven
abbrev in_turn : Reply ℕ → Reply Reported → Reply ℤ → Reply FigureType → Reply ℤ → Reply FigureType → Reply ℕ → Reply ReportRow
in_turn i w r s l m v = do
  interval ← i
  whose ← w
  raise ← r
  raise_type ← s
  lower ← l
  lower_type ← m
  version ← v
  taken (row_of interval whose (record { performance = raise; typed = raise_type }) (record { performance = lower; typed = lower_type }) version)

-- the same of two figures
abbrev in_stages : ℕ → Reported → Reply Figure → Reply Figure → Reply ℕ → Reply ReportRow
in_stages interval whose r l v = do
  raise ← r
  lower ← l
  version ← v
  taken (row_of interval whose raise lower version)

-- a figure is read as its two columns are in turn
staged : (i : ℕ) (w : Reported) (r : Reply ℤ) (s : Reply FigureType) (l : Reply ℤ) (m : Reply FigureType) (v : Reply ℕ) →
    in_turn (taken i) (taken w) r s l m v ≡ in_stages i w (figure_of r s) (figure_of l m) v
staged i w (refused x) s l m v = refl
staged i w (taken r) (refused x) l m v = refl
staged i w (taken r) (taken s) (refused x) m v = refl
staged i w (taken r) (taken s) (taken l) (refused x) v = refl
staged i w (taken r) (taken s) (taken l) (taken m) v = refl

module _ (bs : List ℕ) where
  -- the row by the replies for its first two columns
  from_two : Reply ℕ → Reply Reported → Reply ReportRow
  from_two i w =
      in_turn i w (performance_read 3 (column 2 bs)) (type_read 4 (column 3 bs)) (performance_read 5 (column 4 bs)) (type_read 6 (column 5 bs))
      (version_read 7 (behind_commas 6 bs))

  -- the first column is wrong
  pub interval_refused : {x : Refusal} → interval_read 1 (before_comma bs) ≡ refused x → row_read bs ≡ refused x
  unfolding row_read behind_commas from_two
  interval_refused e = ap (λ (m : Reply ℕ). from_two m (whose_read 2 (column 1 bs))) e

  -- the second is
  pub whose_refused : {interval : ℕ} {x : Refusal} → interval_read 1 (before_comma bs) ≡ taken interval →
      whose_read 2 (before_comma (behind_comma bs)) ≡ refused x → row_read bs ≡ refused x
  unfolding row_read behind_commas from_two
  whose_refused e f = ap₂ from_two e f

  -- both are right
  pub two_taken : {interval : ℕ} {whose : Reported} → interval_read 1 (before_comma bs) ≡ taken interval →
      whose_read 2 (before_comma (behind_comma bs)) ≡ taken whose → row_read bs ≡ raise_on interval whose (behind_comma (behind_comma bs))
  unfolding row_read behind_commas from_two raise_on lower_on version_on figure_read
  two_taken {interval} {whose} e f =
      ap₂ from_two e f
      ∙ staged interval whose (performance_read 3 (column 2 bs)) (type_read 4 (column 3 bs)) (performance_read 5 (column 4 bs)) (type_read 6 (column 5 bs))
      (version_read 7 (behind_commas 6 bs))

-- ---- what the code is told of a column
-- it is right
pub column_taken : {A : Type 0} (k : ℕ) (m : Option A) {x : A} {reply : Reply A} → column_reply k m ≡ reply → Ok x ≡ ok_or m (WrongRow k) → reply ≡ taken x
column_taken k None e f = cc
column_taken k (Some x) e f = cc

-- it is wrong
pub column_refused : {A : Type 0} (k : ℕ) (m : Option A) {x : Refusal} {reply : Reply A} → column_reply k m ≡ reply → Err x ≡ ok_or m (WrongRow k) →
    reply ≡ refused x
column_refused k None e f = cc
column_refused k (Some x) e f = cc

-- its refusal is the row's
pub row_refused : (answer : Result ReportRow Refusal) {x : Refusal} {reply : Reply ReportRow} → IsErrAnd answer (λ y. y ≡ x) → reply ≡ refused x →
    answer ≡ read_answer reply
row_refused (Ok row) h e = absurd h
row_refused (Err y) h e = rw (h, e)

-- ---- what the code lends of the row
-- from a place to its end
pub rest_lent : {row rest : List ℕ} {at : ℕ} → From row rest at → take (length row - at) (drop at row) ≡ rest
rest_lent {row} {rest} {at} f =
    let long : length (drop at row) ≤ length row - at = omega (arith, length-drop at row) in
    take_all (length row - at) (drop at row) long ∙ f.is

-- its first column
pub first_lent : {row : List ℕ} {end next : ℕ} → ColumnAt row 0 end next → take end row ≡ before_comma row
first_lent {row} {end} c = let e : end - 0 ≡ end = omega arith in ap (λ (i : ℕ). take i row) (sym e) ∙ c.is

-- the column behind one, and what stands behind that
module _ {row : List ℕ} {from end next : ℕ} (c : ColumnAt row from end next) {end' next' : ℕ} (d : ColumnAt row next end' next') where
  pub second_lent : take (end' - next) (drop next row) ≡ before_comma (behind_comma (drop from row))
  second_lent = d.is ∙ ap before_comma c.behind.is

  pub second_behind : From row (behind_commas 2 (drop from row)) next'
  unfolding behind_commas
  second_behind = record { inside = d.behind.inside; is = d.behind.is ∙ ap behind_comma c.behind.is }
