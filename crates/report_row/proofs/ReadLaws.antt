-- Laws of the reader: a column is right if the line that is written of what it says is the same bytes, and the row is read column by column.
use mathlib.Core.Path.{◌≡◌, refl, sym, ◌∙◌, ap, subst⁻¹}
use mathlib.Core.Bool.{Bool, true, false, ◌&&◌, cond, true≢false}
use mathlib.Core.List.{List, [], ◌++◌, append-nil}
use Prim.Native.Nat.{ℕ, ◌-◌, ◌≤◌, ◌<◌}
use native.Mathlib.Omega.{arith}
use borrow.Author.Tests.{le-leb, lt-leb, leb-true, leb-false, eq-eqb, ne_eqb}
use lib.Dec.{T, leb, eqb}
use lib.IntN.{ℤ, pos, neg_ℤ}
use lib.ListN.{length, get_or, take, drop, drop_of_length-le}
use lib.Seq.{take-length}
use Rattle.rules.specs.declared.Refusal.TheVariants.{WrongRow}
use Rattle.rules.specs.declared.RegionName.{RegionName}
use Rattle.rules.specs.declared.RegionName.TheVariants.{Tas1}
use Rattle.rules.specs.declared.Reported.TheVariants.{Unit, Residual}
use Rattle.rules.specs.declared.FigureType.{FigureType}
use Rattle.rules.specs.declared.FigureType.TheVariants.{Calculated, Default}
use Rattle.rules.specs.Refusals.{Reply, taken, refused}
use Rattle.rules.specs.Calendar.{leap, first_year, Date, days_to, last_interval, Moment, ends_at, interval_to}
use Rattle.rules.specs.ReportRow.{interval_text, whose_text, type_text}
use Rattle.rules.specs.ReportRead.{said, moment_in, interval_said, same, read_as, interval_read, number_most, region_said, whose_read, type_read}
use Rattle.listing.specs.Pieces.{Put}
use Rattle.report_row.specs.Dates.{Dated}
use Rattle.report_row.specs.Reading.{limited, moment_most, Holds, region_of}
use Rattle.report_row.proofs.CalendarLaws.{years_sum, months_sum, to_31, moment_inside, interval_back}
use Rattle.report_row.proofs.DatesLaws.{calendar_dated}
use Rattle.report_row.proofs.PieceLaws.{same_all, same_equal}
use Rattle.report_row.proofs.ColumnLaws.{
  Reads,
  Ends,
  Written,
  written,
  moment_number,
  moment_said,
  moment_back,
  type_reads,
  interval_reads,
}
use Rattle.report_row.proofs.SaidLaws.{limited_is, limited_more}

-- ---- a line that is as long as its room
-- from where it starts it is what was put, and so it is the same bytes as a column if that is
pub as_written : {piece old new : List ℕ} {at to : ℕ} → Put piece at old to new → length old ≡ at → (r : Bool) (bs : List ℕ) →
    r ≡ same (take (at - to) (drop to new)) bs → (t : Bool) → r ≡ t → same piece bs ≡ t
as_written {piece} {old} {new} {at} {to} p l r bs e t f =
    let none : drop at old ≡ [] = drop_of_length-le old {i = at} (omega arith) in
    let made : drop to new ≡ piece = p.bytes ∙ ap (λ (l : List ℕ). piece ++ l) none ∙ append-nil piece in
    let long : at - to ≡ length piece = omega (arith, p.place) in
    let all : take (at - to) (drop to new) ≡ piece = rw (made, long) (take-length piece) in
    ap (λ (l : List ℕ). same l bs) (sym all) ∙ sym e ∙ f

-- ---- a column that is read for what it says
module _ {A : Type 0} (write : A → List ℕ) (bs : List ℕ) (inside : Bool) (a : A) where
  -- written as these bytes
  pub right : inside ≡ true → same (write a) bs ≡ true → (k : ℕ) → taken a ≡ read_as write k bs inside a
  right p q k = rw (p, q)

  -- written as others
  pub differs : same (write a) bs ≡ false → (k : ℕ) → refused (WrongRow k) ≡ read_as write k bs inside a
  differs q k = go inside
    where
      go : (t : Bool) → refused (WrongRow k) ≡ cond (t && same (write a) bs) (taken a) (refused (WrongRow k))
      go true = rw q
      go false = refl

  -- not within the range
  pub outside : inside ≡ false → (k : ℕ) → refused (WrongRow k) ≡ read_as write k bs inside a
  outside p k = rw p

-- what can be read of no value within the range is wrong
pub wrong : {A : Type 0} {write : A → List ℕ} {Inside : A → Type 0} {read : ℕ → List ℕ → Reply A} → Reads write Inside read →
    (bs : List ℕ) → ((a : A) → Inside a → write a ≡ bs → ⊥) → (k : ℕ) → refused (WrongRow k) ≡ read k bs
wrong {A} {read = read} reads bs never k = go (read k bs) refl
  where
    go : (m : Reply A) → read k bs ≡ m → refused (WrongRow k) ≡ read k bs
    go (taken a) e = let m = reads.made k bs a e in absurd (never a m.0 m.1)
    go (refused x) e = ap refused (sym (reads.named k bs x e)) ∙ sym e

-- ---- by the number that it says, up to the most: a version, a unit's number, a performance's size
module _ {A : Type 0} (write : A → List ℕ) (of : ℕ → A) (most : ℕ) (bs : List ℕ) (n : ℕ) (e : n ≡ limited most (said bs)) where
  -- more than the most
  pub number_over : most < n → (k : ℕ) → refused (WrongRow k) ≡ read_as write k bs (leb (said bs) most) (of (said bs))
  number_over h = outside write bs (leb (said bs) most) (of (said bs)) (limited_more most (said bs) n e h)

  -- written as these bytes
  pub number_right : n ≤ most → (a : A) → a ≡ of n → same (write a) bs ≡ true → (k : ℕ) →
      taken a ≡ read_as write k bs (leb (said bs) most) (of (said bs))
  number_right h a i q k =
      let is : said bs ≡ n = limited_is most (said bs) n e h in
      rw (is, i) (right write bs (leb n most) (of n) (le-leb n most h) (rw i at q) k)

  -- written as others
  pub number_differs : n ≤ most → (a : A) → a ≡ of n → same (write a) bs ≡ false → (k : ℕ) →
      refused (WrongRow k) ≡ read_as write k bs (leb (said bs) most) (of (said bs))
  number_differs h a i q k =
      let is : said bs ≡ n = limited_is most (said bs) n e h in
      rw is (differs write bs (leb n most) (of n) (rw i at q) k)

-- the sign that a column gives to a size
abbrev pub signed : List ℕ → ℕ → ℤ
signed bs n = cond (eqb (get_or bs 0 0) 45) (neg_ℤ (pos n)) (pos n)

-- ---- date and time
-- what the calendar proves of every interval's end
pub ends : Ends
ends =
    record {
      back = λ n h. interval_back n;
      inside = λ n h.
          let m = moment_inside n h in
          record { year = m.date.to_9999; month = m.date.to_december; day = to_31 (ends_at n).date m.date; hour = m.to_23; minute = m.to_55 };
    }

-- the moment that is said by what an interval is written as
module _ (bs : List ℕ) (n : ℕ) (h : n ≤ last_interval) (e : interval_text n ≡ bs) where
  -- its parts fit their digits
  fitting : Written (ends_at n)
  fitting = written (ends_at n) (ends.inside n h)

  -- the number that its digits make
  number_is : said bs ≡ moment_number (ends_at n)
  number_is = ap said (sym e) ∙ moment_said (ends_at n) fitting

  -- it is no more than the last end's
  pub moment_few : said bs ≤ moment_most
  moment_few = let i = ends.inside n h in omega (arith, number_is, i.year, i.month, i.day, i.hour, i.minute)

  -- it is the interval's end
  moment_is : moment_in (said bs) ≡ ends_at n
  moment_is = ap moment_in number_is ∙ moment_back (ends_at n) fitting

  -- and has a date
  pub moment_dated : Dated (moment_in (said bs)).date
  moment_dated = subst⁻¹ (λ (m : Moment). Dated m.date) moment_is (calendar_dated (moment_inside n h).date)

-- a number that no moment has, or a date that is none
module _ (bs : List ℕ) (n : ℕ) (e : n ≡ limited moment_most (said bs)) where
  -- more than the last end's is no end's
  pub moment_over : moment_most < n → (k : ℕ) → refused (WrongRow k) ≡ interval_read k bs
  moment_over h =
      let many : moment_most < said bs = leb-false (said bs) moment_most (limited_more moment_most (said bs) n e h) in
      wrong (interval_reads ends) bs (λ a i w. omega (arith, many, moment_few bs a i w))

  -- and so is one without a date
  pub moment_undated : n ≤ moment_most → (Dated (moment_in n).date → ⊥) → (k : ℕ) → refused (WrongRow k) ≡ interval_read k bs
  moment_undated h undated =
      let is : said bs ≡ n = limited_is moment_most (said bs) n e h in
      wrong (interval_reads ends) bs (λ a i w. undated (rw is at (moment_dated bs a i w)))

  module _ (h : n ≤ moment_most) (interval : ℕ) (i : interval ≡ interval_to (moment_in n)) where
    -- the interval is what the column says
    interval_is : interval_said bs ≡ interval
    interval_is = ap (λ (z : ℕ). interval_to (moment_in z)) (limited_is moment_most (said bs) n e h) ∙ sym i

    -- past 9999
    pub interval_over : last_interval < interval → (k : ℕ) → refused (WrongRow k) ≡ interval_read k bs
    interval_over l =
        outside interval_text bs (leb (interval_said bs) last_interval) (interval_said bs) (rw interval_is (lt-leb interval last_interval l))

    -- written as these bytes
    pub interval_right : interval ≤ last_interval → same (interval_text interval) bs ≡ true → (k : ℕ) → taken interval ≡ interval_read k bs
    interval_right l q k =
        ap taken (sym interval_is)
        ∙ right interval_text bs (leb (interval_said bs) last_interval) (interval_said bs) (rw interval_is (le-leb interval last_interval l))
        (rw interval_is q) k

    -- written as others
    pub interval_differs : same (interval_text interval) bs ≡ false → (k : ℕ) → refused (WrongRow k) ≡ interval_read k bs
    interval_differs q =
        differs interval_text bs (leb (interval_said bs) last_interval) (interval_said bs) (rw interval_is q)

-- ---- dates
-- what a test that holds tells
pub holds : (r : Bool) (A : Type 0) → Holds r A → r ≡ true → A
holds true A h e = h
holds false A h e = absurd (true≢false (sym e))

-- and one that does not
pub holds_not : (r : Bool) (A : Type 0) → Holds r A → r ≡ false → A → ⊥
holds_not true A h e = absurd (true≢false e)
holds_not false A h e = h

-- a date that has all but its first day tested
pub by_day : (d : Date) → first_year ≤ d.year → d.year ≤ 9_999 → 1 ≤ d.month → d.month ≤ 12 → d.day ≤ 31 → Holds (leb 1 d.day) (Dated d)
by_day d a b m n o = go (leb 1 d.day) refl
  where
    go : (t : Bool) → leb 1 d.day ≡ t → Holds t (Dated d)
    go true e = record { from_2000 = a; to_9999 = b; from_january = m; to_december = n; from_first = leb-true 1 d.day e; to_last = o }
    go false e = λ x. omega (arith, leb-false 1 d.day e, x.from_first)

-- no day is more than some weeks past the last day of 9999, even of a month that has fewer
pub days_few : (d : Date) → Dated d → days_to d ≤ 2_922_100
unfolding days_to
days_few d x =
    let years = years_sum (d.year - first_year) in
    let months = months_sum (leap d.year) (d.month - 1) (omega (arith, x.to_december)) in
    omega (arith, years, months, x.to_9999, x.to_december, x.to_last)

-- ---- types
-- one of the two words
pub type_right : (bs : List ℕ) (a : FigureType) → same (type_text a) bs ≡ true → (k : ℕ) → taken a ≡ type_read k bs
type_right bs a q k = let e : type_text a ≡ bs = same_equal (type_text a) bs q in sym (rw e at (type_reads.back k a tt))

-- neither
pub type_wrong : (bs : List ℕ) → same (type_text Calculated) bs ≡ false → same (type_text Default) bs ≡ false → (k : ℕ) →
    refused (WrongRow k) ≡ type_read k bs
type_wrong bs p q = wrong type_reads bs neither
  where
    not_false : (a : FigureType) → same (type_text a) bs ≡ false → type_text a ≡ bs → ⊥
    not_false a f e = let z : ◌≡◌ {A = Bool} true false = sym (same_all bs) ∙ ap (λ (l : List ℕ). same l bs) (sym e) ∙ f in
        let n : ◌≡◌ {A = ℕ} 0 1 = cc in omega arith

    neither : (a : FigureType) → T true → type_text a ≡ bs → ⊥
    neither Calculated t e = not_false Calculated p e
    neither Default t e = not_false Default q e

-- ---- whose row
-- none of the four letters
pub region_rest : (b : ℕ) → (b ≡ 81 → ⊥) → (b ≡ 78 → ⊥) → (b ≡ 86 → ⊥) → (b ≡ 83 → ⊥) → Tas1 ≡ region_of b
region_rest b q n v s = rw (ne_eqb b 81 q, ne_eqb b 78 n, ne_eqb b 86 v, ne_eqb b 83 s)

-- a column that begins with R is read for a residual
pub residual_said : (bs : List ℕ) (name : RegionName) → name ≡ region_said bs → get_or bs 0 0 ≡ 82 → (k : ℕ) →
    read_as whose_text k bs true (Residual name) ≡ whose_read k bs
residual_said bs name e h k =
    ap (λ (r : RegionName). read_as whose_text k bs true (Residual r)) e ∙ rw (eq-eqb (get_or bs 0 0) 82 h)

module _ (bs : List ℕ) (h : get_or bs 0 0 ≡ 82 → ⊥) (n : ℕ) (e : n ≡ limited number_most (said bs)) where
  -- any other is read for a unit's number
  number_read : (k : ℕ) → read_as whose_text k bs (leb (said bs) number_most) (Unit (said bs)) ≡ whose_read k bs
  number_read k = rw (ne_eqb (get_or bs 0 0) 82 h)

  -- which is too large
  pub unit_over : number_most < n → (k : ℕ) → refused (WrongRow k) ≡ whose_read k bs
  unit_over l k = number_over whose_text Unit number_most bs n e l k ∙ number_read k

  -- or not
  pub unit_said : n ≤ number_most → (k : ℕ) → read_as whose_text k bs true (Unit n) ≡ whose_read k bs
  unit_said l k =
      let is : said bs ≡ n = limited_is number_most (said bs) n e l in
      let inside : leb n number_most ≡ true = le-leb n number_most l in
      ap (λ (t : Bool). read_as whose_text k bs t (Unit n)) (sym inside)
      ∙ ap (λ (z : ℕ). read_as whose_text k bs (leb z number_most) (Unit z)) (sym is)
      ∙ number_read k
