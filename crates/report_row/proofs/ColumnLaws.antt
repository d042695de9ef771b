-- Each column of the report's row, written and read back: what the writer makes of a value within its range is taken as that value, and what is taken is
-- what the writer makes of it.
use mathlib.Core.Path.{◌≡◌, refl, sym, ◌∙◌, ap}
use mathlib.Core.Bool.{Bool, true, false, ◌&&◌, cond}
use mathlib.Core.List.{List, ◌++◌}
use Prim.Native.Nat.{ℕ, zero, suc, ◌+◌, ◌*◌, ◌/◌, ◌%◌, ◌≤◌, ◌<◌, ◌^◌}
use native.Mathlib.Omega.{arith}
use native.Mathlib.Nat.{div-lt_iff_lt-mul, div-add-mod', mod-lt}
use borrow.Author.Tests.{le-leb, leb-true, ne_eqb}
use lib.Dec.{T, leb, eqb}
use lib.IntN.{ℤ, pos, negsuc, neg_ℤ, nat_abs}
use lib.ListN.{length, get_or, length-append, get_or-append}
use Rattle.rules.specs.declared.Refusal.{Refusal}
use Rattle.rules.specs.declared.Refusal.TheVariants.{WrongRow}
use Rattle.rules.specs.declared.RegionName.TheVariants.{Qld1, Nsw1, Vic1, Sa1, Tas1}
use Rattle.rules.specs.declared.Reported.{Reported}
use Rattle.rules.specs.declared.Reported.TheVariants.{Unit, Residual}
use Rattle.rules.specs.declared.FigureType.{FigureType}
use Rattle.rules.specs.declared.FigureType.TheVariants.{Calculated, Default}
use Rattle.rules.specs.Quantities.{billion}
use Rattle.rules.specs.Refusals.{Reply, taken, refused}
use Rattle.rules.specs.Text.{text, natural}
use Rattle.rules.specs.Calendar.{last_interval, Moment, ends_at, interval_to}
use Rattle.rules.specs.ReportRow.{padded, moment_text, interval_text, whose_text, decimals, performance_text, type_text, version_text}
use Rattle.rules.specs.ReportRead.{
  said_from,
  said,
  signed_said,
  moment_in,
  interval_said,
  same,
  read_as,
  interval_read,
  number_most,
  region_said,
  whose_read,
  billionths_most,
  performance_read,
  type_said,
  type_read,
  version_read,
}
use Rattle.report_row.proofs.PieceLaws.{
  both_first,
  both_second,
  lacks,
  lacks_joined,
  said_joined,
  padded_long,
  padded_lacks,
  padded_said,
  first_digit,
  first_digit_most,
  natural_digits,
  natural_lacks,
  natural_said,
  natural_some,
  number_long,
  whole_long,
  same_all,
  same_equal,
}

-- ---- what a column's reading owes: taken back what is written, taken nothing else, and refused by the column's own number
pub record Reads {A : Type 0} (write : A → List ℕ) (Inside : A → Type 0) (read : ℕ → List ℕ → Reply A) : Type 0 where
  pub back : (k : ℕ) (a : A) → Inside a → read k (write a) ≡ taken a
  pub made : (k : ℕ) (bs : List ℕ) (a : A) → read k bs ≡ taken a → Inside a × (write a ≡ bs)
  pub named : (k : ℕ) (bs : List ℕ) (x : Refusal) → read k bs ≡ refused x → x ≡ WrongRow k

-- no reply is both
pub not_both : {A : Type 0} {m : Reply A} {a : A} {x : Refusal} → m ≡ taken a → m ≡ refused x → ⊥
not_both p q = let z : ◌≡◌ {A = ℕ} 0 1 = cc in omega arith

-- so no value within the range is written as what is refused
pub never : {A : Type 0} {write : A → List ℕ} {Inside : A → Type 0} {read : ℕ → List ℕ → Reply A} → Reads write Inside read →
    (k : ℕ) (bs : List ℕ) (x : Refusal) → read k bs ≡ refused x → (a : A) → Inside a → write a ≡ bs → ⊥
never {read} reads k bs x e a h w = not_both (rw w at (reads.back k a h)) e

-- ---- a column that is read for what it says: taken, if that is within the range and written as these bytes
module _ {A : Type 0} (write : A → List ℕ) (k : ℕ) (bs : List ℕ) (inside : Bool) (a : A) where
  pub read_right : inside ≡ true → write a ≡ bs → read_as write k bs inside a ≡ taken a
  read_right p e =
      let q : same (write a) bs ≡ true = rw e (same_all bs) in
      rw (p, q)

  -- what is taken is within the range, is written as these bytes, and is what they say
  pub read_made : (c : A) → read_as write k bs inside a ≡ taken c → (inside ≡ true) × ((write a ≡ bs) × (a ≡ c))
  read_made c e = go (inside && same (write a) bs) refl e
    where
      go : (t : Bool) → (inside && same (write a) bs) ≡ t → ◌≡◌ {A = Reply A} (cond t (taken a) (refused (WrongRow k))) (taken c) →
          (inside ≡ true) × ((write a ≡ bs) × (a ≡ c))
      go true p f = (both_first inside (same (write a) bs) p, (same_equal (write a) bs (both_second inside (same (write a) bs) p), cc))
      go false p f = absurd (not_both f refl)

  -- what is refused is refused by the column's number
  pub read_named : (x : Refusal) → read_as write k bs inside a ≡ refused x → x ≡ WrongRow k
  read_named x e = go (inside && same (write a) bs) e
    where
      go : (t : Bool) → ◌≡◌ {A = Reply A} (cond t (taken a) (refused (WrongRow k))) (refused x) → x ≡ WrongRow k
      go true f = absurd (not_both refl f)
      go false f = cc

-- ---- types: each is within the range
-- A TYPE IS READ BACK
pub type_reads : Reads type_text (λ f. T true) type_read
unfolding text same
type_reads = record { back = back; made = made; named = λ k bs x e. read_named type_text k bs true (type_said bs) x e }
  where
    back : (k : ℕ) (a : FigureType) → T true → type_read k (type_text a) ≡ taken a
    back k Calculated h = refl
    back k Default h = refl

    made : (k : ℕ) (bs : List ℕ) (a : FigureType) → type_read k bs ≡ taken a → T true × (type_text a ≡ bs)
    made k bs a e = let m = read_made type_text k bs true (type_said bs) a e in (tt, ap type_text (sym m.1.1) ∙ m.1.0)

-- ---- version
-- its text says it
pub version_said : (n : ℕ) → n < 10 ^ 20 → said (version_text n) ≡ n
unfolding text said_from
version_said n h = said_joined 0 (natural n) (text "\n") ∙ natural_said n h

-- A VERSION IS READ BACK
pub version_reads : Reads version_text (λ n. n ≤ number_most) version_read
version_reads = record { back = back; made = made; named = λ k bs x e. read_named version_text k bs (leb (said bs) number_most) (said bs) x e }
  where
    back : (k n : ℕ) → n ≤ number_most → version_read k (version_text n) ≡ taken n
    back k n h =
        let bs = version_text n in
        let e : said bs ≡ n = version_said n (omega arith) in
        read_right version_text k bs (leb (said bs) number_most) (said bs) (le-leb (said bs) number_most (omega arith)) (ap version_text e) ∙ ap taken e

    made : (k : ℕ) (bs : List ℕ) (n : ℕ) → version_read k bs ≡ taken n → (n ≤ number_most) × (version_text n ≡ bs)
    made k bs n e =
        let m = read_made version_text k bs (leb (said bs) number_most) (said bs) n e in
        let l : said bs ≤ number_most = leb-true (said bs) number_most m.0 in
        (omega (arith, m.1.1), ap version_text (sym m.1.1) ∙ m.1.0)

-- ---- performances
-- whole part and decimals say the number of billionths
pub decimals_said : (b : ℕ) → b ≤ billionths_most → said (decimals b) ≡ b
unfolding text said_from
decimals_said b h =
    let whole = b / billion in
    let few : whole < 10 ^ 20 = (div-lt_iff_lt-mul {k = billion} {x = b} {y = 10 ^ 20} (omega arith)).1 (omega arith) in
    let part : b % billion < 10 ^ 9 = mod-lt b (omega arith) in
    said_joined 0 (natural whole) (text "." ++ padded 9 (b % billion)) ∙ ap (λ (z : ℕ). said_from z (padded 9 (b % billion))) (natural_said whole few)
    ∙ padded_said 9 whole (b % billion) part
    ∙ div-add-mod' b billion

-- they begin with a digit, and so not with a minus
pub decimals_first : (b : ℕ) → eqb (get_or (decimals b) 0 0) 45 ≡ false
decimals_first b =
    let bs = natural (b / billion) in
    let e = get_or-append bs (text "." ++ padded 9 (b % billion)) 0 0 (natural_some (b / billion)) in
    let d : 48 ≤ get_or bs 0 0 = first_digit bs (natural_digits (b / billion)) (natural_some (b / billion)) in
    ne_eqb (get_or (decimals b) 0 0) 45 (λ f. omega (arith, e))

-- the digits say the size
pub performance_said : (b : ℤ) → nat_abs b ≤ billionths_most → said (performance_text b) ≡ nat_abs b
unfolding text said_from
performance_said (pos b) h = decimals_said b h
performance_said (negsuc b) h = decimals_said (suc b) h

-- and with the sign the number
pub performance_signed : (b : ℤ) → nat_abs b ≤ billionths_most → signed_said (performance_text b) ≡ b
unfolding text
performance_signed (pos b) h = rw (decimals_first b) (ap pos (performance_said (pos b) h))
performance_signed (negsuc b) h = ap (λ (z : ℕ). neg_ℤ (pos z)) (performance_said (negsuc b) h)

-- what bytes say with a sign has the size of what their digits say
pub signed_size : (bs : List ℕ) → nat_abs (signed_said bs) ≡ said bs
signed_size bs = go (eqb (get_or bs 0 0) 45) (said bs)
  where
    go : (t : Bool) (n : ℕ) → nat_abs (cond t (neg_ℤ (pos n)) (pos n)) ≡ n
    go true zero = refl
    go true (suc n) = refl
    go false n = refl

-- A PERFORMANCE IS READ BACK
pub performance_reads : Reads performance_text (λ b. nat_abs b ≤ billionths_most) performance_read
performance_reads =
    record { back = back; made = made; named = λ k bs x e. read_named performance_text k bs (leb (said bs) billionths_most) (signed_said bs) x e }
  where
    back : (k : ℕ) (b : ℤ) → nat_abs b ≤ billionths_most → performance_read k (performance_text b) ≡ taken b
    back k b h =
        let bs = performance_text b in
        let e : said bs ≡ nat_abs b = performance_said b h in
        let s : signed_said bs ≡ b = performance_signed b h in
        read_right performance_text k bs (leb (said bs) billionths_most) (signed_said bs) (le-leb (said bs) billionths_most (omega arith))
        (ap performance_text s)
        ∙ ap taken s

    made : (k : ℕ) (bs : List ℕ) (b : ℤ) → performance_read k bs ≡ taken b → (nat_abs b ≤ billionths_most) × (performance_text b ≡ bs)
    made k bs b e =
        let m = read_made performance_text k bs (leb (said bs) billionths_most) (signed_said bs) b e in
        let l : said bs ≤ billionths_most = leb-true (said bs) billionths_most m.0 in
        let s : nat_abs b ≡ said bs = ap nat_abs (sym m.1.1) ∙ signed_size bs in
        (omega arith, ap performance_text (sym m.1.1) ∙ m.1.0)

-- ZERO HAS NO MINUS
pub no_minus_zero : (b : ℤ) → nat_abs b ≤ billionths_most → performance_text b ≡ text "-0.000000000" → ⊥
unfolding text said_from
no_minus_zero b h e =
    let zeros : b ≡ pos 0 = sym (performance_signed b h) ∙ ap signed_said e in
    let minus : eqb (get_or (decimals 0) 0 0) 45 ≡ true = ap (λ (l : List ℕ). eqb (get_or l 0 0) 45) (ap performance_text (sym zeros) ∙ e) in
    let z : ◌≡◌ {A = Bool} true false = sym minus ∙ decimals_first 0 in
    let n : ◌≡◌ {A = ℕ} 0 1 = cc in
    omega arith

-- ---- whose row
-- the unit's number; a residual has none, which is 0 here
abbrev pub unit_number : Reported → ℕ
unit_number (Unit n) = n
unit_number (Residual r) = 0

-- read for a residual
abbrev residual_read : ℕ → List ℕ → Reply Reported
residual_read k bs = read_as whose_text k bs true (Residual (region_said bs))

-- read for a unit's number
abbrev number_read : ℕ → List ℕ → Reply Reported
number_read k bs = read_as whose_text k bs (leb (said bs) number_most) (Unit (said bs))

-- WHOSE ROW IT IS, IS READ BACK
pub whose_reads : Reads whose_text (λ w. unit_number w ≤ number_most) whose_read
unfolding text same
whose_reads = record { back = back; made = made; named = named }
  where
    back : (k : ℕ) (w : Reported) → unit_number w ≤ number_most → whose_read k (whose_text w) ≡ taken w
    back k (Residual Qld1) h = refl
    back k (Residual Nsw1) h = refl
    back k (Residual Vic1) h = refl
    back k (Residual Sa1) h = refl
    back k (Residual Tas1) h = refl
    back k (Unit n) h =
        let bs = natural n in
        let e : said bs ≡ n = natural_said n (omega arith) in
        let d : get_or bs 0 0 ≤ 57 = first_digit_most bs (natural_digits n) in
        let r : eqb (get_or bs 0 0) 82 ≡ false = ne_eqb (get_or bs 0 0) 82 (λ f. omega arith) in
        rw r
        (read_right whose_text k bs (leb (said bs) number_most) (Unit (said bs)) (le-leb (said bs) number_most (omega arith)) (ap natural e)
        ∙ ap (λ (z : ℕ). taken (Unit z)) e)

    made : (k : ℕ) (bs : List ℕ) (w : Reported) → whose_read k bs ≡ taken w → (unit_number w ≤ number_most) × (whose_text w ≡ bs)
    made k bs w e = go (eqb (get_or bs 0 0) 82) e
      where
        go : (t : Bool) → cond t (residual_read k bs) (number_read k bs) ≡ taken w →
            (unit_number w ≤ number_most) × (whose_text w ≡ bs)
        go true f =
            let m = read_made whose_text k bs true (Residual (region_said bs)) w f in
            (omega (arith, ap unit_number m.1.1), ap whose_text (sym m.1.1) ∙ m.1.0)
        go false f =
            let m = read_made whose_text k bs (leb (said bs) number_most) (Unit (said bs)) w f in
            let l : said bs ≤ number_most = leb-true (said bs) number_most m.0 in
            (omega (arith, ap unit_number m.1.1), ap whose_text (sym m.1.1) ∙ m.1.0)

    named : (k : ℕ) (bs : List ℕ) (x : Refusal) → whose_read k bs ≡ refused x → x ≡ WrongRow k
    named k bs x e = go (eqb (get_or bs 0 0) 82) e
      where
        go : (t : Bool) → cond t (residual_read k bs) (number_read k bs) ≡ refused x →
            x ≡ WrongRow k
        go true f = read_named whose_text k bs true (Residual (region_said bs)) x f
        go false f = read_named whose_text k bs (leb (said bs) number_most) (Unit (said bs)) x f

-- ---- date and time
-- a moment whose parts fit their digits
pub record Written (m : Moment) : Type 0 where
  pub year : m.date.year < 10 ^ 4
  pub month : m.date.month < 10 ^ 2
  pub day : m.date.day < 10 ^ 2
  pub hour : m.hour < 10 ^ 2
  pub minute : m.minute < 10 ^ 2

-- a number by its digits, then what follows
said_then : (k m n : ℕ) (rest : List ℕ) → n < 10 ^ k → said_from m (padded k n ++ rest) ≡ said_from (m * 10 ^ k + n) rest
said_then k m n rest h = said_joined m (padded k n) rest ∙ ap (λ (z : ℕ). said_from z rest) (padded_said k m n h)

-- the number of the fourteen digits
abbrev pub moment_number : Moment → ℕ
moment_number m =
    m.date.day * 10 ^ 12 + (m.date.month * 10 ^ 10 + (m.date.year * 10 ^ 6 + (m.hour * 10 ^ 4 + m.minute * 10 ^ 2)))

-- a moment's text says it
pub moment_said : (m : Moment) → Written m → said (moment_text m) ≡ moment_number m
unfolding text said_from
moment_said m w =
    said_then 2 0 m.date.day _ w.day
    ∙ said_then 2 _ m.date.month _ w.month
    ∙ said_then 4 _ m.date.year _ w.year
    ∙ said_then 2 _ m.hour _ w.hour
    ∙ said_then 2 _ m.minute (text ":00") w.minute
    ∙ omega arith

-- and it holds the moment
pub moment_back : (m : Moment) → Written m → moment_in (moment_number m) ≡ m
moment_back m w =
    let n = moment_number m in
    let day : n / 10 ^ 12 ≡ m.date.day = omega (arith, w.year, w.month, w.day, w.hour, w.minute) in
    let month : n / 10 ^ 10 % 10 ^ 2 ≡ m.date.month = omega (arith, w.year, w.month, w.day, w.hour, w.minute) in
    let year : n / 10 ^ 6 % 10 ^ 4 ≡ m.date.year = omega (arith, w.year, w.month, w.day, w.hour, w.minute) in
    let hour : n / 10 ^ 4 % 10 ^ 2 ≡ m.hour = omega (arith, w.year, w.month, w.day, w.hour, w.minute) in
    let minute : n / 10 ^ 2 % 10 ^ 2 ≡ m.minute = omega (arith, w.year, w.month, w.day, w.hour, w.minute) in
    rw (day, month, year, hour, minute)

-- what the calendar proves of interval ends: they are found back, and their parts are those of a date and a time of day
pub record MomentInside (m : Moment) : Type 0 where
  pub year : m.date.year ≤ 9_999
  pub month : m.date.month ≤ 12
  pub day : m.date.day ≤ 31
  pub hour : m.hour ≤ 23
  pub minute : m.minute ≤ 55

-- of every interval that ends by 9999
pub record Ends : Type 0 where
  pub back : (n : ℕ) → n ≤ last_interval → interval_to (ends_at n) ≡ n
  pub inside : (n : ℕ) → n ≤ last_interval → MomentInside (ends_at n)

-- such parts fit their digits
pub written : (m : Moment) → MomentInside m → Written m
written m i =
    record {
      year = omega (arith, i.year);
      month = omega (arith, i.month);
      day = omega (arith, i.day);
      hour = omega (arith, i.hour);
      minute = omega (arith, i.minute);
    }

-- the text of an interval's end says the interval
pub interval_says : Ends → (n : ℕ) → n ≤ last_interval → interval_said (interval_text n) ≡ n
interval_says ends n h =
    let w = written (ends_at n) (ends.inside n h) in
    ap (λ (z : ℕ). interval_to (moment_in z)) (moment_said (ends_at n) w) ∙ ap interval_to (moment_back (ends_at n) w) ∙ ends.back n h

-- AN INTERVAL IS READ BACK
pub interval_reads : Ends → Reads interval_text (λ n. n ≤ last_interval) interval_read
interval_reads ends =
    record { back = back; made = made; named = λ k bs x e. read_named interval_text k bs (leb (interval_said bs) last_interval) (interval_said bs) x e }
  where
    back : (k n : ℕ) → n ≤ last_interval → interval_read k (interval_text n) ≡ taken n
    back k n h =
        let bs = interval_text n in
        let e : interval_said bs ≡ n = interval_says ends n h in
        let inside : leb (interval_said bs) last_interval ≡ true = rw e (le-leb n last_interval h) in
        read_right interval_text k bs (leb (interval_said bs) last_interval) (interval_said bs) inside (ap interval_text e) ∙ ap taken e

    made : (k : ℕ) (bs : List ℕ) (n : ℕ) → interval_read k bs ≡ taken n → (n ≤ last_interval) × (interval_text n ≡ bs)
    made k bs n e =
        let m = read_made interval_text k bs (leb (interval_said bs) last_interval) (interval_said bs) n e in
        let l = leb-true (interval_said bs) last_interval m.0 in
        (rw m.1.1 at l, ap interval_text (sym m.1.1) ∙ m.1.0)

-- ---- no column has a comma
-- digits have none, before what has none
then_lacks : (k n : ℕ) (rest : List ℕ) → lacks 44 rest ≡ true → lacks 44 (padded k n ++ rest) ≡ true
then_lacks k n rest p = lacks_joined 44 (padded k n) rest (padded_lacks 44 k n (omega arith)) p

-- date and time have none
pub interval_lacks : (n : ℕ) → lacks 44 (interval_text n) ≡ true
unfolding text lacks
interval_lacks n =
    then_lacks 2 _ _ (then_lacks 2 _ _ (then_lacks 4 _ _ (then_lacks 2 _ _ (then_lacks 2 _ (text ":00") refl))))

-- nor has a unit's number or a residual's name
pub whose_lacks : (w : Reported) → lacks 44 (whose_text w) ≡ true
unfolding text lacks
whose_lacks (Unit n) = natural_lacks 44 n (omega arith)
whose_lacks (Residual Qld1) = refl
whose_lacks (Residual Nsw1) = refl
whose_lacks (Residual Vic1) = refl
whose_lacks (Residual Sa1) = refl
whose_lacks (Residual Tas1) = refl

-- nor have whole part and decimals
decimals_lack : (b : ℕ) → lacks 44 (decimals b) ≡ true
unfolding text lacks
decimals_lack b =
    lacks_joined 44 (natural (b / billion)) (text "." ++ padded 9 (b % billion)) (natural_lacks 44 (b / billion) (omega arith))
    (padded_lacks 44 9 (b % billion) (omega arith))

-- nor has a performance
pub performance_lacks : (b : ℤ) → lacks 44 (performance_text b) ≡ true
unfolding text lacks
performance_lacks (pos b) = decimals_lack b
performance_lacks (negsuc b) = decimals_lack (suc b)

-- nor has a type
pub type_lacks : (f : FigureType) → lacks 44 (type_text f) ≡ true
unfolding text lacks
type_lacks Calculated = refl
type_lacks Default = refl

-- ---- how long a column is
pub record Between (low high : ℕ) (bs : List ℕ) : Type 0 where
  pub least : low ≤ length bs
  pub most : length bs ≤ high

-- date and time have 19 bytes
pub interval_long : (n : ℕ) → length (interval_text n) ≡ 19
unfolding text
interval_long n = simp (length-append, padded_long)

-- a unit's number has 1 to 5, a residual's name 12 or 13
pub whose_long : (w : Reported) → unit_number w ≤ number_most → Between 1 13 (whose_text w)
unfolding text
whose_long (Unit n) h = record { least = natural_some n; most = omega (arith, number_long n h) }
whose_long (Residual Qld1) h = record { least = omega arith; most = omega arith }
whose_long (Residual Nsw1) h = record { least = omega arith; most = omega arith }
whose_long (Residual Vic1) h = record { least = omega arith; most = omega arith }
whose_long (Residual Sa1) h = record { least = omega arith; most = omega arith }
whose_long (Residual Tas1) h = record { least = omega arith; most = omega arith }

-- whole part, point and nine decimals have 11 to 20
decimals_long : (b : ℕ) → b ≤ billionths_most → Between 11 20 (decimals b)
unfolding text
decimals_long b h =
    let whole = b / billion in
    let few : whole < 1_229_782_939 = (div-lt_iff_lt-mul {k = billion} {x = b} {y = 1_229_782_939} (omega arith)).1 (omega arith) in
    let all = length-append (natural whole) (text "." ++ padded 9 (b % billion)) in
    let part = padded_long 9 (b % billion) in
    record { least = omega (arith, natural_some whole); most = omega (arith, whole_long whole (omega arith)) }

-- and with a minus 21 at most
pub performance_long : (b : ℤ) → nat_abs b ≤ billionths_most → Between 11 21 (performance_text b)
unfolding text
performance_long (pos b) h = let l = decimals_long b h in record { least = l.least; most = omega (arith, l.most) }
performance_long (negsuc b) h = let l = decimals_long (suc b) h in record { least = omega (arith, l.least); most = omega (arith, l.most) }

-- `Default` has 7 and `Calculated` 10
pub type_long : (f : FigureType) → Between 7 10 (type_text f)
unfolding text
type_long Calculated = record { least = omega arith; most = omega arith }
type_long Default = record { least = omega arith; most = omega arith }

-- a version has 1 to 5 and its line feed
pub version_long : (n : ℕ) → n ≤ number_most → Between 2 6 (version_text n)
unfolding text
version_long n h =
    let all = length-append (natural n) (text "\n") in
    record { least = omega (arith, natural_some n); most = omega (arith, number_long n h) }
