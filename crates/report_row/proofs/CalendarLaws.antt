-- Laws of the calendar (rules, specs/Calendar.antt): dates and days, moments and intervals are one to one, and each day is followed by the next.
-- All goes by one law of `falls`, which serves years and months: what falls is the sum of the pieces before its own, and how far behind its start it is.
use mathlib.Core.Path.{◌≡◌, refl, sym, ◌∙◌, ap, ap₂, subst}
use mathlib.Core.Bool.{Bool, true, false, not, ◌&&◌, ◌||◌, cond}
use Prim.Native.Nat.{ℕ, zero, suc, ◌+◌, ◌*◌, ◌-◌, ◌/◌, ◌%◌, ◌≤◌, ◌<◌}
use native.Mathlib.Omega.{arith}
use lib.Dec.{eqb, leb, ltb}
use borrow.Author.Tests.{ltb-true, ltb-false, leb-true, eqb-true, eqb-false}
use Rattle.integers.specs.Sums.{sumℕ, every, one, both}
use Rattle.integers.proofs.Sums.{sumℕ_none, sumℕ_step, sumℕ_prefix, every_at}
use Rattle.rules.specs.Calendar.{
  leap,
  month_days,
  first_year,
  year_days,
  Fallen,
  falls,
  Date,
  year_of,
  month_of,
  dated,
  date_after,
  days_to,
  last_interval,
  Moment,
  ends_at,
  interval_to,
}

-- ---- where a number falls
-- the number n, from the start of piece p on, fell to x among the pieces p to p + more
pub record Falls (size : ℕ → ℕ) (more p n : ℕ) (x : Fallen) : Type 0 where
  pub from : p ≤ x.piece
  pub to : x.piece ≤ p + more
  pub told : sumℕ p size + n ≡ sumℕ x.piece size + x.behind
  pub inside : sumℕ p size + n < sumℕ (suc (p + more)) size → x.behind < size x.piece

pub falls_sum : (size : ℕ → ℕ) (more p n : ℕ) → Falls size more p n (falls size more p n)
unfolding falls sumℕ
falls_sum size zero p n =
    let e : suc (p + 0) ≡ suc p = omega arith in
    record { from = omega arith; to = omega arith; told = refl; inside = λ h. omega (arith, ap (λ (m : ℕ). sumℕ m size) e) }
falls_sum size (suc more) p n = go (falls_sum size more (suc p) (n - size p)) (ltb n (size p)) refl
  where
    next : Type 0
    next = Falls size more (suc p) (n - size p) (falls size more (suc p) (n - size p))

    go : next → (t : Bool) → ltb n (size p) ≡ t →
        Falls size (suc more) p n (cond t (record { piece = p; behind = n }) (falls size more (suc p) (n - size p)))
    go f true e = record { from = omega arith; to = omega arith; told = refl; inside = λ _. ltb-true n (size p) e }
    go f false e =
        let l : size p ≤ n = ltb-false n (size p) e in
        let s : suc (p + suc more) ≡ suc (suc p + more) = omega arith in
        record {
          from = omega (arith, f.from);
          to = omega (arith, f.to);
          told = omega (arith, f.told);
          inside = λ h. f.inside (omega (arith, ap (λ (m : ℕ). sumℕ m size) s));
        }

abbrev fallen : ℕ → ℕ → Fallen
fallen piece behind = record { piece = piece; behind = behind }

-- and back: a rest within the room of a piece, behind those before it, falls there
pub falls_back : (size : ℕ → ℕ) (more p n k rest : ℕ) → p ≤ k → k ≤ p + more → rest < size k → sumℕ p size + n ≡ sumℕ k size + rest →
    falls size more p n ≡ record { piece = k; behind = rest }
unfolding falls sumℕ
falls_back size zero p n k rest from to small told =
    let e : p ≡ k = omega arith in
    ap₂ fallen e (omega (arith, ap (λ (m : ℕ). sumℕ m size) e))
falls_back size (suc more) p n k rest from to small told =
    go (λ l h. falls_back size more (suc p) (n - size p) k rest l (omega arith) small (omega arith)) (ltb n (size p)) refl
  where
    here : p ≡ k → fallen p n ≡ fallen k rest
    here e = ap₂ fallen e (omega (arith, ap (λ (m : ℕ). sumℕ m size) e))

    go : (suc p ≤ k → size p ≤ n → falls size more (suc p) (n - size p) ≡ fallen k rest) → (t : Bool) → ltb n (size p) ≡ t →
        cond t (fallen p n) (falls size more (suc p) (n - size p)) ≡ fallen k rest
    go next true e = here (at (ltb p k) refl)
      where
        at : (t : Bool) → ltb p k ≡ t → p ≡ k
        at true l = absurd (omega (arith, ltb-true n (size p) e, sumℕ_prefix (suc p) k size (ltb-true p k l)))
        at false l = omega (arith, ltb-false p k l)
    go next false e = on (ltb p k) refl
      where
        on : (t : Bool) → ltb p k ≡ t → falls size more (suc p) (n - size p) ≡ fallen k rest
        on true l = next (ltb-true p k l) (ltb-false n (size p) e)
        on false l =
            let q : p ≡ k = omega (arith, ltb-false p k l) in
            absurd (omega (arith, ltb-false n (size p) e, ap size q, ap (λ (m : ℕ). sumℕ m size) q))

-- ---- the same from the first piece on: where n falls among the pieces 0 to more
pub record Among (size : ℕ → ℕ) (more n : ℕ) (x : Fallen) : Type 0 where
  pub to : x.piece ≤ more
  pub told : n ≡ sumℕ x.piece size + x.behind
  pub inside : n < sumℕ (suc more) size → x.behind < size x.piece

pub falls_among : (size : ℕ → ℕ) (more n : ℕ) → Among size more n (falls size more 0 n)
falls_among size more n =
    let f = falls_sum size more 0 n in
    let z : sumℕ 0 size ≡ 0 = sumℕ_none size in
    let e : suc (0 + more) ≡ suc more = omega arith in
    record {
      to = omega (arith, f.to);
      told = omega (arith, f.told);
      inside = λ h. f.inside (omega (arith, ap (λ (m : ℕ). sumℕ m size) e));
    }

-- a number from the start of a piece on, and before that of the next, falls there
pub falls_at : (size : ℕ → ℕ) (more n k : ℕ) → k ≤ more → sumℕ k size ≤ n → n < sumℕ (k + 1) size →
    falls size more 0 n ≡ record { piece = k; behind = n - sumℕ k size }
falls_at size more n k to from before =
    falls_back size more 0 n k (n - sumℕ k size) (omega arith) (omega arith) (omega (arith, sumℕ_step k size)) (omega (arith, sumℕ_none size))

-- ---- the days of years and months
year_long : (k : ℕ) → year_days k ≡ 365 + one (leap (first_year + k))
unfolding sumℕ
year_long k = go (leap (first_year + k))
  where
    go : (t : Bool) → sumℕ 12 (month_days t) ≡ 365 + one t
    go true = refl
    go false = refl

-- one year more, by each of the three divisors
by_four : (k : ℕ) (t : Bool) → eqb ((first_year + k) % 4) 0 ≡ t → (suc k + 3) / 4 ≡ (k + 3) / 4 + one t
by_four k true e = omega (arith, eqb-true ((first_year + k) % 4) 0 e)
by_four k false e = omega (arith, eqb-false ((first_year + k) % 4) 0 e)

by_hundred : (k : ℕ) (t : Bool) → eqb ((first_year + k) % 100) 0 ≡ t → (suc k + 99) / 100 ≡ (k + 99) / 100 + one t
by_hundred k true e = omega (arith, eqb-true ((first_year + k) % 100) 0 e)
by_hundred k false e = omega (arith, eqb-false ((first_year + k) % 100) 0 e)

by_four_hundred : (k : ℕ) (t : Bool) → eqb ((first_year + k) % 400) 0 ≡ t → (suc k + 399) / 400 ≡ (k + 399) / 400 + one t
by_four_hundred k true e = omega (arith, eqb-true ((first_year + k) % 400) 0 e)
by_four_hundred k false e = omega (arith, eqb-false ((first_year + k) % 400) 0 e)

-- 4 divides what 100 divides, and 100 what 400 does
leap_counts : (year : ℕ) → one (leap year) + one (eqb (year % 100) 0) ≡ one (eqb (year % 4) 0) + one (eqb (year % 400) 0)
leap_counts year = go (eqb (year % 4) 0) (eqb (year % 100) 0) (eqb (year % 400) 0) refl refl refl
  where
    go : (a b c : Bool) → eqb (year % 4) 0 ≡ a → eqb (year % 100) 0 ≡ b → eqb (year % 400) 0 ≡ c → one (a && (not b || c)) + one b ≡ one a + one c
    go true true c p q r = omega arith
    go true false true p q r = absurd (omega (arith, eqb-false (year % 100) 0 q, eqb-true (year % 400) 0 r))
    go true false false p q r = refl
    go false true c p q r = absurd (omega (arith, eqb-false (year % 4) 0 p, eqb-true (year % 100) 0 q))
    go false false true p q r = absurd (omega (arith, eqb-false (year % 4) 0 p, eqb-true (year % 400) 0 r))
    go false false false p q r = refl

-- the days of so many years from 2000 on
pub years_sum : (k : ℕ) → sumℕ k year_days + (k + 99) / 100 ≡ 365 * k + (k + 3) / 4 + (k + 399) / 400
unfolding sumℕ
years_sum zero = refl
years_sum (suc k) =
    let year = first_year + k in
    rw (by_four k _ refl, by_hundred k _ refl, by_four_hundred k _ refl)
    (add (sumℕ k year_days) (year_days k) k ((k + 3) / 4) ((k + 99) / 100) ((k + 399) / 400) (leap year) (eqb (year % 4) 0) (eqb (year % 100) 0)
    (eqb (year % 400) 0) (years_sum k) (year_long k) (leap_counts year))
  where
    add : (s d k a b c : ℕ) (l x y z : Bool) → s + b ≡ 365 * k + a + c → d ≡ 365 + one l → one l + one y ≡ one x + one z →
        s + d + (b + one y) ≡ 365 * suc k + (a + one x) + (c + one z)
    add s d k a b c l x y z p q r = omega arith

-- the years 2000 to 9999
pub all_years : sumℕ 8_000 year_days ≡ 2_921_940
all_years = omega (arith, years_sum 8_000)

-- no month is empty, or longer than 31 days
pub month_long : (t : Bool) (m : ℕ) → m < 12 → (1 ≤ month_days t m) × (month_days t m ≤ 31)
unfolding every
month_long t m h =
    let e = both (leb 1 (month_days t m)) (leb (month_days t m) 31) (every_at 12 test (all t) m h) in
    (leb-true 1 (month_days t m) e.0, leb-true (month_days t m) 31 e.1)
  where
    test : ℕ → Bool
    test m = leb 1 (month_days t m) && leb (month_days t m) 31

    all : (t : Bool) → every 12 (λ m. leb 1 (month_days t m) && leb (month_days t m) 31) ≡ true
    all true = refl
    all false = refl

-- the days of so many months from January on: as though February had 30, less those that it lacks
pub months_sum : (t : Bool) (m : ℕ) → m ≤ 12 → sumℕ m (month_days t) + cond (ltb m 2) 0 (2 - one t) ≡ (367 * m + 5) / 12
unfolding every sumℕ
months_sum t m h = eqb-true _ _ (every_at 13 (test t) (all t) m (omega arith))
  where
    test : Bool → ℕ → Bool
    test t m = eqb (sumℕ m (month_days t) + cond (ltb m 2) 0 (2 - one t)) ((367 * m + 5) / 12)

    all : (t : Bool) → every 13 (test t) ≡ true
    all true = refl
    all false = refl

-- ---- dates and days
-- a day of the years 2000 to 9999
pub record CalendarDate (x : Date) : Type 0 where
  pub from_2000 : first_year ≤ x.year
  pub to_9999 : x.year ≤ 9_999
  pub from_january : 1 ≤ x.month
  pub to_december : x.month ≤ 12
  pub from_first : 1 ≤ x.day
  pub to_last : x.day ≤ month_days (leap x.year) (x.month - 1)

-- 31/12/9999, by the days from 01/01/2000 on
abbrev pub last_day : ℕ
last_day = 2_921_939

pub year_among : (d : ℕ) → Among year_days 7_999 d (year_of d)
year_among d = falls_among year_days 7_999 d

pub month_among : (y : Fallen) → Among (month_days (leap (first_year + y.piece))) 11 y.behind (month_of y)
month_among y = falls_among (month_days (leap (first_year + y.piece))) 11 y.behind

pub year_inside : (d : ℕ) → d ≤ last_day → (year_of d).behind < year_days (year_of d).piece
year_inside d h = (year_among d).inside (omega (arith, all_years))

less_one : (n : ℕ) → n + 1 - 1 ≡ n
less_one n = omega arith

less_first : (k : ℕ) → first_year + k - first_year ≡ k
less_first k = omega arith

pub date_inside : (d : ℕ) → d ≤ last_day → CalendarDate (date_after d)
unfolding date_after
date_inside d h =
    let y = year_of d in
    let m = month_of y in
    record {
      from_2000 = omega arith;
      to_9999 = omega (arith, (year_among d).to);
      from_january = omega arith;
      to_december = omega (arith, (month_among y).to);
      from_first = omega arith;
      to_last = rw (less_one m.piece) (omega (arith, (month_among y).inside (year_inside d h)));
    }

-- the month's length bounds the day
pub to_31 : (x : Date) → CalendarDate x → x.day ≤ 31
to_31 x c = omega (arith, c.to_last, (month_long (leap x.year) (x.month - 1) (omega arith)).1)

-- however many days they are
pub days_back : (d : ℕ) → days_to (date_after d) ≡ d
unfolding date_after days_to
days_back d =
    let y = year_of d in
    let m = month_of y in
    rw (less_first y.piece, less_one m.piece, less_one m.behind) (omega (arith, (year_among d).told, (month_among y).told))

-- the day r of the month m of the year k, each from 0
abbrev counted : ℕ → ℕ → ℕ → Date
counted k m r = dated k (fallen m r)

abbrev behind_months : ℕ → ℕ → ℕ → ℕ
behind_months k m r = sumℕ m (month_days (leap (first_year + k))) + r

module _ (k m r : ℕ) (in_years : k ≤ 7_999) (in_months : m ≤ 11) (in_days : r < month_days (leap (first_year + k)) m) where
  in_year : behind_months k m r < year_days k
  in_year =
      let f = month_days (leap (first_year + k)) in
      omega (arith, sumℕ_step m f, sumℕ_prefix (m + 1) 12 f (omega arith))

  counted_after : date_after (sumℕ k year_days + behind_months k m r) ≡ counted k m r
  unfolding date_after
  counted_after =
      let f = month_days (leap (first_year + k)) in
      let rest = behind_months k m r in
      rw (
        falls_back year_days 7_999 0 (sumℕ k year_days + rest) k rest (omega arith) in_years in_year (omega (arith, sumℕ_none year_days)),
        falls_back f 11 0 rest m r (omega arith) in_months in_days (omega (arith, sumℕ_none f)),
      )

  counted_inside : sumℕ k year_days + behind_months k m r ≤ last_day
  counted_inside = omega (arith, in_year, sumℕ_step k year_days, sumℕ_prefix (k + 1) 8_000 year_days (omega arith), all_years)

counted_days : (k m r : ℕ) → days_to (counted k m r) ≡ sumℕ k year_days + behind_months k m r
unfolding days_to
counted_days k m r = rw (less_first k, less_one m, less_one r)

-- every date of the calendar is counted so, and what holds of those holds of it
module _ (x : Date) (c : CalendarDate x) where
  abbrev years : ℕ
  years = x.year - first_year

  abbrev months : ℕ
  months = x.month - 1

  abbrev days : ℕ
  days = x.day - 1

  year_is : first_year + years ≡ x.year
  year_is = omega (arith, c.from_2000)

  counted_so : counted years months days ≡ x
  counted_so =
      let m : months + 1 ≡ x.month = omega (arith, c.from_january) in
      let d : days + 1 ≡ x.day = omega (arith, c.from_first) in
      rw (year_is, m, d)

  small : days < month_days (leap (first_year + years)) months
  small = rw year_is (omega (arith, c.to_last, c.from_first))

  pub date_back : date_after (days_to x) ≡ x
  date_back =
      subst (λ (z : Date). date_after (days_to z) ≡ z) counted_so
      (ap date_after (counted_days years months days) ∙ counted_after years months days (omega arith) (omega arith) small)

  pub days_inside : days_to x ≤ last_day
  days_inside =
      subst (λ (z : Date). days_to z ≤ last_day) counted_so
      (rw (counted_days years months days) (counted_inside years months days (omega arith) (omega arith) small))

-- the first and the last
pub first_date : date_after 0 ≡ record { year = 2_000; month = 1; day = 1 }
unfolding date_after falls sumℕ
first_date = refl

pub last_date : date_after last_day ≡ record { year = 9_999; month = 12; day = 31 }
last_date =
    let e : last_day ≡ sumℕ 7_999 year_days + behind_months 7_999 11 30 = omega (arith, years_sum 7_999, months_sum (leap 9_999) 11 (omega arith)) in
    ap date_after e ∙ counted_after 7_999 11 30 (omega arith) (omega arith) (omega arith)

-- ---- the day after: the next of the month, else the first of the next month, else the first of the next year
abbrev pub within_month : Date → Date
within_month x = record { year = x.year; month = x.month; day = x.day + 1 }

abbrev pub next_month : Date → Date
next_month x = record { year = x.year; month = x.month + 1; day = 1 }

abbrev pub next_year : Date → Date
next_year x = record { year = x.year + 1; month = 1; day = 1 }

abbrev pub next_day : Date → Date
next_day x = cond (ltb x.day (month_days (leap x.year) (x.month - 1))) (within_month x) (cond (ltb x.month 12) (next_month x) (next_year x))

-- a date of the calendar, a day behind x
record Next (x z : Date) : Type 0 where
  date : CalendarDate z
  later : days_to z ≡ suc (days_to x)

module _ (x : Date) (c : CalendarDate x) where
  abbrev month : ℕ
  month = x.month - 1

  abbrev long : ℕ → ℕ
  long = month_days (leap x.year)

  day_on : x.day < long month → Next x (within_month x)
  unfolding days_to
  day_on l =
      record {
        date =
            record {
              from_2000 = c.from_2000;
              to_9999 = c.to_9999;
              from_january = c.from_january;
              to_december = c.to_december;
              from_first = omega arith;
              to_last = omega arith;
            };
        later = omega (arith, c.from_first);
      }

  month_on : long month ≤ x.day → x.month < 12 → Next x (next_month x)
  unfolding days_to
  month_on e l =
      let s : x.month + 1 - 1 ≡ month + 1 = omega (arith, c.from_january) in
      record {
        date =
            record {
              from_2000 = c.from_2000;
              to_9999 = c.to_9999;
              from_january = omega arith;
              to_december = omega arith;
              from_first = omega arith;
              to_last = rw s (month_long (leap x.year) (month + 1) (omega (arith, c.from_january))).0;
            };
        later = rw (s, sumℕ_step month long) (omega (arith, c.to_last, c.from_first));
      }

  -- before the first day of the next year are all the days of this one
  year_later : long month ≤ x.day → 12 ≤ x.month → days_to (next_year x) ≡ suc (days_to x)
  unfolding days_to
  year_later e l =
      let k = x.year - first_year in
      let s : x.year + 1 - first_year ≡ k + 1 = omega (arith, c.from_2000) in
      let y : first_year + k ≡ x.year = omega (arith, c.from_2000) in
      let all : sumℕ (month + 1) long ≡ year_days k = rw y (ap (λ (m : ℕ). sumℕ m long) (omega (arith, c.to_december))) in
      rw (s, sumℕ_step k year_days)
      (omega (arith, c.to_last, c.from_first, all, sumℕ_step month long, sumℕ_none (month_days (leap (x.year + 1)))))

  -- and before 31/12/9999 there is a next year
  before_9999 : days_to x < last_day → long month ≤ x.day → 12 ≤ x.month → x.year < 9_999
  unfolding days_to
  before_9999 h e l = go (ltb x.year 9_999) refl
    where
      go : (t : Bool) → ltb x.year 9_999 ≡ t → x.year < 9_999
      go true p = ltb-true x.year 9_999 p
      go false p =
          let s : x.year + 1 - first_year ≡ 8_000 = omega (arith, c.to_9999, ltb-false x.year 9_999 p) in
          absurd (omega (arith, h, year_later e l, ap (λ (k : ℕ). sumℕ k year_days) s, all_years))

  year_on : days_to x < last_day → long month ≤ x.day → 12 ≤ x.month → Next x (next_year x)
  year_on h e l =
      record {
        date =
            record {
              from_2000 = omega (arith, c.from_2000);
              to_9999 = omega (arith, before_9999 h e l);
              from_january = omega arith;
              to_december = omega arith;
              from_first = omega arith;
              to_last = (month_long (leap (x.year + 1)) 0 (omega arith)).0;
            };
        later = year_later e l;
      }

  next_so : days_to x < last_day → Next x (next_day x)
  next_so h = go (ltb x.day (long month)) refl (ltb x.month 12) refl
    where
      go : (s : Bool) → ltb x.day (long month) ≡ s → (t : Bool) → ltb x.month 12 ≡ t →
          Next x (cond s (within_month x) (cond t (next_month x) (next_year x)))
      go true p t q = day_on (ltb-true x.day (long month) p)
      go false p true q = month_on (ltb-false x.day (long month) p) (ltb-true x.month 12 q)
      go false p false q = year_on h (ltb-false x.day (long month) p) (ltb-false x.month 12 q)

pub dates_follow : (d : ℕ) → d < last_day → date_after (suc d) ≡ next_day (date_after d)
dates_follow d h =
    let x = date_after d in
    let n = next_so x (date_inside d (omega arith)) (rw (days_back d) h) in
    ap date_after (sym (n.later ∙ ap suc (days_back d))) ∙ date_back (next_day x) n.date

-- ---- moments and intervals
-- the end of an interval, of the years 2000 to 9999
pub record CalendarMoment (m : Moment) : Type 0 where
  pub date : CalendarDate m.date
  pub to_23 : m.hour ≤ 23
  pub to_55 : m.minute ≤ 55
  pub by_five : m.minute % 5 ≡ 0

pub moment_inside : (n : ℕ) → n ≤ last_interval → CalendarMoment (ends_at n)
moment_inside n h = record { date = date_inside (n / 288) (omega arith); to_23 = omega arith; to_55 = omega arith; by_five = omega arith }

-- however many intervals they are
pub interval_back : (n : ℕ) → interval_to (ends_at n) ≡ n
interval_back n = rw (days_back (n / 288)) (omega arith)

module _ (m : Moment) (c : CalendarMoment m) where
  pub moment_back : ends_at (interval_to m) ≡ m
  moment_back =
      let d = days_to m.date in
      let n = interval_to m in
      let days : n / 288 ≡ d = omega (arith, c.to_23, c.to_55) in
      let hours : n % 288 / 12 ≡ m.hour = omega (arith, c.to_23, c.to_55) in
      let minutes : 5 * (n % 12) ≡ m.minute = omega (arith, c.to_55, c.by_five) in
      rw (days, hours, minutes, date_back m.date c.date)

  pub interval_inside : interval_to m ≤ last_interval
  interval_inside = omega (arith, days_inside m.date c.date, c.to_23, c.to_55)
