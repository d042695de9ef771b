-- Laws of the definitions in specs/Report.antt: where a row stands. The members are the rows that are not passed over, so a row is the n-th member where n rows
-- before it are members, and it is one itself.
use Rattle.std.specs.Prelude.{Result}
use Rattle.rules.specs.declared.Refusal.{Refusal}
use mathlib.Core.Path.{◌≡◌, refl, sym, ◌∙◌, ap}
use mathlib.Core.Bool.{Bool, true, false, cond, ◌&&◌}
use mathlib.Core.List.{List, [], ◌∷◌, ◌++◌}
use Prim.Native.Nat.{ℕ, zero, suc, ◌+◌, ◌-◌, ◌*◌, ◌≤◌, ◌<◌}
use native.Mathlib.Nat.{zero-add}
use native.Mathlib.Numerals.{add-one}
use native.Mathlib.Decide.{dec_lt}
use native.Mathlib.Omega.{arith}
use lib.Dec.{leb, ltb}
use lib.IntN.{ℤ}
use lib.ListN.{length, get_or, length-append, get_or-append}
use lib.Seq.{get_or-append_seam}
use borrow.Author.Tests.{leb-true, lt-ltb, le-ltb, eqb-false, not-true}
use Rattle.integers.specs.Sums.{one, both}
use Rattle.integers.specs.Totals.{those}
use Rattle.integers.proofs.Totals.{those_++, those_length}
use Rattle.rules.specs.declared.Refusal.TheVariants.{WrongState}
use Rattle.rules.specs.declared.FigureType.{FigureType}
use Rattle.rules.specs.declared.Figure.{Figure}
use Rattle.rules.specs.declared.Reported.{Reported}
use Rattle.rules.specs.declared.ReportRow.{ReportRow}
use Rattle.rules.specs.declared.RegionName.{RegionName}
use Rattle.rules.specs.declared.RegionName.TheVariants.{Qld1}
use Rattle.rules.specs.Quantities.{regions}
use Rattle.rules.specs.Bytes.{listed}
use Rattle.rules.specs.Refusals.{Reply, taken, refused, unless, ◌>>=◌}
use Rattle.rules.specs.Report.{region_name}
use Rattle.interval.specs.declared.Tally.{Tally}
use Rattle.interval.specs.Tally.{in_range, answer_turn}
use Rattle.interval.specs.Lent.{Lent, figures_length, passed_over, row_each, of_interval}
use Rattle.kept.specs.Range.{rows_fine}
use Rattle.kept.specs.KeptReport.{Place, member, residual, stands, member_rows, place_of, place_row, report_long, fine_row, report_reply}
use Rattle.chain.proofs.ChainLaws.{listed_more, listed_length}
use Rattle.answer.specs.Asked.{no_lists, tally_of, lent_members}
use Rattle.answer.specs.declared.report.Place.TheVariants.{Member, Residual, Past}
use Rattle.answer.specs.Report.{lent_report, placed, region_at, members_to, MembersBetween, MemberThere, ReportPromise}

pub report_only :
    {t : Tally} {row version : ℕ} {l : Lent} {r r' : Result ReportRow Refusal} → ReportPromise t row version l r → ReportPromise t row version l r' → r ≡ r'
report_only a b = a.reply ∙ sym b.reply

pub region_name_only : (region : ℕ) {r r' : RegionName} → r ≡ region_name region → r' ≡ region_name region → r ≡ r'
region_name_only region a b = a ∙ sym b

-- ---- those of the first n indexes that pass a test
module _ (p : ℕ → Bool) where
  abbrev pub up_to : ℕ → List ℕ
  up_to n = those p (listed 0 n (λ i. i))

  up_to_suc : (n : ℕ) → up_to (suc n) ≡ up_to n ++ cond (p n) (n ∷ []) []
  unfolding those
  up_to_suc n =
      ap (λ (is : List ℕ). those p is) (listed_more 0 n (λ i. i) ∙ ap (λ (m : ℕ). listed 0 n (λ i. i) ++ (m ∷ [])) (zero-add n))
      ∙ those_++ p (listed 0 n (λ i. i)) (n ∷ [])

  pub up_to_none : length (up_to 0) ≡ 0
  unfolding those listed
  up_to_none = refl

  pub up_to_more : (n : ℕ) → length (up_to (n + 1)) ≡ length (up_to n) + one (p n)
  up_to_more n =
      ap (λ (m : ℕ). length (up_to m)) (add-one n) ∙ ap length (up_to_suc n) ∙ length-append (up_to n) _ ∙ ap (λ (k : ℕ). length (up_to n) + k) (last (p n))
    where
      last : (s : Bool) → length (cond s (n ∷ []) []) ≡ one s
      last true = refl
      last false = refl

  pub up_to_few : (n : ℕ) → length (up_to n) ≤ n
  up_to_few n = omega (arith, those_length p (listed 0 n (λ i. i)), listed_length 0 n (λ i. i))

  -- one that passes stands behind those before it
  pub found_at : (n i : ℕ) → i < n → p i ≡ true → (length (up_to i) < length (up_to n)) × (get_or (up_to n) (length (up_to i)) 0 ≡ i)
  found_at zero i h e = absurd (omega arith)
  found_at (suc n) i h e = go (dec_lt i n) (λ k. found_at n i k e)
    where
      more : length (up_to (suc n)) ≡ length (up_to n) + length (cond (p n) (n ∷ []) [])
      more = ap length (up_to_suc n) ∙ length-append (up_to n) _

      behind : (m : ℕ) → m ≡ n → p m ≡ true → get_or (up_to (suc n)) (length (up_to m)) 0 ≡ m
      behind m same e =
          ap (λ (k : ℕ). get_or (up_to (suc n)) (length (up_to k)) 0) same
          ∙ ap (λ (is : List ℕ). get_or is (length (up_to n)) 0) (up_to_suc n ∙ ap (λ (s : Bool). up_to n ++ cond s (n ∷ []) []) (ap p (sym same) ∙ e))
          ∙ get_or-append_seam (up_to n) n [] 0 ∙ sym same

      passed : (m : ℕ) → m ≡ n → p m ≡ true → length (cond (p n) (n ∷ []) []) ≡ 1
      passed m same e = ap (λ (s : Bool). length (cond s (n ∷ []) [])) (ap p (sym same) ∙ e)

      go :
          Dec (i < n) → (i < n → (length (up_to i) < length (up_to n)) × (get_or (up_to n) (length (up_to i)) 0 ≡ i)) →
          (length (up_to i) < length (up_to (suc n))) × (get_or (up_to (suc n)) (length (up_to i)) 0 ≡ i)
      go (yes k) before =
          let f = before k in (
            omega (arith, f.0, more),
            ap (λ (is : List ℕ). get_or is (length (up_to i)) 0) (up_to_suc n) ∙ get_or-append (up_to n) _ 0 (length (up_to i)) f.0 ∙ f.1,
          )
      go (no k) before =
          let same : i ≡ n = omega arith in
          (omega (arith, more, passed i same e, ap (λ (m : ℕ). length (up_to m)) same), behind i same e)

-- a count that passes a number with one test more meets it there
pub counted_there : (members row : ℕ) (s : Bool) → members ≤ row → row < members + one s → (s ≡ true) × (row ≡ members)
counted_there members row true a b = (refl, omega arith)
counted_there members row false a b = absurd (omega arith)

-- ---- where a row stands
module _ (t : Tally) (l : Lent) (row : ℕ) where
  abbrev members : ℕ
  members = length (up_to (stands l) t.units)

  pub member_at : (i : ℕ) → i < t.units → stands l i ≡ true → row ≡ length (up_to (stands l) i) → place_of t l row ≡ taken (member i)
  unfolding place_of member_rows
  member_at i h e same =
      let f = found_at (stands l) t.units i h e in
      rw (same, lt-ltb _ _ f.0) (ap (λ (k : ℕ). taken (member k)) f.1)

  pub past_members : (many : ℕ) → many ≡ members → many ≤ row → place_of t l row ≡ region_at (row - many)
  unfolding place_of member_rows
  past_members many e h = rw e (rw (le-ltb row members (omega arith)))

  -- by tally's units and homes alone
  pub place_alone : place_of (tally_of t.units 0 0) (lent_members [] l.homes []) row ≡ place_of t l row
  unfolding place_of member_rows
  place_alone = refl

-- ---- as the code has it
-- ---- members counted from one row to another
pub one_most : (b : Bool) → one b ≤ 1
one_most true = omega arith
one_most false = omega arith

pub between_none : (homes : List ℕ) (from to : ℕ) → to ≡ from → MembersBetween homes from to 0
between_none homes from to e = record { is = rw e (omega arith) }

pub between_more :
    {homes : List ℕ} {from to many : ℕ} (next k : ℕ) → MembersBetween homes from to many → k ≡ one (stands (lent_members [] homes []) to) → next ≡ to + 1 →
    MembersBetween homes from next (many + k)
between_more {homes} {from} {to} {many} next k m e f =
    let more = up_to_more (stands (lent_members [] homes [])) to in
    record { is = rw f (omega (arith, m.is, more, e)) }

pub between_joined : {homes : List ℕ} {at to many more : ℕ} → MembersBetween homes 0 at many → MembersBetween homes at to more →
    MembersBetween homes 0 to (many + more)
between_joined m n = record { is = omega (arith, m.is, n.is) }

pub between_all : {homes : List ℕ} {to many : ℕ} → MembersBetween homes 0 to many → many ≡ members_to homes to
between_all {homes} {to} m = omega (arith, m.is, up_to_none (stands (lent_members [] homes [])))

pub between_few : {homes : List ℕ} {to many : ℕ} → MembersBetween homes 0 to many → many ≤ to
between_few {homes} {to} m = omega (arith, m.is, up_to_few (stands (lent_members [] homes [])) to)

pub placed_member : (p : Reply Place) (i : ℕ) → placed p ≡ Member i → p ≡ taken (member i)
placed_member (taken (member k)) i e = cc
placed_member (taken (residual r)) i e = cc
placed_member (refused r) i e = cc

pub placed_residual : (p : Reply Place) (r : ℕ) → placed p ≡ Residual r → p ≡ taken (residual r)
placed_residual (taken (member k)) r e = cc
placed_residual (taken (residual s)) r e = cc
placed_residual (refused w) r e = cc

-- 11 is all that a place is refused with
pub placed_past : (t : Tally) (l : Lent) (row : ℕ) → placed (place_of t l row) ≡ Past → place_of t l row ≡ refused WrongState
unfolding place_of
placed_past t l row e =
    go (ltb row (length (member_rows t l))) (ltb (row - length (member_rows t l)) regions) (get_or (member_rows t l) row 0) (row - length (member_rows t l)) e
  where
    go :
        (s u : Bool) (i r : ℕ) → placed (cond s (taken (member i)) (unless u WrongState (taken (residual r)))) ≡ Past →
        ◌≡◌ {A = Reply Place} (cond s (taken (member i)) (unless u WrongState (taken (residual r)))) (refused WrongState)
    go true u i r e = cc
    go false true i r e = cc
    go false false i r e = refl

-- the reply past the first three tests, by the place
pub past_tests :
    (t : Tally) (row version : ℕ) (l : Lent) {p : Reply Place} → (in_range t && answer_turn t) ≡ true → report_long t.units l ≡ true →
    of_interval t.interval l.figures ≡ true → place_of t l row ≡ p → report_reply t row version l ≡ (p >>= fine_row t l version)
unfolding report_reply
past_tests t row version l turn long own e = rw (turn, long, own) (ap (λ (q : Reply Place). q >>= fine_row t l version) e)

-- ---- what a row reads
-- the home of a member names a region
pub homed : {i : ℕ} {l : Lent} → MemberThere i l → get_or l.homes i 0 ≤ passed_over → get_or l.homes i 0 < 10
homed {i} {l} h b = omega (arith, eqb-false (get_or l.homes i 0) passed_over (not-true _ h.member))

-- rows are read by tally's units, homes and rows alone
pub rows_alone : (t : Tally) (l : Lent) → rows_fine (tally_of t.units 0 0) (lent_members [] l.homes l.rows) ≡ rows_fine t l
unfolding rows_fine
rows_alone t l = refl

-- and a row's reply by what it reads
pub member_alone :
    (t : Tally) (l : Lent) (version i : ℕ) →
    fine_row (tally_of 0 0 t.interval) (lent_report no_lists l.figures l.numbers l.homes l.rows) version (member i) ≡
    fine_row t l version (member i)
unfolding place_row
member_alone t l version i = refl

pub residual_alone :
    (t : Tally) (l : Lent) (version r : ℕ) →
    fine_row (tally_of t.units 0 t.interval) (lent_members l.figures l.homes l.rows) version (residual r) ≡
    fine_row t l version (residual r)
unfolding place_row rows_fine
residual_alone t l version r = refl

pub report_long_means :
    (n : ℕ) (l : Lent) → report_long n l ≡ true →
    (figures_length ≤ length l.figures) × (n ≤ length l.numbers) × (n ≤ length l.homes) × (row_each * n ≤ length l.rows)
report_long_means n l e =
    let a = both (leb figures_length (length l.figures)) _ e in
    let b = both (leb n (length l.numbers)) _ a.1 in
    let c = both (leb n (length l.homes)) _ b.1 in
    (leb-true _ _ a.0, leb-true _ _ b.0, leb-true _ _ c.0, leb-true _ _ c.1)

-- ---- what it says
pub figure_same :
    {x y : ℤ} {s s' : FigureType} → x ≡ y → s ≡ s' → ◌≡◌ {A = Figure} (record { performance = x; typed = s }) (record { performance = y; typed = s' })
figure_same hx hs = cc

pub row_same :
    {interval version : ℕ} {w w' : Reported} {x x' y y' : Figure} → w ≡ w' → x ≡ x' → y ≡ y' →
    ◌≡◌ {A = ReportRow} (record { interval = interval; whose = w; raise = x; lower = y; version = version })
    (record { interval = interval; whose = w'; raise = x'; lower = y'; version = version })
row_same hw hx hy = cc

-- no other region but the first has its name
pub first_name : (r : ℕ) → (r ≡ 1 → ⊥) → (r ≡ 2 → ⊥) → (r ≡ 3 → ⊥) → (r ≡ 4 → ⊥) → Qld1 ≡ region_name r
first_name zero a b c d = refl
first_name (suc zero) a b c d = absurd (a refl)
first_name (suc (suc zero)) a b c d = absurd (b refl)
first_name (suc (suc (suc zero))) a b c d = absurd (c refl)
first_name (suc (suc (suc (suc zero)))) a b c d = absurd (d refl)
first_name (suc (suc (suc (suc (suc r))))) a b c d = refl
