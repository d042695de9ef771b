-- Laws of the definitions in specs/Worked.antt.
use Rattle.std.specs.Prelude.{Result, Ok}
use Rattle.answer.specs.declared.shares.Paid.{Paid}
use Rattle.rules.specs.declared.Refusal.{Refusal}
use mathlib.Core.Path.{◌≡◌, refl, sym, ◌∙◌, ap, ap₂}
use mathlib.Core.Bool.{Bool, true, false, cond, ◌&&◌}
use mathlib.Core.List.{List, [], ◌∷◌, ◌++◌, map, map-map}
use Prim.Native.Nat.{ℕ, suc, ◌*◌, ◌-◌, ◌≤◌, ◌<◌}
use native.Mathlib.Omega.{arith}
use lib.Dec.{ltb}
use lib.IntN.{ℤ, pos, neg_ℤ, nat_abs, ◌-ℤ◌}
use lib.ListN.{length, get_or, length-map}
use lib.Signed.{lt_z}
use borrow.Author.Tests.{leb-true, ltb-true}
use Rattle.integers.specs.Pairs.{gain, loss}
use Rattle.integers.proofs.Bounds.{gain_≤, loss_≤}
use Rattle.integers.specs.Sums.{when, both}
use Rattle.integers.proofs.Sums.{every_at, sum_size, largest_≤}
use Rattle.integers.specs.Fills.{filled}
use Rattle.integers.proofs.Fills.{filled_none, filled_ext}
use Rattle.integers.specs.Totals.{numbered}
use Rattle.integers.proofs.Totals.{numbered_length}
use Rattle.rules.specs.declared.Direction.{Direction}
use Rattle.rules.specs.declared.Direction.TheVariants.{Raise, Lower}
use Rattle.rules.specs.declared.Standing.{Standing}
use Rattle.rules.specs.Quantities.{points, regions, most_units, deviation_limit, billion}
use Rattle.rules.specs.Book.{Requirement, covers, toward}
use Rattle.rules.specs.Members.{Member}
use Rattle.rules.specs.Share.{share_of, unplaced_of}
use Rattle.rules.specs.Factors.{both_signs, factor}
use Rattle.rules.specs.Cents.{any_weight, pool_of, used_pool_of, used_weights, unused_weights, charge}
use Rattle.rules.specs.Answer.{Line, lines_of, answered}
use Rattle.interval.specs.declared.Tally.{Tally}
use Rattle.interval.specs.Lent.{Lent, sum_place}
use Rattle.kept.specs.Kept.{
  kept_members,
  kept_rcr,
  kept_reliable,
  kept_few_bad,
  kept_weighed,
  kept_sum,
  kept_response,
  kept_answer,
  residual_row,
  row_member,
  rows_of,
}
use Rattle.kept.specs.Range.{series_fine, measures_fine, sums_fine}
use Rattle.book.specs.declared.RequirementFields.{RequirementFields}
use Rattle.share.specs.Signs.{signs_at}
use Rattle.answer.specs.Asked.{lent, lent_members, tally_of, asked}
use Rattle.answer.specs.Lists.{headed}
use Rattle.answer.specs.declared.Answer.{Answer}
use Rattle.answer.specs.declared.Field.{Field}
use Rattle.answer.specs.declared.Field.TheVariants.{Payment, Used, Unused}
use Rattle.answer.specs.declared.Member.{Member as Sharer}
use Rattle.answer.specs.declared.charges.Charges.{Charges}
use Rattle.answer.specs.declared.rcr.Found.{Found}
use Rattle.answer.specs.Rcr.{RcrTested, found_is}
use Rattle.answer.proofs.RcrLaws.{rcr_tested}
use Rattle.answer.specs.Made.{field_of}
use Rattle.answer.specs.Residual.{residual_to}
use Rattle.answer.specs.Values.{InRange, MembersThere, numbers}
use Rattle.answer.proofs.ValuesLaws.{all_in_range, kept_values}
use Rattle.answer.specs.Pools.{pool_cents, used_cents}
use Rattle.answer.specs.Shares.{MembersPaid, pool_over}
use Rattle.answer.specs.Charges.{CostTested, CostCharged}
use Rattle.answer.specs.Promises.{Columns, columns, last_standing}
use Rattle.answer.specs.Worked.{Passed, WorkedOut, gathered_answer, required}

-- ---- RCR is at most 7,680,000,000
when_≤ : (t : Bool) (x : ℤ) → nat_abs (when t x) ≤ nat_abs x
when_≤ true x = omega arith
when_≤ false x = omega arith

cond_≤ : (t : Bool) (x k : ℕ) → x ≤ k → cond t x 0 ≤ k
cond_≤ true x k h = h
cond_≤ false x k h = omega arith

rcr_within : (t : Tally) (l : Lent) (q : Requirement) → t.units ≤ most_units → series_fine t l ≡ true → kept_rcr t l q ≤ 7_680_000_000
unfolding kept_rcr series_fine
rcr_within t l q few e =
    cond_≤ (kept_reliable l q && kept_few_bad t l q) _ 7_680_000_000
    (largest_≤ points 7_680_000_000 _ (λ p b. cond_≤ (lt_z (pos 0) (toward q.direction (kept_weighed l q p))) (kept_response l q p) 7_680_000_000 (at p b)))
  where
    most : ℕ
    most = deviation_limit * t.units

    over : (d : Direction) (p : ℕ) → sums_fine most l d p ≡ true → nat_abs (kept_sum l d q p) ≤ 7_680_000_000
    over d p f =
        omega (
          arith,
          sum_size regions (λ r. when (covers q r) (get_or l.sums (sum_place d r p) (pos 0))) (λ r. nat_abs (get_or l.sums (sum_place d r p) (pos 0)))
              (λ r _. when_≤ (covers q r) (get_or l.sums (sum_place d r p) (pos 0))),
          leb-true _ most f,
        )

    at : (p : ℕ) → p < points → kept_response l q p ≤ 7_680_000_000
    at p b =
        let here = every_at points (λ p. measures_fine l p && (sums_fine most l Raise p && sums_fine most l Lower p)) e p b in
        let sums = both (sums_fine most l Raise p) (sums_fine most l Lower p) (both (measures_fine l p) _ here).1 in
        omega (arith, over Raise p sums.0, over Lower p sums.1, gain_≤ (kept_sum l Raise q p), loss_≤ (kept_sum l Lower q p))

-- ---- lines and columns
-- what stands in a column where a number of each line depends on its place alone
lines_column :
    (g : ℕ → ℤ) (field : Line → ℤ) (h : ℕ → Member → Line) → ((i : ℕ) (m : Member) → field (h i m) ≡ g i) → (ms : List Member) (old : List ℤ) →
    headed (map field (numbered h ms)) old ≡ filled (length ms) g old
unfolding headed numbered filled
lines_column g field h e [] old = sym (filled_none g old)
lines_column g field h e (m ∷ ms) [] = refl
lines_column g field h e (m ∷ ms) (y ∷ ys) =
    ap₂ (λ (z : ℤ) (l : List ℤ). z ∷ l) (e 0 m) (lines_column (λ i. g (suc i)) field (λ i. h (suc i)) (λ i x. e (suc i) x) ms ys)

-- and where it is the member's
lines_members :
    (f : Member → ℤ) (field : Line → ℤ) (h : ℕ → Member → Line) → ((i : ℕ) (m : Member) → field (h i m) ≡ f m) → (ms : List Member) →
    map field (numbered h ms) ≡ map f ms
unfolding numbered
lines_members f field h e [] = refl
lines_members f field h e (m ∷ ms) = ap₂ (λ (z : ℤ) (l : List ℤ). z ∷ l) (e 0 m) (lines_members f field (λ i. h (suc i)) (λ i x. e (suc i) x) ms)

-- the last line is the last member's
last_line :
    (h : ℕ → Member → Line) → ((i : ℕ) (m : Member) → (h i m).standing ≡ m.standing) → (ms : List Member) (m : Member) →
    last_standing (numbered h (ms ++ (m ∷ []))) ≡ m.standing
unfolding numbered
last_line h e [] m = e 0 m
last_line h e (x ∷ []) m = e 1 m
last_line h e (x ∷ y ∷ ms) m = last_line (λ i. h (suc i)) (λ i z. e (suc i) z) (y ∷ ms) m

-- a list that heads a column again
headed_again : (xs ys old : List ℤ) → length xs ≡ length ys → headed xs (headed ys old) ≡ headed xs old
unfolding headed
headed_again [] [] old e = refl
headed_again [] (y ∷ ys) old e = absurd (omega arith)
headed_again (x ∷ xs) [] old e = refl
headed_again (x ∷ xs) (y ∷ ys) [] e = refl
headed_again (x ∷ xs) (y ∷ ys) (z ∷ zs) e = ap (λ (l : List ℤ). x ∷ l) (headed_again xs ys zs (omega arith))

-- ---- what the tests give to each part
module _ {t : Tally} {f : RequirementFields} {l : Lent} {c : Columns} (h : Passed t f l c) where
  pub found_tested : RcrTested t.units t.percent (lent l.measures l.sums l.figures l.homes [])
  found_tested = rcr_tested t l h.long h.fine h.percent

  pub numbers_tested : InRange t.units (lent_members l.figures l.homes l.rows)
  numbers_tested = all_in_range t l h.long h.fine

  pub rcr_small :
      (d : Direction) (s : ℕ) →
      kept_rcr (tally_of t.units t.percent 0) (lent l.measures l.sums l.figures l.homes []) (asked d s) ≤ 7_680_000_000
  unfolding kept_rcr
  rcr_small d s = rcr_within t l (asked d s) h.long.few (both (series_fine t l) _ h.fine).0

  -- each column takes one number more than there are units
  pub record ColumnsLong : Type 0 where
    pub performances : t.units < length c.performances
    pub factors : t.units < length c.factors
    pub payments : t.units < length c.payments
    pub used : t.units < length c.used
    pub unused : t.units < length c.unused

  pub long_columns : ColumnsLong
  long_columns =
      let x = both (ltb t.units (length c.performances)) _ h.columns in
      let y = both (ltb t.units (length c.factors)) _ x.1 in
      let z = both (ltb t.units (length c.payments)) _ y.1 in
      let w = both (ltb t.units (length c.used)) _ z.1 in
      record {
        performances = ltb-true _ _ x.0;
        factors = ltb-true _ _ y.0;
        payments = ltb-true _ _ z.0;
        used = ltb-true _ _ w.0;
        unused = ltb-true _ _ w.1;
      }

  module _ {m : Sharer} (last : m ≡ residual_to t.units (lent_members l.figures l.homes l.rows) f.direction f.set regions) where
    pub members_there : (n : ℕ) → t.units < n → MembersThere t.units f.direction f.set (lent_members l.figures l.homes l.rows) m n
    members_there n b = record { tested = numbers_tested; last = last; five = h.set; column = b }

    pub cost_tested :
        CostTested f t.units (lent_members l.figures l.homes l.rows) m (length c.performances) (length c.used) (length c.unused)
    cost_tested =
        record {
          cost = h.cost;
          enabled = h.enabled;
          used = long_columns.used;
          unused = long_columns.unused;
          members = members_there _ long_columns.performances;
        }

-- ---- the parts together
-- the sides and the weights of a requirement's members, by their numbers
module _ (t : Tally) (l : Lent) (q : Requirement) where
  abbrev sharers : List Member
  sharers = kept_members t l q

  -- as the calls list them
  abbrev listed : Field → List ℤ
  listed f = numbers f t.units q.direction q.set l

  listed_is : (f : Field) → listed f ≡ map (field_of f) sharers
  listed_is f = sym (kept_values f t l q)

  listed_many : (f : Field) → length (listed f) ≡ length sharers
  listed_many f = ap length (listed_is f) ∙ length-map sharers (field_of f)

  sides : (f : Field) (g : ℤ → ℕ) → map g (listed f) ≡ map (λ m. g (field_of f m)) sharers
  sides f g = ap (map g) (listed_is f) ∙ map-map g (field_of f) sharers

  sides_many : (f : Field) (g : ℤ → ℕ) → length (map g (listed f)) ≡ length sharers
  sides_many f g = length-map (listed f) g ∙ listed_many f

  signs_are : (T i : ℕ) → signs_at T (listed Payment) i ≡ both_signs T sharers i
  signs_are T i = ap₂ (λ (a b : List ℕ). pos (share_of T a i) -ℤ pos (share_of T b i)) (sides Payment gain) (sides Payment loss)

  abbrev lines : ℕ → ℕ → ℕ → List Line
  lines a b c = lines_of a b c sharers

  performances_are : (a b c : ℕ) → listed Payment ≡ map (λ x. x.performance) (lines a b c)
  unfolding lines_of
  performances_are a b c = listed_is Payment ∙ sym (lines_members (λ m. m.payment) (λ x. x.performance) _ (λ i m. refl) sharers)

  factors_are :
      (a b c : ℕ) (old : List ℤ) → filled (length (listed Payment)) (signs_at billion (listed Payment)) old ≡ headed (map (λ x. x.factor) (lines a b c)) old
  unfolding lines_of
  factors_are a b c old =
      ap (λ (m : ℕ). filled m (signs_at billion (listed Payment)) old) (listed_many Payment)
      ∙ filled_ext (length sharers) _ (factor sharers) old (λ i _. signs_are billion i)
      ∙ sym (lines_column (factor sharers) (λ x. x.factor) _ (λ i m. refl) sharers old)

  payments_are :
      (a b c : ℕ) (old : List ℤ) → filled (length (listed Payment)) (signs_at a (listed Payment)) old ≡ headed (map (λ x. x.payment) (lines a b c)) old
  unfolding lines_of
  payments_are a b c old =
      ap (λ (m : ℕ). filled m (signs_at a (listed Payment)) old) (listed_many Payment)
      ∙ filled_ext (length sharers) _ (both_signs a sharers) old (λ i _. signs_are a i)
      ∙ sym (lines_column (both_signs a sharers) (λ x. x.payment) _ (λ i m. refl) sharers old)

  used_are :
      (a b c : ℕ) (old : List ℤ) → filled (length (map loss (listed Used))) (λ i. neg_ℤ (pos (share_of b (map loss (listed Used)) i))) old ≡ headed
      (map (λ x. x.used) (lines a b c)) old
  unfolding lines_of
  used_are a b c old =
      ap₂ (λ (m : ℕ) (ws : List ℕ). filled m (λ i. neg_ℤ (pos (share_of b ws i))) old) (sides_many Used loss) (sides Used loss)
      ∙ sym (lines_column (charge b (used_weights sharers)) (λ x. x.used) _ (λ i m. refl) sharers old)

  unused_are :
      (a b c : ℕ) (old : List ℤ) → filled (length (map loss (listed Unused))) (λ i. neg_ℤ (pos (share_of c (map loss (listed Unused)) i))) old ≡ headed
      (map (λ x. x.unused) (lines a b c)) old
  unfolding lines_of
  unused_are a b c old =
      ap₂ (λ (m : ℕ) (ws : List ℕ). filled m (λ i. neg_ℤ (pos (share_of c ws i))) old) (sides_many Unused loss) (sides Unused loss)
      ∙ sym (lines_column (charge c (unused_weights sharers)) (λ x. x.unused) _ (λ i m. refl) sharers old)

  many_lines : (a b c : ℕ) → length (listed Payment) ≡ length (lines a b c)
  unfolding lines_of
  many_lines a b c = listed_many Payment ∙ sym (numbered_length _ sharers)

  last_is : (a b c : ℕ) → last_standing (lines a b c) ≡ (residual_row t l q).standing
  unfolding lines_of kept_members
  last_is a b c = last_line _ (λ i m. refl) (map (row_member l q.direction) (rows_of t l q)) (residual_row t l q)

-- equal figures make equal answers
answer_same :
    {number : ℕ} {d : Direction} {set m m' : ℕ} {s s' : Standing} {x x' y y' a a' b b' c c' e e' : ℕ} → m ≡ m' → s ≡ s' → x ≡ x' → y ≡ y' → a ≡ a' → b ≡ b' →
    c ≡ c' → e ≡ e' → ◌≡◌ {A = Answer}
    (record {
      number = number;
      direction = d;
      set = set;
      members = m;
      residual = s;
      rcr = x;
      pool = y;
      used = record { pool = a; unplaced = b };
      unused = record { pool = c; unplaced = e };
    })
    (record {
      number = number;
      direction = d;
      set = set;
      members = m';
      residual = s';
      rcr = x';
      pool = y';
      used = record { pool = a'; unplaced = b' };
      unused = record { pool = c'; unplaced = e' };
    })
answer_same hm hs hx hy ha hb hc he = cc

columns_same :
    {a a' b b' c c' d d' e e' : List ℤ} → a ≡ a' → b ≡ b' → c ≡ c' → d ≡ d' → e ≡ e' → columns a b c d e ≡ columns a' b' c' d' e'
columns_same ha hb hc hd he = cc

-- what the calls answer is the answer of what is kept
module _ (t : Tally) (f : RequirementFields) (l : Lent) where
  abbrev q : Requirement
  q = required f

  abbrev members_lent : Lent
  members_lent = lent_members l.figures l.homes l.rows

  abbrev the_pool : ℕ
  the_pool = pool_of q (kept_rcr t l q) (kept_members t l q)

  abbrev the_used : ℕ
  the_used = used_pool_of q (kept_reliable l q)

  abbrev the_unused : ℕ
  the_unused = f.cost - the_used

  pool_same : {x y : ℕ} → x ≡ y → pool_over f.price x (listed t l q Payment) ≡ pool_of q y (kept_members t l q)
  pool_same {x} {y} e =
      ap (λ (z : ℕ). pool_over f.price z (listed t l q Payment)) e
      ∙ ap₂ (λ (a b : List ℕ). pool_cents f.price y (any_weight a) (any_weight b)) (sides t l q Payment gain) (sides t l q Payment loss)

  -- the column ends with the performances of payment
  settles :
      (old : List ℤ) {mid₁ mid₂ new : List ℤ} → mid₁ ≡ headed (listed t l q Unused) old → mid₂ ≡ headed (listed t l q Used) mid₁ →
      new ≡ headed (listed t l q Payment) mid₂ → new ≡ headed (listed t l q Payment) old
  settles old {mid₁} {mid₂} {new} a b c =
      c
      ∙ ap (λ (xs : List ℤ). headed (listed t l q Payment) xs) b
      ∙ headed_again (listed t l q Payment) (listed t l q Used) mid₁ (listed_many t l q Payment ∙ sym (listed_many t l q Used))
      ∙ ap (λ (xs : List ℤ). headed (listed t l q Payment) xs) a
      ∙ headed_again (listed t l q Payment) (listed t l q Unused) old (listed_many t l q Payment ∙ sym (listed_many t l q Unused))

  pub worked_out :
      {x : Found} {m : Sharer} {charges : Charges} {paying : Result Paid Refusal} {old₁ old₂ old₃ old₄ old₅ middle new₁ new₂ new₃ new₄ new₅ : List ℤ} →
      x ≡ found_is t.units t.percent f.direction f.set (lent l.measures l.sums l.figures l.homes []) →
      m ≡ residual_to t.units members_lent f.direction f.set regions →
      CostCharged f x.reliable t.units members_lent old₁ old₄ old₅ charges middle new₄ new₅ →
      MembersPaid f.price x.rcr t.units f.direction f.set members_lent middle old₂ old₃ paying new₁ new₂ new₃ →
      WorkedOut t f l (columns old₁ old₂ old₃ old₄ old₅) (gathered_answer f x m charges paying) (columns new₁ new₂ new₃ new₄ new₅)
  unfolding kept_answer answered kept_rcr
  worked_out {x} {m} {charges} {paying} {old₁} {old₂} {old₃} {old₄} {old₅} ex em costs c =
      let u = charges.used.pool in
      let v = charges.unused.pool in
      let a = costs.over_unused in
      let b = costs.over_used in
      let rcr : x.rcr ≡ kept_rcr t l q = ap (λ (y : Found). y.rcr) ex in
      let used_up : u ≡ the_used = costs.used ∙ ap (λ (s : Bool). used_cents f.cost f.enabled f.used s) (ap (λ (y : Found). y.reliable) ex) in
      let rest : v ≡ the_unused = costs.unused ∙ ap (λ (z : ℕ). f.cost - z) used_up in
      let pooled : pool_over f.price x.rcr (listed t l q Payment) ≡ the_pool = pool_same rcr in
      let last : m.standing ≡ (residual_row t l q).standing = ap (λ (y : Sharer). y.standing) em in
      record {
        reply =
            rw (b.reply, a.reply, c.reply)
            (ap Ok
            (answer_same
            (many_lines t l q the_pool the_used the_unused)
            (last ∙ sym (last_is t l q the_pool the_used the_unused))
            rcr
            pooled
            used_up
            (ap₂ (λ (z : ℕ) (ws : List ℕ). unplaced_of z ws) used_up (sides t l q Used loss))
            rest
            (ap₂ (λ (z : ℕ) (ws : List ℕ). unplaced_of z ws) rest (sides t l q Unused loss))));
        written =
            columns_same
            (settles old₁ a.column b.column c.performances
            ∙ ap (λ (xs : List ℤ). headed xs old₁) (performances_are t l q the_pool the_used the_unused))
            (c.factors ∙ factors_are t l q the_pool the_used the_unused old₂)
            (c.payments ∙ ap (λ (z : ℕ). filled (length (listed t l q Payment)) (signs_at z (listed t l q Payment)) old₃) pooled
            ∙ payments_are t l q the_pool the_used the_unused old₃)
            (b.amounts
            ∙ ap (λ (z : ℕ). filled (length (map loss (listed t l q Used))) (λ i. neg_ℤ (pos (share_of z (map loss (listed t l q Used)) i))) old₄) used_up
            ∙ used_are t l q the_pool the_used the_unused old₄)
            (a.amounts
            ∙ ap (λ (z : ℕ). filled (length (map loss (listed t l q Unused))) (λ i. neg_ℤ (pos (share_of z (map loss (listed t l q Unused)) i))) old₅) rest
            ∙ unused_are t l q the_pool the_used the_unused old₅);
      }
