-- THE REPORT: the rows that what was kept of a book gives are those of the book's report (02, R-11), and no row past the last. Rows of the roster that are not
-- passed over are the plants, in roster order, each by the index of its last unit; a member's figures are those of its plant, a region's those of its residual.
use mathlib.Core.Path.{◌≡◌, refl, sym, ◌∙◌, ap, ap₂}
use mathlib.Core.Bool.{Bool, true, false, cond, not, ◌&&◌}
use mathlib.Core.List.{List, [], ◌∷◌, ◌++◌, map, map-map}
use Prim.Native.Nat.{ℕ, zero, suc, ◌+◌, ◌-◌, ◌≤◌, ◌<◌}
use native.Mathlib.Decide.{dec_lt}
use native.Mathlib.Omega.{arith}
use lib.Dec.{eqb, ltb}
use lib.IntN.{ℤ}
use lib.ListN.{length, get_or, length-append, length-map, get_or-append, get_or-map}
use lib.Seq.{get_or-append-add}
use borrow.Author.Tests.{le-leb, lt-ltb, le-ltb, ne_eqb}
use Rattle.integers.proofs.Sums.{one_≤}
use Rattle.integers.specs.Totals.{those, All}
use Rattle.integers.specs.Bounds.{Within}
use Rattle.rules.specs.declared.Direction.{Direction}
use Rattle.rules.specs.declared.Direction.TheVariants.{Raise, Lower}
use Rattle.rules.specs.declared.Reason.TheVariants.{NoGoodUnit}
use Rattle.rules.specs.declared.Refusal.TheVariants.{WrongState}
use Rattle.rules.specs.declared.Standing.{Standing}
use Rattle.rules.specs.declared.Reported.{Reported}
use Rattle.rules.specs.declared.Reported.TheVariants as whose
use Rattle.rules.specs.declared.Figure.{Figure}
use Rattle.rules.specs.declared.ReportRow.{ReportRow}
use Rattle.rules.specs.Quantities.{points, regions, measure_limit}
use Rattle.rules.specs.Bytes.{listed}
use Rattle.laws.proofs.BytesLaws.{listed_from_zero}
use Rattle.rules.specs.Refusals.{taken, refused, unless, ◌>>=◌}
use Rattle.rules.specs.Book.{Settings, Book}
use Rattle.rules.specs.Measure.{measure_in}
use Rattle.rules.specs.Plants.{Plant, plants}
use Rattle.rules.specs.Standings.{standing}
use Rattle.rules.specs.Members.{Member}
use Rattle.rules.specs.Report.{figure, plant_figure, residual_figure, member_row, residual_row, report_rows}
use Rattle.interval.specs.declared.Tally.{Tally}
use Rattle.interval.specs.Tally.{units_end, in_range, answer_turn}
use Rattle.interval.specs.Lent.{Lent, home, passed_over}
use Rattle.kept.specs.KeptReport.{
  member,
  residual,
  stands,
  member_rows,
  place_of,
  row_figure,
  region_figure,
  place_row,
  report_long,
  report_reply,
}
use Rattle.chain.specs.Keeps.{Keeps}
use Rattle.chain.specs.Reports.{row_at}
use Rattle.chain.specs.Answerable.{Answerable}
use Rattle.chain.proofs.ChainLaws.{listed_ext, listed_length}
use Rattle.chain.proofs.AnswerIs.{
  those_same,
  many,
  plant,
  last,
  region_fits,
  home_is,
  plants_are,
  reliable_at,
  some_good_is,
  residual_defaults_are,
  value_is,
  row_is,
}
use Rattle.chain.proofs.Places.{own_interval, rows_taken}

-- ---- a row by its number
pub row_there : (rows : List ReportRow) (n : ℕ) (z : ReportRow) → n < length rows → row_at rows n ≡ taken (get_or rows n z)
unfolding row_at
row_there [] n z h = absurd (omega arith)
row_there (x ∷ xs) zero z h = refl
row_there (x ∷ xs) (suc n) z h = row_there xs n z (omega arith)

pub row_past : (rows : List ReportRow) (n : ℕ) → length rows ≤ n → row_at rows n ≡ refused WrongState
unfolding row_at
row_past [] n h = refl
row_past (x ∷ xs) zero h = absurd (omega arith)
row_past (x ∷ xs) (suc n) h = row_past xs n (omega arith)

-- the rows of some numbers, then one of each region
module _ (ms : List ℕ) (f g : ℕ → ReportRow) where
  abbrev both_rows : List ReportRow
  both_rows = map f ms ++ listed 0 regions g

  all_many : length both_rows ≡ length ms + regions
  all_many = length-append (map f ms) (listed 0 regions g) ∙ ap₂ ◌+◌ (length-map ms f) (listed_length 0 regions g)

  first : (row : ℕ) → row < length ms → row_at both_rows row ≡ taken (f (get_or ms row 0))
  first row h =
      row_there both_rows row (f 0) (omega (arith, all_many))
      ∙ ap taken (get_or-append (map f ms) (listed 0 regions g) (f 0) row (omega (arith, length-map ms f)) ∙ get_or-map f ms row 0)

  then : (row : ℕ) → length ms ≤ row → row - length ms < regions → row_at both_rows row ≡ taken (g (row - length ms))
  then row h k =
      let place : row ≡ length (map f ms) + (row - length ms) = omega (arith, length-map ms f) in
      row_there both_rows row (f 0) (omega (arith, all_many))
      ∙ ap taken (ap (λ (n : ℕ). get_or both_rows n (f 0)) place ∙ get_or-append-add (map f ms) (listed 0 regions g) (row - length ms) (f 0)
      ∙ listed_from_zero regions g (row - length ms) (f 0) k)

-- ---- the rows that are kept, by their number
kept_row :
    (t : Tally) (l : Lent) (row version : ℕ) → (place_of t l row >>= (λ p. taken (place_row t l version p))) ≡ row_at
    (map (λ i. place_row t l version (member i)) (member_rows t l) ++ listed 0 regions (λ r. place_row t l version (residual r))) row
unfolding place_of
kept_row t l row version = go (dec_lt row many_members) (dec_lt (row - many_members) regions)
  where
    many_members : ℕ
    many_members = length (member_rows t l)

    by_member : ℕ → ReportRow
    by_member i = place_row t l version (member i)

    by_region : ℕ → ReportRow
    by_region r = place_row t l version (residual r)

    go :
        Dec (row < many_members) → Dec (row - many_members < regions) →
        (cond (ltb row many_members) (taken (member (get_or (member_rows t l) row 0)))
        (unless (ltb (row - many_members) regions) WrongState (taken (residual (row - many_members)))) >>= (λ p. taken (place_row t l version p))) ≡
        row_at (map by_member (member_rows t l) ++ listed 0 regions by_region) row
    go (yes h) k = rw (lt-ltb row many_members h) (sym (first (member_rows t l) by_member by_region row h))
    go (no h) (yes k) =
        rw (le-ltb row many_members (omega arith), lt-ltb (row - many_members) regions k)
        (sym (then (member_rows t l) by_member by_region row (omega arith) k))
    go (no h) (no k) =
        rw (le-ltb row many_members (omega arith), le-ltb (row - many_members) regions (omega arith))
        (sym (row_past (map by_member (member_rows t l) ++ listed 0 regions by_region) row (omega (arith, all_many (member_rows t l) by_member by_region))))

row_same :
    {i i' version : ℕ} {w w' : Reported} {x x' y y' : Figure} → i ≡ i' → w ≡ w' → x ≡ x' → y ≡ y' →
    ◌≡◌ {A = ReportRow} (record { interval = i; whose = w; raise = x; lower = y; version = version })
    (record { interval = i'; whose = w'; raise = x'; lower = y'; version = version })
row_same hi hw hx hy = cc

-- ---- they are the book's
module _
    (t : Tally) (l : Lent) (b : Book) (h : Keeps t l b) (inside : All (λ u. u.region < regions) b.roster)
    (fits : (r p : ℕ) → r < regions → p < points → Within measure_limit (measure_in b r p)) where
  abbrev units : ℕ
  units = many t l b h inside fits

  abbrev plant_of : ℕ → Plant
  plant_of = plant t l b h inside fits

  abbrev ends : ℕ → Bool
  ends = last t l b h inside fits

  same_interval : t.interval ≡ b.settings.interval
  same_interval = ap (λ (s : Settings). s.interval) h.settings

  -- a row that is not passed over is that of a plant's last unit
  stands_is : (j : ℕ) → j < units → stands l j ≡ ends j
  stands_is j i = ap (λ (n : ℕ). not (eqb n passed_over)) (home_is t l b h inside fits j i) ∙ go (ends j)
    where
      below : (r : ℕ) (s : Bool) → r < regions → eqb (home r s) passed_over ≡ false
      below r s k = ne_eqb (home r s) passed_over (λ e. omega (arith, one_≤ s))

      go : (s : Bool) → not (eqb (cond s (home (plant_of j).region (plant_of j).good) passed_over) passed_over) ≡ s
      go true = ap not (below (plant_of j).region (plant_of j).good (region_fits t l b h inside fits j i))
      go false = refl

  member_figure_is : (d : Direction) (j : ℕ) → j < units → ends j ≡ true → row_figure l j d ≡ plant_figure b d (plant_of j)
  member_figure_is d j i e = ap (λ (m : Member). figure m.standing m.payment) (row_is t l b h inside fits d j i e)

  member_row_is : (version j : ℕ) → j < units → ends j ≡ true → place_row t l version (member j) ≡ member_row b version (plant_of j)
  unfolding place_row member_row
  member_row_is version j i e =
      row_same same_interval (ap (λ (n : ℕ). whose.Unit n) (h.numbers j i)) (member_figure_is Raise j i e) (member_figure_is Lower j i e)

  members_are : (version : ℕ) → map (λ i. place_row t l version (member i)) (member_rows t l) ≡ map (member_row b version) (plants b.roster)
  unfolding member_rows
  members_are version =
      ap (λ (n : ℕ). map (λ i. place_row t l version (member i)) (those (stands l) (listed 0 n (λ i. i)))) h.units
      ∙ those_same (stands l) ends (λ i. place_row t l version (member i)) (λ i. member_row b version (plant_of i)) 0 units
      (λ i k. stands_is i (omega arith)) (λ i k e. member_row_is version i (omega arith) e)
      ∙ sym (ap (map (member_row b version)) (plants_are t l b h inside fits)
      ∙ map-map (member_row b version) plant_of (those ends (listed 0 units (λ j. j))))

  residual_figure_is : (d : Direction) (r : ℕ) → r < regions → region_figure t l r d ≡ residual_figure b d r
  residual_figure_is d r i =
      ap₂ (λ (s : Standing) (x : ℤ). figure s x)
      (ap₂ (λ (x y : Bool). standing x y NoGoodUnit) (reliable_at t l b h inside fits d r i) (some_good_is t l b h inside fits r i))
      (value_is t l b h inside fits d 0 (λ f. f.payment) r i (residual_defaults_are t l b h inside fits d r i).0)

  residual_row_is : (version r : ℕ) → r < regions → place_row t l version (residual r) ≡ residual_row b version r
  unfolding place_row residual_row
  residual_row_is version r i = row_same same_interval refl (residual_figure_is Raise r i) (residual_figure_is Lower r i)

  pub rows_are_reported : (row version : ℕ) → (place_of t l row >>= (λ p. taken (place_row t l version p))) ≡ row_at (report_rows b version) row
  unfolding report_rows
  rows_are_reported row version =
      kept_row t l row version
      ∙ ap₂ (λ (xs ys : List ReportRow). row_at (xs ++ ys) row) (members_are version)
      (listed_ext 0 regions _ _ (λ r i. residual_row_is version r (omega arith)))

-- a report has a row for each plant and for each region
pub report_many : (b : Book) (version : ℕ) → length (report_rows b version) ≡ length (plants b.roster) + regions
unfolding report_rows
report_many b version =
    length-append (map (member_row b version) (plants b.roster)) (listed 0 regions (residual_row b version))
    ∙ ap₂ ◌+◌ (length-map (plants b.roster) (member_row b version)) (listed_length 0 regions (residual_row b version))

-- ---- THE REPORT IS THE BOOK'S: every row that there is, and 11 past the last
module _ {b : Book} {t : Tally} {l : Lent} (h : Answerable b t l) where
  turn : (in_range t && answer_turn t) ≡ true
  turn = rw (h.tally, le-leb (units_end t) t.records h.turn)

  lists_long : report_long t.units l ≡ true
  lists_long =
      let k = h.long in
      rw (le-leb _ _ k.figures, le-leb _ _ k.numbers, le-leb _ _ k.homes, le-leb _ _ k.rows)

  pub report_is : (row version : ℕ) → report_reply t row version l ≡ row_at (report_rows b version) row
  unfolding report_reply
  report_is row version =
      rw (turn, lists_long, own_interval t l row h.lent) (rows_taken t l row h.lent version ∙ h.reports row version)
