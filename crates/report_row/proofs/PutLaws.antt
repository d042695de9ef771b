-- Laws of what the functions of `pieces` put: a byte, and the digits of a number, the last one first.
use mathlib.Core.Path.{◌≡◌, refl, sym, ◌∙◌, ap, subst}
use mathlib.Core.List.{List, [], ◌∷◌, ◌++◌, append_assoc}
use Prim.Native.Nat.{ℕ, zero, suc, ◌+◌, ◌*◌, ◌-◌, ◌/◌, ◌%◌, ◌≤◌, ◌<◌}
use native.Mathlib.Omega.{arith}
use lib.Dec.{lit≤}
use lib.IntN.{ℤ, pos, negsuc, nat_abs}
use lib.ListN.{length, take, drop, set, length-set, length-append}
use lib.Seq.{take-set-le}
use lib.Signed.{◌≤ℤ◌, ◌<ℤ◌}
use Rattle.integers.proofs.Pairs.{lt_in}
use Rattle.rules.specs.declared.Figure.{Figure}
use Rattle.rules.specs.declared.ReportRow.{ReportRow}
use Rattle.rules.specs.declared.RegionName.{RegionName}
use Rattle.rules.specs.declared.RegionName.TheVariants.{Qld1, Nsw1, Vic1, Sa1, Tas1}
use Rattle.rules.specs.Quantities.{billion}
use Rattle.rules.specs.Text.{text, natural}
use Rattle.rules.specs.Calendar.{Date, date_after}
use Rattle.rules.specs.ReportRow.{padded, interval_text, region_text, decimals, performance_text, type_text, whose_text, version_text, billionths}
use Rattle.rules.specs.ReportRow.{row_text, report_row, ◌then◌}
use Rattle.listing.specs.Pieces.{Room, Put, PutWhereRoom}
use Rattle.listing.proofs.PiecesLaws.{digits_most, alike_less, put_byte, room_less, room_after, put_before, put_there}
use Rattle.report_row.specs.Columns.{day_text, date_text, time_text, figure_text}
use Rattle.report_row.proofs.PieceLaws.{padded_long}
use Rattle.report_row.proofs.ColumnLaws.{Between, type_long}

pub put_one : (b : ℕ) {at : ℕ} {old : List ℕ} → Room 1 at old → Put (b ∷ []) at old (at - 1) (set old (at - 1) b)
put_one b {at} {old} m =
    record {
      place = omega (arith, m.free);
      bytes = put_byte old at b m.free m.inside;
      before = take-set-le (at - 1) old (at - 1) b (omega arith);
      size = length-set old (at - 1) b;
    }

-- a piece that has room to spare
pub put_in : {j k at r : ℕ} {piece old new : List ℕ} → k ≤ j → Room j at old → PutWhereRoom k piece at old r new → Put piece at old r new
put_in h m p = put_there (room_less h m) p

-- pieces that stand one before the other, and room for k bytes before them
pub record Stands (k : ℕ) (piece : List ℕ) (at : ℕ) (old : List ℕ) (r : ℕ) (new : List ℕ) : Type 0 where
  pub put : Put piece at old r new
  pub room : Room k r new

pub first_put : (j k : ℕ) {at r : ℕ} {piece old new : List ℕ} → Room (j + k) at old → length piece ≤ j → Put piece at old r new → Stands k piece at old r new
first_put j k m h p = record { put = p; room = room_after m h p }

pub next_put : (j k : ℕ) {at r r' : ℕ} {first second old mid new : List ℕ} → Stands (j + k) second at old r mid → length first ≤ j → Put first r mid r' new →
    Stands k (first ++ second) at old r' new
next_put j k s h p = record { put = put_before s.put p; room = room_after s.room h p }

pub padded_most : (k n : ℕ) → length (padded k n) ≤ k
padded_most k n = omega (arith, padded_long k n)

-- what is left to put of a number: `left` digits of `rest` before `to`
pub record Left (places n at : ℕ) (old : List ℕ) (rest to : ℕ) (line : List ℕ) : Type 0 where
  pub left : ℕ
  pub place : to + places ≡ at + left
  pub below : to ≤ at
  pub bytes : padded left rest ++ drop to line ≡ padded places n ++ drop at old
  pub before : take to line ≡ take to old
  pub size : length line ≡ length old

pub left_all : (places n at : ℕ) (old : List ℕ) → Left places n at old n at old
left_all places n at old = record { left = places; place = refl; below = omega arith; bytes = refl; before = refl; size = refl }

module _ {places n at rest to : ℕ} {old line : List ℕ} (m : Room places at old) (s : Left places n at old rest to line) where
  pub left_less : at - places < to → Left places n at old (rest / 10) (to - 1) (set line (to - 1) (48 + rest % 10))
  unfolding padded
  left_less h = go s.left s.place s.bytes
    where
      b : ℕ
      b = 48 + rest % 10

      go : (left : ℕ) → to + places ≡ at + left → padded left rest ++ drop to line ≡ padded places n ++ drop at old →
          Left places n at old (rest / 10) (to - 1) (set line (to - 1) b)
      go zero place bytes = absurd (omega (arith, m.free))
      go (suc k) place bytes =
          record {
            left = k;
            place = omega arith;
            below = omega (arith, s.below);
            bytes =
                ap (λ (l : List ℕ). padded k (rest / 10) ++ l) (put_byte line to b (omega arith) (omega (arith, s.below, s.size, m.inside)))
                ∙ sym (append_assoc (padded k (rest / 10)) (b ∷ []) (drop to line)) ∙ bytes;
            before = take-set-le (to - 1) line (to - 1) b (omega arith) ∙ alike_less (to - 1) to line old (omega arith) s.before;
            size = length-set line (to - 1) b ∙ s.size;
          }

  pub left_none : to ≤ at - places → Put (padded places n) at old to line
  unfolding padded
  left_none h = go s.left s.place s.bytes
    where
      go : (left : ℕ) → to + places ≡ at + left → padded left rest ++ drop to line ≡ padded places n ++ drop at old → Put (padded places n) at old to line
      go zero place bytes =
          record { place = omega (arith, padded_long places n); bytes = bytes; before = s.before; size = s.size }
      go (suc k) place bytes = absurd (omega (arith, m.free))

-- ---- the pieces of a moment
pub time_most : (slot : ℕ) → length (time_text slot) ≤ 8
unfolding text
time_most slot =
    omega (
      arith,
      length-append (padded 2 (slot / 12)) (text ":" ++ (padded 2 (5 * (slot % 12)) ++ text ":00")),
      length-append (padded 2 (5 * (slot % 12))) (text ":00"),
      padded_long 2 (slot / 12),
      padded_long 2 (5 * (slot % 12)),
    )

-- date, space and time are the interval's text
day_joined : (d : Date) (rest : List ℕ) → day_text d ++ rest ≡
    padded 2 d.day ++ (text "/" ++ (padded 2 d.month ++ (text "/" ++ (padded 4 d.year ++ rest))))
unfolding text
day_joined d rest =
    append_assoc (padded 2 d.day) (47 ∷ (padded 2 d.month ++ (47 ∷ padded 4 d.year))) rest
    ∙ ap (λ (l : List ℕ). padded 2 d.day ++ (47 ∷ l)) (append_assoc (padded 2 d.month) (47 ∷ padded 4 d.year) rest)

interval_joined : (n : ℕ) → date_text (n / 288) ++ (text " " ++ time_text (n % 288)) ≡ interval_text n
interval_joined n =
    let e : n % 288 % 12 ≡ n % 12 = omega arith in
    day_joined (date_after (n / 288)) (text " " ++ time_text (n % 288)) ∙ rw e

pub interval_put : (n : ℕ) {at r : ℕ} {old new : List ℕ} → Put (date_text (n / 288) ++ (text " " ++ time_text (n % 288))) at old r new →
    Put (interval_text n) at old r new
interval_put n {at} {r} {old} {new} p = subst (λ (piece : List ℕ). Put piece at old r new) (interval_joined n) p

pub region_most : (name : RegionName) → length (region_text name) ≤ 4
unfolding text
region_most Qld1 = lit≤ tt
region_most Nsw1 = lit≤ tt
region_most Vic1 = lit≤ tt
region_most Sa1 = lit≤ tt
region_most Tas1 = lit≤ tt

-- ---- a performance: at most twenty digits before the point, nine behind it; its sign
pub decimals_most : (b : ℕ) → length (decimals b) ≤ 30
unfolding text
decimals_most b =
    omega (
      arith,
      length-append (natural (b / billion)) (text "." ++ padded 9 (b % billion)),
      digits_most 20 (b / billion),
      padded_long 9 (b % billion),
    )

pub performance_above : (x : ℤ) → pos 0 ≤ℤ x → performance_text x ≡ decimals (nat_abs x)
performance_above (pos n) h = refl
performance_above (negsuc n) h = absurd h.le

pub performance_below : (x : ℤ) → x <ℤ pos 0 → performance_text x ≡ text "-" ++ decimals (nat_abs x)
performance_below (pos n) h = absurd (omega (arith, lt_in h))
performance_below (negsuc n) h = refl

-- ---- a figure, and the whole row
pub figure_most : (f : Figure) → Between 11 21 (performance_text (billionths f.performance)) → length (figure_text f) ≤ 33
unfolding text
figure_most f b =
    omega (
      arith,
      b.most,
      (type_long f.typed).most,
      length-append (performance_text (billionths f.performance)) (text "," ++ (type_text f.typed ++ text ",")),
      length-append (type_text f.typed) (text ","),
    )

figure_joined : (f : Figure) (rest : List ℕ) → figure_text f ++ rest ≡ performance_text (billionths f.performance) then (type_text f.typed then rest)
unfolding text
figure_joined f rest =
    append_assoc (performance_text (billionths f.performance)) (44 ∷ (type_text f.typed ++ (44 ∷ []))) rest
    ∙ ap (λ (l : List ℕ). performance_text (billionths f.performance) ++ (44 ∷ l)) (append_assoc (type_text f.typed) (44 ∷ []) rest)

row_joined : (r : ReportRow) →
    interval_text r.interval ++ (text "," ++ (whose_text r.whose ++ (text "," ++ (figure_text r.raise ++ (figure_text r.lower ++
    version_text r.version))))) ≡ report_row r
unfolding row_text
row_joined r =
    ap (λ (l : List ℕ). interval_text r.interval then (whose_text r.whose then l))
    (figure_joined r.raise (figure_text r.lower ++ version_text r.version)
    ∙ ap (λ (l : List ℕ). performance_text (billionths r.raise.performance) then (type_text r.raise.typed then l))
    (figure_joined r.lower (version_text r.version)))

pub row_put : (r : ReportRow) {at to : ℕ} {old new : List ℕ} →
    Put (interval_text r.interval ++ (text "," ++ (whose_text r.whose ++ (text "," ++ (figure_text r.raise ++ (figure_text r.lower ++
    version_text r.version)))))) at old to new → Put (report_row r) at old to new
row_put r {at} {to} {old} {new} p = subst (λ (piece : List ℕ). Put piece at old to new) (row_joined r) p

-- a piece before others, by how far it reaches
pub put_reaching : (j k : ℕ) {at r r' : ℕ} {first second old mid new : List ℕ} → Stands (j + k) second at old r mid → r ≤ r' + j → Put first r mid r' new →
    Stands k (first ++ second) at old r' new
put_reaching j k s h p = next_put j k s (omega (arith, p.place)) p
