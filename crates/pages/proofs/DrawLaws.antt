-- Laws of lines and pages that are put together from their end.
use Rattle.std.specs.Prelude.{Ok, Err}
use mathlib.Core.Path.{◌≡◌, refl, sym, ◌∙◌, ap, subst}
use mathlib.Core.List.{List, [], ◌∷◌, ◌++◌, append_assoc, append-nil}
use Prim.Native.Nat.{ℕ, zero, suc, ◌+◌, ◌-◌, ◌≤◌, ◌<◌}
use native.Mathlib.Omega.{arith}
use borrow.Author.Tests.{le-leb, lt-leb}
use lib.IntN.{ℤ}
use lib.ListN.{length, take, drop, length-append}
use lib.Seq.{take-length}
use Rattle.rules.specs.declared.Refusal.TheVariants.{TooShort}
use Rattle.rules.specs.Panel.{repeated, spaces, at_left, at_ends, labelled, figure}
use Rattle.listing.specs.Pieces.{Room, Put, PutWhereRoom}
use Rattle.listing.proofs.PiecesLaws.{put_before, put_there, room_after}
use Rattle.pages.specs.Promises.{Draws}
use Rattle.pages.proofs.RepeatedLaws.{repeated_long, repeated_joined}
use Rattle.pages.proofs.FigureLaws.{placed_long}
use Rattle.rules.specs.Text.{text, natural, integer}
use Rattle.rules.specs.declared.Direction.{Direction}
use Rattle.rules.specs.declared.Direction.TheVariants.{Raise, Lower}
use Rattle.pages.specs.Lines.{way_text, required_text, unit_text}
use Rattle.report_row.proofs.PieceLaws.{digits_few}

-- ---- lines
pub labelled_long : (label : List ℕ) (x : ℤ) → length label ≡ 4 → length (labelled label x) ≡ 20
labelled_long label x e = length-append label (figure x) ∙ omega (arith, e, placed_long (integer x))

-- each takes 20 places
pub line_room : (label : List ℕ) (x : ℤ) {at r : ℕ} {old new : List ℕ} (k : ℕ) → length label ≡ 4 → Room (20 + k) at old →
    Put (labelled label x) at old r new → Room k r new
line_room label x k e m p = room_after {j = 20} m (omega (arith, labelled_long label x e)) p

-- line one: the text at its right end, spaces, the text at its left
module _ (left right : List ℕ) (fits : length left + length right ≤ 20) where
  pub ends_long : length (at_ends left right) ≡ 20
  ends_long =
      let n = 20 - (length left + length right) in
      length-append left (spaces n ++ right) ∙ omega (arith, length-append (spaces n) right, repeated_long 32 n)

  pub ends_put : {end start r : ℕ} {old a b new : List ℕ} → Put right 20 old end a → Put (repeated 32 (end - length left)) end a start b →
      Put left start b r new → Put (at_ends left right) 20 old r new
  ends_put {end} p q l =
      let e : end - length left ≡ 20 - (length left + length right) = omega (arith, p.place) in
      put_before (put_before p (rw e at q)) l

  pub ends_start : {r : ℕ} {old new : List ℕ} → Put (at_ends left right) 20 old r new → r ≡ 0
  ends_start p = omega (arith, p.place, ends_long)

-- nothing at the right end
pub left_ends : (left : List ℕ) → at_ends left [] ≡ at_left 20 left
left_ends left = ap (λ (l : List ℕ). left ++ l) (append-nil (spaces (20 - (length left + 0))) ∙ ap spaces (omega arith))

-- ---- what is drawn at the front of a text
module _ {places : ℕ} {drawing old : List ℕ} where
  pub drawn_there : {new : List ℕ} → places ≤ length old → Put drawing places old 0 new → Draws places drawing old (Ok tt) new
  drawn_there h p = record { reply = rw (le-leb places (length old) h); written = rw (le-leb places (length old) h) p.bytes }

  pub drawn_not : length old < places → Draws places drawing old (Err TooShort) old
  drawn_not h = record { reply = rw (lt-leb places (length old) h); written = rw (lt-leb places (length old) h) }

-- three labelled figures, from the last line up
module _ (second third fourth : List ℕ) (x y z : ℤ) (e : length second ≡ 4) (e' : length third ≡ 4) (e'' : length fourth ≡ 4) where
  abbrev three : List ℕ
  three = labelled second x ++ (labelled third y ++ labelled fourth z)

  three_long : length three ≡ 60
  three_long =
      length-append (labelled second x) (labelled third y ++ labelled fourth z)
      ∙ omega
      (arith, length-append (labelled third y) (labelled fourth z), labelled_long second x e, labelled_long third y e', labelled_long fourth z e'')

  pub three_start : {r : ℕ} {old new : List ℕ} → Put three 80 old r new → r ≡ 20
  three_start p = omega (arith, p.place, three_long)

-- a line's end, where it starts with what was put
pub line_end : {piece old new : List ℕ} {at r : ℕ} → length old ≡ at → Put piece at old r new → drop r new ≡ piece
line_end {piece} {old} {at} e p = p.bytes ∙ ap (λ (l : List ℕ). piece ++ l) (drop_none old at e) ∙ append-nil piece
  where
    drop_none : (xs : List ℕ) (n : ℕ) → length xs ≡ n → drop n xs ≡ []
    drop_none [] zero h = refl
    drop_none [] (suc n) h = refl
    drop_none (x ∷ xs) zero h = absurd (omega arith)
    drop_none (x ∷ xs) (suc n) h = drop_none xs n (omega arith)

pub line_part : {piece old new : List ℕ} {at r : ℕ} → length old ≡ at → Put piece at old r new → take (at - r) (drop r new) ≡ piece
line_part {piece} {at = at} {r = r} e p =
    let k : at - r ≡ length piece = omega (arith, p.place) in
    ap (take (at - r)) (line_end e p) ∙ ap (λ (n : ℕ). take n piece) k ∙ take-length piece

-- line one with such a text at its left
pub ends_of : (right : List ℕ) {part said old new : List ℕ} {r : ℕ} → part ≡ said → Put (at_ends part right) 20 old r new →
    Put (at_ends said right) 20 old r new
ends_of right {old = old} {new = new} {r = r} e p = subst (λ (l : List ℕ). Put (at_ends l right) 20 old r new) e p

pub left_of : {part said old new : List ℕ} {r : ℕ} → part ≡ said → Put (at_ends part []) 20 old r new → Put (at_left 20 said) 20 old r new
left_of {said = said} {old = old} {new = new} {r = r} e p = subst (λ (l : List ℕ). Put l 20 old r new) (left_ends said) (ends_of [] e p)

pub short_of : {part said : List ℕ} (k : ℕ) → part ≡ said → length said ≤ k → length part ≤ k
short_of k e h = subst (λ (l : List ℕ). length l ≤ k) (sym e) h

pub way_long : (direction : Direction) → length (way_text direction) ≡ 6
unfolding text way_text
way_long Raise = refl
way_long Lower = refl

-- names are at most so long
pub required_short : (number : ℕ) (direction : Direction) → number < 65_536 → length (required_text number direction) ≤ 20
unfolding text
required_short number direction h =
    omega (arith, length-append (natural number) (way_text direction), way_long direction, digits_few 4 20 number (omega arith))

pub unit_short : (number : ℕ) → number < 65_536 → length (unit_text number) ≤ 13
unfolding text
unit_short number h = omega (arith, digits_few 4 20 number (omega arith))

-- ---- a page: line one before the three figures
pub page_put : {top rest old mid new : List ℕ} {at r : ℕ} → at ≡ 20 → r ≡ 0 → 80 ≤ length old → Put rest 80 old at mid → Put top 20 mid r new →
    Draws 80 (top ++ rest) old (Ok tt) new
page_put {top} {rest} {old} {mid} {new} {at} {r} e z h p q =
    drawn_there h
    (put_before (subst (λ (k : ℕ). Put rest 80 old k mid) e p) (subst (λ (k : ℕ). Put top 20 mid k new) z q))

-- line one, and spaces to the end
pub phrase_put : (said : List ℕ) {old mid new : List ℕ} {at r : ℕ} → length said ≤ 20 → 80 ≤ length old → Put (repeated 32 60) 80 old at mid →
    PutWhereRoom (length (at_left 20 said)) (at_left 20 said) at mid r new → Draws 80 (at_left 80 said) old (Ok tt) new
phrase_put said {old} {mid} {new} {at} {r} short h p q =
    let n = length said in
    let long : length (at_left 20 said) ≡ 20 = length-append said (spaces (20 - n)) ∙ omega (arith, repeated_long 32 (20 - n)) in
    let e : at ≡ 20 = omega (arith, p.place, repeated_long 32 60) in
    let put = put_there (record { free = omega (arith, long, e); inside = omega (arith, e, p.size, h) }) q in
    let z : r ≡ 0 = omega (arith, put.place, long, e) in
    let whole : at_left 20 said ++ repeated 32 60 ≡ at_left 80 said
    = append_assoc said (spaces (20 - n)) (repeated 32 60)
    ∙ ap (λ (l : List ℕ). said ++ l) (repeated_joined 32 (20 - n) 60 ∙ ap spaces (omega arith))
    in
    drawn_there h
    (subst (λ (d : List ℕ). Put d 80 old 0 new) whole
    (put_before p (subst (λ (k : ℕ). Put (at_left 20 said) at mid k new) z put)))

-- a figure, from the end of a line of its own
pub figure_drawn : (x : ℤ) {line old new part : List ℕ} {start r : ℕ} {a : List ℕ} → length line ≡ 20 → 16 ≤ length old →
    Put (figure x) 20 line start a → part ≡ take (20 - start) (drop start a) →
    PutWhereRoom (length part) part 16 old r new → Draws 16 (figure x) old (Ok tt) new
figure_drawn x {line} {old} {new} {part} {start} {r} e h p cut q =
    let is : part ≡ figure x = cut ∙ line_part e p in
    let long : length part ≡ 16 = ap length is ∙ placed_long (integer x) in
    let put = put_there (record { free = omega (arith, long); inside = h }) q in
    let z : r ≡ 0 = omega (arith, put.place, long) in
    drawn_there h (subst (λ (k : ℕ). Put (figure x) 16 old k new) z (subst (λ (d : List ℕ). Put d 16 old r new) is put))
