-- Laws of the definitions in specs/Pieces.antt.
use mathlib.Core.Path.{◌≡◌, refl, sym, ◌∙◌, ap, subst}
use mathlib.Core.Bool.{Bool, true, false, ◌&&◌, true≢false}
use mathlib.Core.List.{List, [], ◌∷◌, ◌++◌, append_assoc}
use Prim.Native.Nat.{ℕ, zero, suc, ◌+◌, ◌-◌, ◌*◌, ◌/◌, ◌%◌, ◌≤◌, ◌<◌, ◌^◌}
use native.Mathlib.Omega.{arith}
use native.Mathlib.Nat.{pow-suc, div-lt_iff_lt-mul}
use borrow.Author.Tests.{lt-ltb, le-ltb, le-leb, lt-leb}
use lib.Arith.{mod-mul}
use lib.Dec.{leb, ltb, lit≤}
use lib.IntN.{ℤ, pos, negsuc, nat_abs}
use lib.ListN.{length, take, drop, set, length-append, length-drop, length-set, take-append-drop}
use lib.Seq.{drop-cons, get_or-set_same, drop-set-lt, paste, length-paste, take-length, take-take, take-set-le, take_at, length-take-le, drop_at}
use lib.Signed.{◌≤ℤ◌, ◌<ℤ◌}
use Rattle.integers.specs.Pairs.{loss}
use Rattle.integers.proofs.Pairs.{lt_in}
use Rattle.rules.specs.declared.Direction.{Direction}
use Rattle.rules.specs.declared.Direction.TheVariants.{Raise, Lower}
use Rattle.rules.specs.Text.{text, digits, natural, integer}
use Rattle.listing.specs.Pieces.{Put, Room, two_put, has_room, PutWhereRoom, after_space, direction_piece}

pub room_less : {j k at : ℕ} {line : List ℕ} → j ≤ k → Room k at line → Room j at line
room_less h r = record { free = omega (arith, r.free); inside = r.inside }

pub room_after : {k j at r : ℕ} {piece old new : List ℕ} → Room (j + k) at old → length piece ≤ j → Put piece at old r new → Room k r new
room_after m h p = record { free = omega (arith, m.free, p.place); inside = omega (arith, m.inside, p.place, p.size) }

-- lists alike before a place are alike before an earlier one
pub alike_less : {A : Type 0} (r at : ℕ) (xs ys : List A) → r ≤ at → take at xs ≡ take at ys → take r xs ≡ take r ys
alike_less r at xs ys h e = sym (take-take r at xs h) ∙ ap (take r) e ∙ take-take r at ys h

pub direction_most : (direction : Direction) → length (direction_piece direction) ≤ 6
unfolding direction_piece text
direction_most Raise = lit≤ tt
direction_most Lower = lit≤ tt

-- one piece before another
pub put_before : {first second : List ℕ} {at r r' : ℕ} {old mid new : List ℕ} → Put second at old r mid → Put first r mid r' new →
    Put (first ++ second) at old r' new
put_before {first} {second} {at} {r} {r'} {old} {mid} p q =
    record {
      place = omega (arith, length-append first second, p.place, q.place);
      bytes = q.bytes ∙ ap (λ (l : List ℕ). first ++ l) p.bytes ∙ sym (append_assoc first second (drop at old));
      before = q.before ∙ alike_less r' r mid old (omega (arith, q.place)) p.before;
      size = q.size ∙ p.size;
    }

-- a word that is copied before what stands
pub put_word : (word old : List ℕ) (at : ℕ) {new : List ℕ} → Room (length word) at old → new ≡ paste old (at - length word) word (length word) →
    Put word at old (at - length word) new
put_word word old at m copied =
    let from = at - length word in
    let e : from + length word ≡ at = omega (arith, m.free) in
    record {
      place = e;
      bytes =
          ap (drop from) (copied ∙ append_assoc (take from old) (take (length word) word) (drop (from + length word) old))
          ∙ drop_at (take from old) (take (length word) word ++ drop (from + length word) old) from (length-take-le from old (omega (arith, m.inside)))
          ∙ rw (take-length word, e);
      before =
          ap (take from) (copied ∙ append_assoc (take from old) (take (length word) word) (drop (from + length word) old))
          ∙ take_at (take from old) (take (length word) word ++ drop (from + length word) old) from (length-take-le from old (omega (arith, m.inside)));
      size = ap length copied ∙ length-paste old from word (length word) (omega (arith, m.inside)) (omega arith);
    }

-- one byte more
pub put_byte : (old : List ℕ) (at b : ℕ) → 0 < at → at ≤ length old → drop (at - 1) (set old (at - 1) b) ≡ b ∷ drop at old
put_byte old at b h l =
    let i = at - 1 in
    let e : suc i ≡ at = omega arith in
    let inside : i < length (set old i b) = omega (arith, length-set old i b) in
    drop-cons (set old i b) i 0 inside
    ∙ rw (get_or-set_same old i b 0 (omega arith), drop-set-lt (suc i) old i b (omega arith), e)

-- ---- where there is room, and where there is none
room_tested : {k at : ℕ} {line : List ℕ} → Room k at line → has_room k at line ≡ true
room_tested {k} {at} {line} m = rw (le-leb k at m.free, le-leb at (length line) m.inside)

pub put_there : {k at r : ℕ} {piece old new : List ℕ} → Room k at old → PutWhereRoom k piece at old r new → Put piece at old r new
put_there m p = p.put (room_tested m)

pub where_room : {k at r : ℕ} {piece old new : List ℕ} → Room k at old → Put piece at old r new → PutWhereRoom k piece at old r new
where_room {k} {at} {old = old} m p = record { put = λ e. p; place_kept = λ e. absurd (no e); line_kept = λ e. absurd (no e) }
  where
    no : has_room k at old ≡ false → ⊥
    no e = true≢false (sym (room_tested m) ∙ e)

module _ {k at : ℕ} {piece line : List ℕ} where
  nothing_put : has_room k at line ≡ false → PutWhereRoom k piece at line at line
  nothing_put e = record { put = λ t. absurd (true≢false (sym t ∙ e)); place_kept = λ _. refl; line_kept = λ _. refl }

  pub too_near : at < k → PutWhereRoom k piece at line at line
  too_near h = nothing_put (rw (lt-leb k at h))

  pub outside : length line < at → PutWhereRoom k piece at line at line
  outside h = nothing_put (go (leb k at))
    where
      go : (t : Bool) → t && leb at (length line) ≡ false
      go true = lt-leb at (length line) h
      go false = refl

-- no two answers are allowed
put_whole : {piece old : List ℕ} {at r : ℕ} {new : List ℕ} → Put piece at old r new → new ≡ take r old ++ (piece ++ drop at old)
put_whole {old = old} {r = r} {new = new} p =
    sym (take-append-drop r new) ∙ ap (λ (l : List ℕ). l ++ drop r new) p.before ∙ ap (λ (l : List ℕ). take r old ++ l) p.bytes

pub put_only : {piece old : List ℕ} {at r r' : ℕ} {new new' : List ℕ} → Put piece at old r new → Put piece at old r' new' → (r ≡ r') × (new ≡ new')
put_only {piece} {old} {at} {r} {r'} a b =
    let e : r ≡ r' = omega (arith, a.place, b.place) in
    (e, put_whole a ∙ ap (λ (i : ℕ). take i old ++ (piece ++ drop at old)) e ∙ sym (put_whole b))

module _ {k at r r' : ℕ} {piece old new new' : List ℕ} where
  where_only : PutWhereRoom k piece at old r new → PutWhereRoom k piece at old r' new' → (r ≡ r') × (new ≡ new')
  where_only a b = go (has_room k at old) refl
    where
      go : (t : Bool) → has_room k at old ≡ t → (r ≡ r') × (new ≡ new')
      go true e = put_only (a.put e) (b.put e)
      go false e = (a.place_kept e ∙ sym (b.place_kept e), a.line_kept e ∙ sym (b.line_kept e))

pub put_word_only : (word : List ℕ) {at r r' : ℕ} {old new new' : List ℕ} → PutWhereRoom (length word) word at old r new →
    PutWhereRoom (length word) word at old r' new' → (r ≡ r') × (new ≡ new')
put_word_only word = where_only

pub put_number_only : (n : ℕ) {at r r' : ℕ} {old new new' : List ℕ} → PutWhereRoom 20 (natural n) at old r new →
    PutWhereRoom 20 (natural n) at old r' new' → (r ≡ r') × (new ≡ new')
put_number_only n = where_only

pub size_only : (x : ℤ) {r r' : ℕ} → r ≡ nat_abs x → r' ≡ nat_abs x → r ≡ r'
size_only x a b = a ∙ sym b

-- ---- digits
-- no more digits than the number may have
pub digits_most : (most n : ℕ) → length (digits most n) ≤ most
unfolding digits
digits_most zero n = omega arith
digits_most (suc most) n = go (ltb n 10) (digits_most most (n / 10))
  where
    go : (t : Bool) → length (digits most (n / 10)) ≤ most → length {A = ℕ}
        (elim t [ true ↦ (48 + n) ∷ [] | false ↦ digits most (n / 10) ++ ((48 + n % 10) ∷ []) ]) ≤ suc most
    go true h = omega arith
    go false h = omega (arith, length-append (digits most (n / 10)) ((48 + n % 10) ∷ []))

pub digits_last : (most n : ℕ) → n < 10 → digits (suc most) n ≡ (48 + n) ∷ []
unfolding digits
digits_last most n h = rw (digits, lt-ltb n 10 h)

pub digits_more : (most n : ℕ) → 10 ≤ n → digits (suc most) n ≡ digits most (n / 10) ++ ((48 + n % 10) ∷ [])
unfolding digits
digits_more most n h = rw (digits, le-ltb n 10 h)

-- every number has a digit, and no fewer than its size asks for
pub digits_some : (most n : ℕ) → 0 < length (digits (suc most) n)
unfolding digits
digits_some most n = go (ltb n 10)
  where
    go : (t : Bool) → 0 < length {A = ℕ} (elim t [ true ↦ (48 + n) ∷ [] | false ↦ digits most (n / 10) ++ ((48 + n % 10) ∷ []) ])
    go true = lit≤ tt
    go false = omega (arith, length-append (digits most (n / 10)) ((48 + n % 10) ∷ []))

ten_some : (k : ℕ) → 1 ≤ 10 ^ k
ten_some zero = lit≤ tt
ten_some (suc k) = omega (arith, pow-suc 10 k, ten_some k)

pub digits_least : (most k n : ℕ) → k < most → 10 ^ k ≤ n → k < length (digits most n)
digits_least zero k n h p = absurd (omega arith)
digits_least (suc most) zero n h p = digits_some most n
digits_least (suc most) (suc k) n h p =
    let more : 10 ^ k * 10 ≤ n = rw (pow-suc 10 k) at p in
    let ten : 10 ≤ n = omega (arith, more, ten_some k) in
    let rest : k < length (digits most (n / 10)) = digits_least most k (n / 10) (omega arith) (omega (arith, more)) in
    rw (digits_more most n ten) (omega (arith, rest, length-append (digits most (n / 10)) ((48 + n % 10) ∷ [])))

-- what is spelt of a number: `rest` is to be spelt before `to`, in at most `most` digits and one
pub record Spelt (n at : ℕ) (old : List ℕ) (rest to : ℕ) (line : List ℕ) : Type 0 where
  pub most : ℕ
  pub place : to + 19 ≡ at + most
  pub below : to ≤ at
  pub small : rest < 10 ^ suc most
  pub bytes : digits (suc most) rest ++ drop to line ≡ natural n ++ drop at old
  pub before : take to line ≡ take to old
  pub size : length line ≡ length old

pub spelt_none : (n at : ℕ) (old : List ℕ) → n < 10 ^ 20 → Spelt n at old n at old
spelt_none n at old h = record { most = 19; place = refl; below = omega arith; small = h; bytes = refl; before = refl; size = refl }

module _ {n at rest to : ℕ} {old line : List ℕ} (m : Room 20 at old) (s : Spelt n at old rest to line) where
  -- one digit more
  pub spelt_more : 10 ≤ rest → Spelt n at old (rest / 10) (to - 1) (set line (to - 1) (48 + rest % 10))
  spelt_more ten = go s.most s.place s.small s.bytes
    where
      b : ℕ
      b = 48 + rest % 10

      go : (most : ℕ) → to + 19 ≡ at + most → rest < 10 ^ suc most → digits (suc most) rest ++ drop to line ≡ natural n ++ drop at old →
          Spelt n at old (rest / 10) (to - 1) (set line (to - 1) b)
      go zero place small bytes = absurd (omega arith)
      go (suc k) place small bytes =
          record {
            most = k;
            place = omega (arith, m.free);
            below = omega (arith, s.below);
            small = (div-lt_iff_lt-mul {k = 10} {x = rest} {y = 10 ^ suc k} (omega arith)).1 (rw (pow-suc 10 (suc k)) at small);
            bytes =
                rw (put_byte line to b (omega (arith, m.free)) (omega (arith, s.below, s.size, m.inside)))
                (sym (append_assoc (digits (suc k) (rest / 10)) (b ∷ []) (drop to line)) ∙ rw (digits_more (suc k) rest ten) at bytes);
            before = take-set-le (to - 1) line (to - 1) b (omega arith) ∙ alike_less (to - 1) to line old (omega arith) s.before;
            size = length-set line (to - 1) b ∙ s.size;
          }

  -- the first digit
  pub spelt_all : rest < 10 → Put (natural n) at old (to - 1) (set line (to - 1) (48 + rest))
  spelt_all ten =
      let b = 48 + rest in
      let e = put_byte line to b (omega (arith, s.place, m.free)) (omega (arith, s.below, s.size, m.inside)) in
      let all = rw (digits_last s.most rest ten) at s.bytes in
      let long = simp (length-append, length-drop) at (ap length all) in
      record {
        place = omega (arith, long, s.place, s.below, s.size, m.free, m.inside);
        bytes = e ∙ all;
        before = take-set-le (to - 1) line (to - 1) b (omega arith) ∙ alike_less (to - 1) to line old (omega arith) s.before;
        size = length-set line (to - 1) b ∙ s.size;
      }

-- two digits have room
pub spelt_room : {n at rest to : ℕ} {old line : List ℕ} → Room 20 at old → Spelt n at old rest to line → 10 ≤ rest → 2 ≤ to
spelt_room {at = at} {rest = rest} {to = to} m s ten = go s.most s.place s.small
  where
    go : (most : ℕ) → to + 19 ≡ at + most → rest < 10 ^ suc most → 2 ≤ to
    go zero place small = absurd (omega (arith, small, ten))
    go (suc k) place small = omega (arith, place, m.free)

-- two digits more
pub spelt_two :
    {n at rest to : ℕ} {old line : List ℕ} → Room 20 at old → Spelt n at old rest to line → 100 ≤ rest →
    Spelt n at old (rest / 100) (to - 2) (two_put (rest % 100) to line)
spelt_two {rest = rest} {to = to} m s hundred =
    let two : rest % 100 ≡ rest / 10 % 10 * 10 + rest % 10 = mod-mul rest {m = 10} {c = 10} (omega arith) (omega arith) in
    let last : rest % 10 ≡ rest % 100 % 10 = omega (arith, two) in
    let first : rest / 10 % 10 ≡ rest % 100 / 10 = omega (arith, two) in
    let left : rest / 10 / 10 ≡ rest / 100 = omega (arith, two) in
    let place : to - 1 - 1 ≡ to - 2 = omega arith in
    rw (last, first, left, place) at (spelt_more m (spelt_more m s (omega arith)) (omega arith))

-- four digits more
pub spelt_four :
    {n at rest to : ℕ} {old line : List ℕ} → Room 20 at old → Spelt n at old rest to line → 10000 ≤ rest →
    Spelt n at old (rest / 10000) (to - 4) (two_put (rest % 10000 / 100) (to - 2) (two_put (rest % 10000 % 100) to line))
spelt_four {n} {at} {rest} {to} {old} {line} m s many =
    let four : rest % 10000 ≡ rest / 100 % 100 * 100 + rest % 100 = mod-mul rest {m = 100} {c = 100} (omega arith) (omega arith) in
    let last : rest % 100 ≡ rest % 10000 % 100 = omega (arith, four) in
    let first : rest / 100 % 100 ≡ rest % 10000 / 100 = omega (arith, four) in
    let left : rest / 100 / 100 ≡ rest / 10000 = omega (arith, four) in
    let put = two_put (rest % 10000 / 100) (to - 2) (two_put (rest % 10000 % 100) to line) in
    subst (λ (i : ℕ). Spelt n at old (rest / 10000) i put) (omega arith)
    (rw (last, first, left) at (spelt_two m (spelt_two m s (omega arith)) (omega arith)))

-- four digits have room
pub spelt_wide : {n at rest to : ℕ} {old line : List ℕ} → Room 20 at old → Spelt n at old rest to line → 10000 ≤ rest → 4 ≤ to
spelt_wide m s many = omega (arith, spelt_room m (spelt_two m s (omega arith)) (omega arith))

-- the first two digits
pub spelt_both :
    {n at rest to : ℕ} {old line : List ℕ} → Room 20 at old → Spelt n at old rest to line → 10 ≤ rest → rest < 100 →
    Put (natural n) at old (to - 2) (two_put rest to line)
spelt_both {to = to} m s ten hundred =
    let place : to - 1 - 1 ≡ to - 2 = omega arith in
    rw place at (spelt_all m (spelt_more m s ten) (omega arith))

-- what the longest numbers take, with the space before them
pub natural_most : (n : ℕ) → length (after_space (natural n)) ≤ 21
unfolding text
natural_most n = omega (arith, digits_most 20 n)

pub integer_most : (x : ℤ) → length (after_space (integer x)) ≤ 22
unfolding text
integer_most (pos n) = omega (arith, digits_most 20 n)
integer_most (negsuc n) = omega (arith, digits_most 20 (suc n))

-- ---- a number's sign
not_below : (n : ℕ) → pos n <ℤ pos 0 → ⊥
not_below n h = omega (arith, lt_in h)

pub size_below : (x : ℤ) → x <ℤ pos 0 → nat_abs x ≡ loss x
size_below (pos n) h = absurd (not_below n h)
size_below (negsuc n) h = refl

pub integer_below : (x : ℤ) → x <ℤ pos 0 → integer x ≡ text "-" ++ natural (nat_abs x)
integer_below (pos n) h = absurd (not_below n h)
integer_below (negsuc n) h = refl

pub integer_above : (x : ℤ) → pos 0 ≤ℤ x → integer x ≡ natural (nat_abs x)
integer_above (pos n) h = refl
integer_above (negsuc n) h = absurd h.le
