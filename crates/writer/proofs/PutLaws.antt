-- Laws of the definitions in specs/Put.antt.
use mathlib.Core.Path.{◌≡◌, refl, sym, ◌∙◌, ap, ap₂}
use mathlib.Core.List.{List, [], ◌∷◌, ◌++◌, append_assoc}
use Prim.Native.Nat.{ℕ, zero, suc, ◌+◌, ◌*◌, ◌/◌, ◌%◌, ◌^◌, ◌≤◌, ◌<◌}
use native.Mathlib.Numerals.{add-one}
use native.Mathlib.Nat.{
  zero-add,
  add-zero,
  suc-add,
  add_assoc,
  mul_comm,
  mul_assoc,
  mul-suc,
  mul-le-mul_left,
  pow-succ',
  div-one,
  div-div-eq-div-mul,
  mod-eq_of_lt,
  mod-add-div,
  le_antisymm,
}
use native.Mathlib.Omega.{arith}
use lib.ListN.{length, take, drop, set, length-append, length-drop, take-append-drop}
use lib.Seq.{sets, sets-eq, take_at, drop_at, length-take-le, drop-drop}
use Rattle.rules.specs.Laid.{bytes, strung}
use Rattle.laws.proofs.LaidLaws.{bytes_length, strung_length, strung_more}
use Rattle.writer.specs.Put.{put}

pub put_none : (at : ℕ) (old : List ℕ) → put at [] old ≡ old
unfolding put
put_none at old = rw (add-zero at) (take-append-drop at old)

pub put_length : (at : ℕ) (xs old : List ℕ) → at + length xs ≤ length old → length (put at xs old) ≡ length old
unfolding put
put_length at xs old h =
    simp (length-append, length-drop) (omega (arith, length-take-le at old (omega arith)))

-- stores in a row
pub put_stores : (at : ℕ) (xs old : List ℕ) → at + length xs ≤ length old → sets old at xs ≡ put at xs old
unfolding put
put_stores at xs old h = sets-eq xs old at h ∙ append_assoc (take at old) xs (drop (at + length xs) old)

-- one piece behind another is both at once
pub put_behind : (at : ℕ) (xs ys old : List ℕ) → at + (length xs + length ys) ≤ length old → put (at + length xs) ys (put at xs old) ≡ put at (xs ++ ys) old
unfolding put
put_behind at xs ys old h =
    let front = take at old in
    let end = at + length xs in
    let rest = drop end old in
    let long : length (front ++ xs) ≡ end = length-append front xs ∙ ap (λ (n : ℕ). n + length xs) (length-take-le at old (omega arith)) in
    rw (
      ← append_assoc front xs rest,
      take_at (front ++ xs) rest end long,
      ← drop-drop (length ys) end ((front ++ xs) ++ rest),
      drop_at (front ++ xs) rest end long,
      drop-drop (length ys) end old,
      length-append xs ys,
      ← add_assoc at (length xs) (length ys),
    ) (simp append_assoc)

-- the same of what two calls have left
pub put_next : (at k : ℕ) (xs ys old : List ℕ) {mid new : List ℕ} → length xs ≡ k → at + (k + length ys) ≤ length old → mid ≡ put at xs old →
    new ≡ put (at + k) ys mid → new ≡ put at (xs ++ ys) old
put_next at k xs ys old size room e f =
    f
    ∙ ap (put (at + k) ys) e
    ∙ ap (λ (n : ℕ). put (at + n) ys (put at xs old)) (sym size)
    ∙ put_behind at xs ys old (omega arith)

-- ---- a number's bytes
-- what stands above its bytes does not count
bytes_high : (n x y : ℕ) → bytes n (x + 256 ^ n * y) ≡ bytes n x
unfolding bytes
bytes_high zero x y = refl
bytes_high (suc n) x y =
    let e : 256 ^ suc n * y ≡ 256 * (256 ^ n * y) = ap (λ (k : ℕ). k * y) (pow-succ' 256 n) ∙ mul_assoc 256 (256 ^ n) y in
    let low : (x + 256 ^ suc n * y) % 256 ≡ x % 256 = omega arith in
    let high : (x + 256 ^ suc n * y) / 256 ≡ x / 256 + 256 ^ n * y = omega arith in
    ap₂ ◌∷◌ low (ap (bytes n) high ∙ bytes_high n (x / 256) y)

-- m bytes, and n more
bytes_more : (m n x : ℕ) → bytes (m + n) x ≡ bytes m x ++ bytes n (x / 256 ^ m)
unfolding bytes
bytes_more zero n x = ap₂ bytes (zero-add n) (sym (div-one x))
bytes_more (suc m) n x =
    ap (λ (k : ℕ). bytes k x) (suc-add m n)
    ∙ ap (λ (l : List ℕ). x % 256 ∷ l) (bytes_more m n (x / 256) ∙ ap (λ (y : ℕ). bytes m (x / 256) ++ bytes n y)
    (div-div-eq-div-mul x 256 (256 ^ m) ∙ ap (λ (k : ℕ). x / k) (sym (pow-succ' 256 m))))

bytes_parts : (m n x : ℕ) → bytes m (x % 256 ^ m) ++ bytes n (x / 256 ^ m) ≡ bytes (m + n) x
bytes_parts m n x =
    ap (λ (l : List ℕ). l ++ bytes n (x / 256 ^ m)) (sym (bytes_high m (x % 256 ^ m) (x / 256 ^ m)) ∙ ap (bytes m) (mod-add-div x (256 ^ m)))
    ∙ sym (bytes_more m n x)

pub put_one : (at x : ℕ) (old : List ℕ) → x < 256 → at + 1 ≤ length old → set old at x ≡ put at (bytes 1 x) old
unfolding bytes
put_one at x old h room = ap (set old at) (sym (mod-eq_of_lt h)) ∙ put_stores at (bytes 1 x) old room

pub put_two : (at x : ℕ) (old : List ℕ) → at + 2 ≤ length old → set (set old at (x % 256)) (at + 1) (x / 256 % 256) ≡ put at (bytes 2 x) old
unfolding bytes
put_two at x old h = rw (add-one at) (put_stores at (bytes 2 x) old h)

pub put_four : (at x : ℕ) (old : List ℕ) → at + 4 ≤ length old →
    set (set (set (set old at (x % 256)) (at + 1) (x / 256 % 256)) (at + 2) (x / 65536 % 256)) (at + 3) (x / 16777216 % 256) ≡ put at (bytes 4 x) old
unfolding bytes
put_four at x old h =
    let second : x / 65536 ≡ x / 256 / 256 = omega arith in
    let third : x / 16777216 ≡ x / 256 / 256 / 256 = omega arith in
    let two : at + 2 ≡ suc (suc at) = omega arith in
    let three : at + 3 ≡ suc (suc (suc at)) = omega arith in
    rw (add-one at, two, three, second, third) (put_stores at (bytes 4 x) old h)

-- the number by another name
pub put_as : (w at : ℕ) (old : List ℕ) {new : List ℕ} {x y : ℕ} → x ≡ y → new ≡ put at (bytes w x) old → new ≡ put at (bytes w y) old
put_as w at old e f = f ∙ ap (λ (z : ℕ). put at (bytes w z) old) e

-- by halves
pub put_eight : (at x : ℕ) (old : List ℕ) {mid new : List ℕ} → at + 8 ≤ length old → mid ≡ put at (bytes 4 (x % 4294967296)) old →
    new ≡ put (at + 4) (bytes 4 (x / 4294967296)) mid → new ≡ put at (bytes 8 x) old
put_eight at x old h e f =
    let low = bytes 4 (x % 4294967296) in
    let high = bytes 4 (x / 4294967296) in
    put_next at 4 low high old (bytes_length 4 (x % 4294967296)) (omega (arith, bytes_length 4 (x / 4294967296))) e f
    ∙ ap (λ (l : List ℕ). put at l old) (bytes_parts 4 4 x)

-- ---- a run: the first t of n pieces are put
pub record Run (at n : ℕ) (f : ℕ → List ℕ) (old : List ℕ) (t : ℕ) (new : List ℕ) : Type 0 where
  pub count : t ≤ n
  pub size : length new ≡ length old
  pub is : new ≡ put at (strung 0 t f) old

pub run_none : {at n : ℕ} {f : ℕ → List ℕ} {old : List ℕ} → Run at n f old 0 old
unfolding strung
run_none {at} {old} = record { count = omega arith; size = refl; is = sym (put_none at old) }

pub run_all : {at n : ℕ} {f : ℕ → List ℕ} {old new : List ℕ} {t : ℕ} → n ≤ t → Run at n f old t new → new ≡ put at (strung 0 n f) old
run_all {at} {n} {f} {old} {t} h r = r.is ∙ ap (λ (k : ℕ). put at (strung 0 k f) old) (le_antisymm r.count h)

-- the next piece behind them, of w bytes as each
pub run_more : (w : ℕ) {at n : ℕ} {f : ℕ → List ℕ} {old mid new : List ℕ} {t : ℕ} → ((j : ℕ) → length (f j) ≡ w) → at + w * n ≤ length old → t < n →
    Run at n f old t mid → new ≡ put (at + w * t) (f t) mid → Run at n f old (t + 1) new
run_more w {at} {n} {f} {old} {mid} {new} {t} each room h r e =
    let less : w * (t + 1) ≤ w * n = mul-le-mul_left w (omega arith) in
    let more : w * (t + 1) ≡ w * t + w = ap (λ (k : ℕ). w * k) (add-one t) ∙ mul-suc w t in
    record {
      count = omega arith;
      size = ap length e ∙ put_length (at + w * t) (f t) mid (omega (arith, each t, r.size)) ∙ r.size;
      is =
          put_next at (w * t) (strung 0 t f) (f t) old (strung_length 0 t w f each ∙ mul_comm t w) (omega (arith, each t)) r.is e
          ∙ ap (λ (l : List ℕ). put at l old) (ap (λ (j : ℕ). strung 0 t f ++ f j) (sym (zero-add t)) ∙ sym (strung_more 0 t f));
    }
