-- Laws of the definitions in specs/Numbers.antt.
use mathlib.Core.Path.{◌≡◌, sym, ◌∙◌}
use mathlib.Core.List.{List}
use Prim.Native.Nat.{ℕ, ◌+◌, ◌*◌, ◌^◌, ◌≤◌}
use native.Mathlib.Nat.{mul_comm, mul-zero}
use native.Mathlib.Omega.{arith}
use lib.IntN.{ℤ}
use lib.ListN.{length}
use Rattle.rules.specs.Bytes.{number_at}
use Rattle.laws.proofs.BytesLaws.{number_parts, number_past}
use Rattle.little.specs.Numbers.{Turned, Unsigned}

-- a number of twice as many bytes, by halves; past the end the upper half is 0
pub halves : (m : ℕ) {place : ℕ} {bytes : List ℕ} {a b : ℕ} → Unsigned m place bytes a → Unsigned m (place + m) bytes b
    → Unsigned (m + m) place bytes (a + b * 256 ^ m)
halves m {place} {bytes} {a} {b} low high =
    record { reply = rw (mul_comm b (256 ^ m), low.reply, high.reply) (sym (number_parts m m place bytes)) }

pub lower_half : (m : ℕ) {place : ℕ} {bytes : List ℕ} {a : ℕ} → length bytes ≤ place + m → Unsigned m place bytes a → Unsigned (m + m) place bytes a
lower_half m {place} {bytes} {a} h low =
    let all = number_parts m m place bytes in
    let none : 256 ^ m * number_at m (place + m) bytes ≡ 0 = rw (number_past m (place + m) bytes h) (mul-zero (256 ^ m)) in
    record { reply = omega (arith, all, none, low.reply) }

-- any two replies that a promise allows are equal
unsigned_only : {n place : ℕ} {bytes : List ℕ} {r s : ℕ} → Unsigned n place bytes r → Unsigned n place bytes s → r ≡ s
unsigned_only a b = a.reply ∙ sym b.reply

turned_only : {n x : ℕ} {r s : ℤ} → Turned n x r → Turned n x s → r ≡ s
turned_only a b = a.reply ∙ sym b.reply

pub u8_at_only : {place : ℕ} {bytes : List ℕ} {r s : ℕ} → Unsigned 1 place bytes r → Unsigned 1 place bytes s → r ≡ s
u8_at_only = unsigned_only

pub u16_at_only : {place : ℕ} {bytes : List ℕ} {r s : ℕ} → Unsigned 2 place bytes r → Unsigned 2 place bytes s → r ≡ s
u16_at_only = unsigned_only

pub u32_at_only : {place : ℕ} {bytes : List ℕ} {r s : ℕ} → Unsigned 4 place bytes r → Unsigned 4 place bytes s → r ≡ s
u32_at_only = unsigned_only

pub u64_at_only : {place : ℕ} {bytes : List ℕ} {r s : ℕ} → Unsigned 8 place bytes r → Unsigned 8 place bytes s → r ≡ s
u64_at_only = unsigned_only

pub signed_four_only : {x : ℕ} {r s : ℤ} → Turned 4 x r → Turned 4 x s → r ≡ s
signed_four_only = turned_only

pub signed_eight_only : {x : ℕ} {r s : ℤ} → Turned 8 x r → Turned 8 x s → r ≡ s
signed_eight_only = turned_only
