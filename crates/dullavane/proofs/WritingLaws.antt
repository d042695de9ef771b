-- Laws of the definitions in specs/Writing.antt.
use Rattle.std.specs.Prelude.{Result}
use Rattle.rules.specs.declared.Located.{Located}
use mathlib.Core.Path.{◌≡◌, refl, sym, ◌∙◌, ap}
use mathlib.Core.List.{List}
use Prim.Native.Nat.{ℕ, ◌*◌, ◌/◌, ◌%◌}
use native.Mathlib.Omega.{arith}
use lib.ListN.{length}
use Rattle.rules.specs.Refusals.{LocatedReply, taken, refused}
use Rattle.rules.specs.Given.{Given}
use Rattle.rules.specs.Written.{written}
use Rattle.writer.specs.Promise.{write_reply, WritePromise}
use Rattle.dullavane.specs.Writing.{written_told, WriteCalled, answer_told}

told_is : (x : LocatedReply (List ℕ)) → answer_told (write_reply x) ≡ written_told x
told_is (taken bs) = refl
told_is (refused r) = refl

pub write_told : (g : Given) (old : List ℕ) {a : Result ℕ Located} {r : ℕ} {new : List ℕ} → WritePromise g old a new → r ≡ answer_told a → WriteCalled g old r new
write_told g old p e = record { reply = e ∙ ap answer_told p.reply ∙ told_is (written g (length old)); book = p.book }

-- a length is told apart from a refusal: 0 in the lower half, the length above it
pub length_apart : (n : ℕ) → (n * 0x1_0000_0000 % 0x1_0000_0000 ≡ 0) × (n * 0x1_0000_0000 / 0x1_0000_0000 ≡ n)
length_apart n = (omega arith, omega arith)

pub dullavane_write_only : {g : Given} {old : List ℕ} {r s : ℕ} {new other : List ℕ} → WriteCalled g old r new → WriteCalled g old s other →
    (r ≡ s) × (new ≡ other)
dullavane_write_only a b = (a.reply ∙ sym b.reply, a.book ∙ sym b.book)
