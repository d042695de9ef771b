-- Laws of the definitions in specs/Promises.antt.
use Rattle.std.specs.Prelude.{Result, ⊤}
use mathlib.Core.Path.{◌≡◌, sym, ◌∙◌}
use mathlib.Core.Bool.{Bool}
use mathlib.Core.List.{List}
use Prim.Native.Nat.{ℕ}
use lib.IntN.{ℤ}
use Rattle.rules.specs.declared.Refusal.{Refusal}
use Rattle.rules.specs.declared.RunningWeek.{RunningWeek}
use Rattle.rules.specs.declared.WeekDefault.{WeekDefault}
use Rattle.rules.specs.declared.Whose.{Whose}
use Rattle.rules.specs.WeekRoster.{whose_of}
use Rattle.weeks.specs.Promises.{AddPromise, ReadPromise, RosterPromise, WeekPromise}

pub week_only : {m : Whose} {ps : List ℤ} {bits : List ℕ} {r r' : Result WeekDefault Refusal} → WeekPromise m ps bits r → WeekPromise m ps bits r' → r ≡ r'
week_only a b = a.reply ∙ sym b.reply

pub add_only : {m : Whose} {live : Bool} {p : ℤ} {week : RunningWeek} {r r' : Result RunningWeek Refusal} → AddPromise m live p week r → AddPromise m live p week r' → r ≡ r'
add_only a b = a.reply ∙ sym b.reply

pub read_only : {m : Whose} {week : RunningWeek} {r r' : Result WeekDefault Refusal} → ReadPromise m week r → ReadPromise m week r' → r ≡ r'
read_only a b = a.reply ∙ sym b.reply

-- ---- a roster's week
pub whose_of_only : (number : ℕ) {r r' : Whose} → r ≡ whose_of number → r' ≡ whose_of number → r ≡ r'
whose_of_only number a b = a ∙ sym b

module _ (n : ℕ) (ms : List ℕ) (ps : List ℤ) (bits counts : List ℕ) (defaults : List ℤ) where
  pub roster_only :
      {r r' : Result ⊤ Refusal} {counts' counts'' : List ℕ} {defaults' defaults'' : List ℤ} → (RosterPromise n ms ps bits counts defaults) r counts' defaults' →
      (RosterPromise n ms ps bits counts defaults) r' counts'' defaults'' →
      (r ≡ r') × (counts' ≡ counts'') × (defaults' ≡ defaults'')
  roster_only a b = (a.reply ∙ sym b.reply, a.counted ∙ sym b.counted, a.averaged ∙ sym b.averaged)
