-- Laws of the definitions in specs/Requirement.antt.
use Rattle.std.specs.Prelude.{Result}
use Rattle.rules.specs.declared.Refusal.{Refusal}
use Rattle.book.specs.declared.RequirementFields.{RequirementFields}
use mathlib.Core.Path.{◌≡◌, sym, ◌∙◌}
use mathlib.Core.Bool.{Bool}
use mathlib.Core.List.{List}
use Prim.Native.Nat.{ℕ}
use Rattle.book.specs.Requirement.{RequirementPromise}

pub read_requirement_only : {least : ℕ} {last : Bool} {part : List ℕ} {r s : Result RequirementFields Refusal} → RequirementPromise least last part r
    → RequirementPromise least last part s → r ≡ s
read_requirement_only a b = a.reply ∙ sym b.reply
