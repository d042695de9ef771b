-- Laws of the definitions in specs/Defaults.antt.
use mathlib.Core.Path.{◌≡◌, sym, ◌∙◌}
use mathlib.Core.Bool.{Bool}
use Rattle.book.specs.declared.Three.{Three}
use Rattle.book.specs.Defaults.{none_in_three}

pub no_three_only : (three : Three) {r s : Bool} → r ≡ none_in_three three → s ≡ none_in_three three → r ≡ s
no_three_only three a b = a ∙ sym b
