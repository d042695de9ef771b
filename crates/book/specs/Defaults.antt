-- The three defaults of a direction, as the readers hand them on.
use Rattle.std.specs.Prelude.{Bool, ◌&&◌}
use Rattle.rules.specs.Book.{Defaults}
use Rattle.rules.specs.Groups.{none}
use Rattle.book.specs.declared.Three.{Three}

abbrev pub three_of : Defaults → Three
three_of f = record { payment = f.payment; used = f.used; unused = f.unused }

-- none is set
abbrev pub none_in_three : Three → Bool
none_in_three f = none f.payment && (none f.used && none f.unused)
