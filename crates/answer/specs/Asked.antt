-- What a function is lent and asked, as a tally, as what is lent and as a requirement: no other field of them is read.
use Rattle.std.specs.Prelude.{List, [], ℕ, ℤ}
use Rattle.rules.specs.declared.Direction.{Direction}
use Rattle.rules.specs.Book.{Requirement}
use Rattle.interval.specs.declared.Tally.{Tally}
use Rattle.interval.specs.Lent.{Lent, lent_answer}

-- units, bad-unit percent and interval number
abbrev pub tally_of : ℕ → ℕ → ℕ → Tally
tally_of units percent interval =
    record { units = units; requirements = 0; records = 0; least = 0; smoothing = 0; limit = 0; percent = percent; interval = interval }

abbrev pub no_lists : Lent
no_lists = record { measures = []; sums = []; figures = []; numbers = []; homes = []; rows = []; groups = []; deviations = [] }

-- measures, sums, figures, homes and rows; a list that is not read is empty
abbrev pub lent : List ℤ → List ℤ → List ℤ → List ℕ → List ℤ → Lent
lent ms ss gs hs rs = lent_answer no_lists ms ss gs hs rs

-- figures, homes and rows: all that the members are made of
abbrev pub lent_members : List ℤ → List ℕ → List ℤ → Lent
lent_members gs hs rs = lent [] [] gs hs rs

-- a requirement, of which RCR and the members ask for direction and region set alone
abbrev pub asked : Direction → ℕ → Requirement
asked d set = record { number = 0; set = set; direction = d; price = 0; cost = 0; enabled = 0; used = 0 }
