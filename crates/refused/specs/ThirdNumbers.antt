-- Numbers rise from each record to the next, not over the first alone (01, The book): three units and three requirements. Number, place and t of the refusal.
use Rattle.std.specs.Prelude.{◌≡◌, refl, true, List, [], ◌∷◌, map, ℕ, pos}
use Rattle.rules.specs.declared.Direction.TheVariants.{Raise}
use Rattle.rules.specs.declared.Kind.TheVariants.{Generation}
use Rattle.rules.specs.Book.{Unit, Requirement}
use Rattle.rules.specs.WholeBook.{unit_body, requirement_body}
use Rattle.rules.specs.Laid.{strung}
use Rattle.rules.specs.Given.{Given}
use Rattle.rules.specs.Written.{unit_laid, requirement_laid}
use Rattle.rules.specs.Said.{handed}
use Rattle.books.specs.Writing.{flat}
use Rattle.books.specs.PaperBook.{zeros, paper_book}
use Rattle.books.specs.Computing.{computing}
use Rattle.books.specs.Told.{no, told}

abbrev unit : ℕ → Unit
unit n =
    record { number = n; region = 0; kind = Generation; start = pos 0; end = pos 0; defaults = zeros; quality = flat true; group = 0; reading = flat (pos 0) }

abbrev requirement : ℕ → Requirement
requirement n = record { number = n; set = 1; direction = Raise; price = 0; cost = 0; enabled = 0; used = 0 }

-- units and requirements with these numbers, and their bodies
abbrev numbered : List ℕ → Given
numbered ns =
    let paper = paper_book 7 in
    handed (record { settings = paper.settings; regions = paper.regions; roster = map unit ns; requirements = map requirement ns })

abbrev units : List ℕ → List ℕ
units ns = strung 0 3 (unit_laid (numbered ns))

abbrev requirements : List ℕ → List ℕ
requirements ns = strung 0 3 (requirement_laid (numbered ns))

pub record ThirdNumbers : Type 0 where
  pub rising_units : told (unit_body 3 1 0 [] (units (1 ∷ 3 ∷ 4 ∷ []))) ≡ no 0 0 0
  pub third_unit : told (unit_body 3 1 0 [] (units (1 ∷ 3 ∷ 2 ∷ []))) ≡ no 9 3 0
  pub rising_requirements : told (requirement_body 3 1 0 (requirements (1 ∷ 3 ∷ 4 ∷ []))) ≡ no 0 0 0
  pub third_requirement : told (requirement_body 3 1 0 (requirements (1 ∷ 3 ∷ 2 ∷ []))) ≡ no 10 3 0

pub third_numbers : ThirdNumbers
unfolding computing
third_numbers = record { rising_units = refl; third_unit = refl; rising_requirements = refl; third_requirement = refl }
