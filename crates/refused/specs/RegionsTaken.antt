-- Where settings and regions are the paper's, the writer takes them whatever comes behind (02, R-4): its tables of units and requirements compute those alone.
use Rattle.std.specs.Prelude.{◌≡◌, refl, Bool, true, false, List, [], ◌∷◌, map, ℕ, eqb, ℤ, nat_abs}
use Rattle.std.proofs.Common.{◌∙◌, ap₂}
use Rattle.integers.specs.Sums.{both, every}
use Rattle.integers.specs.Totals.{all}
use Rattle.rules.specs.declared.Refusal.TheVariants.{TooShort, WrongCount}
use Rattle.rules.specs.Refusals.{LocatedReply, taken, located, unless, ◌>>=◌}
use Rattle.rules.specs.Bytes.{little, listed}
use Rattle.rules.specs.Book.{Book}
use Rattle.rules.specs.FrequencyRecord.{region_in}
use Rattle.rules.specs.Laid.{bytes, strung, laid}
use Rattle.rules.specs.Given.{Given}
use Rattle.rules.specs.Written.{book_laid, regions_given, units_given, requirements_given, book_given, long_enough, counts_fine, written}
use Rattle.books.specs.PaperBook.{paper_book}
use Rattle.books.specs.Told.{told}
use Rattle.refused.specs.HandedIn.{Put, early, late, of_lists, base, in_list, with_all, refusal, PutTogether}

abbrev behind : Given → LocatedReply Book
behind g = do
  us ← units_given 3 0 [] g 0
  qs ← requirements_given 2 0 g 0
  taken (record { settings = (paper_book 7).settings; regions = (paper_book 7).regions; roster = us; requirements = qs })

abbrev refusal_behind : Given → List ℕ
refusal_behind g =
    told (unless (long_enough g 3_068) (located 0 TooShort) (unless (counts_fine g) (located 0 WrongCount) (behind g >>= λ b. taken (book_laid g))))

taken_before : (us : List ℤ) (ms : List ℕ) (rs qs : List ℤ) → book_given (of_lists us ms rs qs) ≡ behind (of_lists us ms rs qs)
unfolding every little listed region_in bytes strung laid regions_given book_given
taken_before us ms rs qs = refl

abbrev is_late : Put → Bool
is_late (early list i x) = false
is_late (late list i x) = true

later : (ps : List Put) (us : List ℤ) (ms : List ℕ) (rs qs : List ℤ) → all is_late ps ≡ true
    → refusal (with_all ps (of_lists us ms rs qs)) ≡ refusal_behind (with_all ps (of_lists us ms rs qs))
unfolding all with_all written
later [] us ms rs qs h = rw (taken_before us ms rs qs)
later (late list i x ∷ ps) us ms rs qs h =
    later ps (in_list (eqb list 0) i x us) (in_list (eqb list 1) i (nat_abs x) ms) (in_list (eqb list 2) i x rs) (in_list (eqb list 3) i x qs) h
later (early list i x ∷ ps) us ms rs qs h = cc

each_later : (pss : List (List Put)) → all (all is_late) pss ≡ true
    → map (λ ps. refusal (with_all ps base)) pss ≡ map (λ ps. refusal_behind (with_all ps base)) pss
unfolding all
each_later [] h = refl
each_later (ps ∷ pss) h =
    let b = both (all is_late ps) (all (all is_late) pss) h in
    ap₂ ◌∷◌ (later ps base.unit_rows base.unit_qualities base.readings base.requirement_rows b.0) (each_later pss b.1)

pub computed_behind : {pss : List (List Put)} {ns : List (List ℕ)} → all (all is_late) pss ≡ true → map (λ ps. refusal_behind (with_all ps base)) pss ≡ ns
    → PutTogether pss ns
computed_behind {pss = pss} all_late same = record { refusals = each_later pss all_late ∙ same }
