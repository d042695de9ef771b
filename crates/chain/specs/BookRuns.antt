-- What proofs/BookRuns.antt speaks of.
use Rattle.std.specs.Prelude.{ℕ, ◌+◌, ◌*◌, ◌-◌, take, List}
use Rattle.rules.specs.declared.Located.{Located}
use Rattle.rules.specs.Contents.{unit_size}
use Rattle.interval.specs.declared.Step.{Step}
use Rattle.interval.specs.Lent.{Lent}
use Rattle.interval.specs.Run.{in_run}
use Rattle.chain.specs.Chain.{Chain, Refused}
use Rattle.chain.specs.BookRecords.{part_of}

-- the run of k units that is cut out of a book from record n on
abbrev pub run_of : List ℕ → ℕ → ℕ → List ℕ
run_of bs n k = take (unit_size * k) (part_of bs n)

-- a run from record n on that comes to record m, which the calls refuse: the records before it are taken, and the refusal names its place in the run
module _ (head : List ℕ) (part : ℕ → List ℕ) (l₀ : Lent) where
  pub record RunStops (n m : ℕ) (why : Located) (r : Step) (l' : Lent) : Type 0 where
    pub there : Chain head part l₀ m r.tally l'
    pub reply : Refused r (in_run (m - n + 1) why.refusal)
