-- What proofs/WordsBook.antt speaks of.
use Rattle.std.specs.Prelude.{◌≡◌, List, ℕ, suc, ◌+◌, ◌-◌, ◌≤◌, ◌<◌}
use Rattle.rules.specs.declared.Located.{Located}
use Rattle.rules.specs.Refusals.{taken}
use Rattle.rules.specs.Book.{Book}
use Rattle.rules.specs.WholeBook.{book}
use Rattle.interval.specs.declared.Tally.{Tally}
use Rattle.interval.specs.Tally.{before_units}
use Rattle.interval.specs.Lent.{Lent}
use Rattle.interval.specs.Run.{in_run, records_in as run_length}
use Rattle.chain.specs.Taken.{counts_in}
use Rattle.chain.specs.Runs.{RunFrom}
use Rattle.chain.specs.BookWay.{records_in}
use Rattle.chain.specs.Keeps.{BookMeans}
use Rattle.chain.specs.Spelled.{spelled}
use Rattle.answer.specs.BookAnswered.{Asks}
use Rattle.dullavane.specs.Words.{said}
use Rattle.dullavane.specs.Promises.{ContentsCalled}
use Rattle.dullavane.specs.Runs.{UnitsCalled}
use Rattle.demands.specs.WordsChain.{Turn, of_unit, Due, WordsCall, WordsChain}
use Rattle.demands.specs.WordsAnswer.{WordsAnswers}

-- ---- how far the C calls go, and which refusal they meet, on every chain, whatever was refused before
module _ (head : List ℕ) (part : ℕ → List ℕ) (l₀ : Lent) (ws₀ : List ℕ) where
  -- they take all records before record m: the call for the next of them returns 0, so that one comes to m
  pub record WordsTakes (m : ℕ) : Type 0 where
    pub each :
        {n r : ℕ} {ws ws' : List ℕ} {l l' : Lent} {turn : Turn} → n < m → WordsChain head part l₀ ws₀ n ws l → Due (counts_in head) n turn →
        WordsCall (part n) ws l r ws' l' turn → r ≡ 0
    pub there : (ws : List ℕ) × (l : Lent) × WordsChain head part l₀ ws₀ m ws l
    -- and so does the call for a run of units among them
    pub runs :
        {n r : ℕ} {run ws ws' : List ℕ} {l l' : Lent} → n + run_length run ≤ m → n + run_length run ≤ before_units + (counts_in head).units →
        WordsChain head part l₀ ws₀ n ws l → RunFrom part n (run_length run) run → UnitsCalled ws run l r ws' l' →
        (r ≡ 0) × WordsChain head part l₀ ws₀ (n + run_length run) ws' l'

  -- and refuse that one with number, place and t, leaving words and lists as they came; so no chain comes further
  pub record WordsStops (why : Located) (m : ℕ) : Type 0 where
    pub inside : m < records_in head
    pub before : WordsTakes m
    pub refuses :
        {r : ℕ} {ws ws' : List ℕ} {l l' : Lent} {turn : Turn} → WordsChain head part l₀ ws₀ m ws l → Due (counts_in head) m turn →
        WordsCall (part m) ws l r ws' l' turn → (r ≡ said why) × (ws' ≡ ws) × (l' ≡ l)
    -- a run of units that comes to it stops there, and tells the same number and t, with the place in the run
    pub runs_refuse :
        {n r : ℕ} {run ws ws' : List ℕ} {l l' : Lent} → n ≤ m → m < n + run_length run → Due (counts_in head) m of_unit →
        WordsChain head part l₀ ws₀ n ws l → RunFrom part n (suc (m - n)) run → UnitsCalled ws run l r ws' l' →
        (r ≡ said (in_run (m - n + 1) why.refusal)) × WordsChain head part l₀ ws₀ m ws' l'
    pub furthest : {n : ℕ} {ws : List ℕ} {l : Lent} → WordsChain head part l₀ ws₀ n ws l → n ≤ m

  -- the refusal that they meet, of the table of contents or of a record
  pub data WordsMeets (why : Located) : Type 0 where
    at_contents : ContentsCalled head ws₀ (said why) ws₀ → WordsMeets why
    at_record : {m : ℕ} → WordsStops why m → WordsMeets why

-- at the chain's end
pub record WordsSpelled (head : List ℕ) (part : ℕ → List ℕ) (t : Tally) (ws : List ℕ) (l : Lent) : Type 0 where
  pub the_book : Book
  pub spells : book (spelled head part) ≡ taken the_book
  pub means : BookMeans the_book t l
  pub answers : WordsAnswers the_book t ws l
  pub asks : Asks head part the_book
