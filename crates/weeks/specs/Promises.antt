-- What each call promises, whole: the reply, and every lent number, on refusals too.
use Rattle.std.specs.Prelude.{◌≡◌, Bool, List, ℕ, ℤ, length, Result, Ok, Err, ⊤}
use Rattle.rules.specs.declared.Refusal.{Refusal}
use Rattle.rules.specs.declared.RunningWeek.{RunningWeek}
use Rattle.rules.specs.declared.WeekDefault.{WeekDefault}
use Rattle.rules.specs.declared.Whose.{Whose}
use Rattle.rules.specs.Refusals.{Reply, taken, refused}
use Rattle.rules.specs.Week.{interval, list_reply}
use Rattle.rules.specs.RunningWeek.{add_reply, read_reply}
use Rattle.rules.specs.WeekRoster.{roster_reply, counts_after, defaults_after}

-- what the code answers for the definitions' replies
abbrev pub told_of : Reply WeekDefault → Result WeekDefault Refusal
told_of (taken d) = Ok d
told_of (refused r) = Err r

abbrev pub added_of : Reply RunningWeek → Result RunningWeek Refusal
added_of (taken w) = Ok w
added_of (refused r) = Err r

abbrev pub written_of : {A : Type 0} → Reply A → Result ⊤ Refusal
written_of (taken a) = Ok tt
written_of (refused r) = Err r

-- a lent list is written where the call is taken, and else as it came
abbrev pub where_taken : {A B : Type 0} → Reply A → List B → List B → List B
where_taken (taken a) new old = new
where_taken (refused r) new old = old

-- ---- a member's week
pub record WeekPromise (m : Whose) (ps : List ℤ) (bits : List ℕ) (r : Result WeekDefault Refusal) : Type 0 where
  pub reply : r ≡ told_of (list_reply m ps bits)

-- ---- the running week
pub record AddPromise (m : Whose) (live : Bool) (p : ℤ) (week : RunningWeek) (r : Result RunningWeek Refusal) : Type 0 where
  pub reply : r ≡ added_of (add_reply m (interval live p) week)

pub record ReadPromise (m : Whose) (week : RunningWeek) (r : Result WeekDefault Refusal) : Type 0 where
  pub reply : r ≡ told_of (read_reply m week)

module _ (n : ℕ) (ms : List ℕ) (ps : List ℤ) (bits counts : List ℕ) (defaults : List ℤ) where
  abbrev pub reply_to : Reply (Unit {0})
  reply_to = roster_reply n ms ps bits (length counts) (length defaults)

  pub record RosterPromise (r : Result ⊤ Refusal) (counts' : List ℕ) (defaults' : List ℤ) : Type 0 where
    pub reply : r ≡ written_of reply_to
    pub counted : counts' ≡ where_taken reply_to (counts_after n ms ps bits counts) counts
    pub averaged : defaults' ≡ where_taken reply_to (defaults_after n ms ps bits defaults) defaults
