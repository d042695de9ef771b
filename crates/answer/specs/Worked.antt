-- The answer as its parts give it, once every test has been passed: RCR, the pools, the shares over the members' numbers. It is the answer that what is
-- kept gives, with the lines' numbers in the columns.
use Rattle.answer.specs.declared.Answer.{Answer}
use Rattle.answer.specs.declared.shares.Paid.{Paid}
use Rattle.rules.specs.declared.Refusal.{Refusal}
use Rattle.std.specs.Prelude.{◌≡◌, true, ℕ, ◌≤◌, Result, Ok, Err}
use Rattle.rules.specs.declared.Standing.{Standing}
use Rattle.rules.specs.Quantities.{price_limit, cost_limit, amount_limit}
use Rattle.rules.specs.Book.{Requirement}
use Rattle.interval.specs.declared.Tally.{Tally}
use Rattle.interval.specs.Lent.{Lent}
use Rattle.kept.specs.Kept.{kept_answer}
use Rattle.kept.specs.Range.{kept_fine}
use Rattle.book.specs.declared.RequirementFields.{RequirementFields}
use Rattle.answer.specs.Lent.{Long}
use Rattle.answer.specs.declared.Member.{Member as Sharer}
use Rattle.answer.specs.declared.charges.Charges.{Charges}
use Rattle.answer.specs.declared.rcr.Found.{Found}
use Rattle.answer.specs.Promises.{Columns, columns_long, shown, with_lines}

-- ---- the whole answer
abbrev pub gathered_of : RequirementFields → ℕ → Standing → ℕ → ℕ → Result ℕ Refusal → Result ℕ Refusal → Result Paid Refusal → Result Answer Refusal
gathered_of f rcr s u v (Ok a) (Ok b) (Ok p) =
    Ok (record {
      number = f.number;
      direction = f.direction;
      set = f.set;
      members = p.members;
      residual = s;
      rcr = rcr;
      pool = p.pool;
      used = record { pool = u; unplaced = a };
      unused = record { pool = v; unplaced = b };
    })
gathered_of f rcr s u v (Ok a) (Ok b) (Err x) = Err x
gathered_of f rcr s u v (Ok a) (Err x) p = Err x
gathered_of f rcr s u v (Err x) b p = Err x

abbrev pub gathered_answer : RequirementFields → Found → Sharer → Charges → Result Paid Refusal → Result Answer Refusal
gathered_answer f x m c p = gathered_of f x.rcr m.standing c.used.pool c.unused.pool c.used.reply c.unused.reply p

abbrev pub required : RequirementFields → Requirement
required f = record { number = f.number; set = f.set; direction = f.direction; price = f.price; cost = f.cost; enabled = f.enabled; used = f.used }

-- ---- what the tests and the record's rules show
pub record Passed (t : Tally) (f : RequirementFields) (l : Lent) (c : Columns) : Type 0 where
  pub percent : t.percent ≤ 100
  pub set : f.set ≤ 31
  pub price : f.price ≤ price_limit
  pub cost : f.cost ≤ cost_limit
  pub enabled : f.enabled ≤ amount_limit
  pub long : Long t.units l
  pub columns : columns_long t.units c ≡ true
  pub fine : kept_fine t l ≡ true

pub record WorkedOut (t : Tally) (f : RequirementFields) (l : Lent) (old : Columns) (r : Result Answer Refusal) (new : Columns) : Type 0 where
  pub reply : r ≡ Ok (shown (required f) (kept_answer t l (required f)))
  pub written : new ≡ with_lines (kept_answer t l (required f)) old
