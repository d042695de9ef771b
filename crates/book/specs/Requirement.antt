-- What the reader of a requirement record answers and promises.
use Rattle.rules.specs.declared.Refusal.{Refusal}
use Rattle.std.specs.Prelude.{◌≡◌, Bool, ◌&&◌, List, ℕ, leb, Result, Ok, Err}
use Rattle.rules.specs.Quantities.{price_limit, cost_limit, amount_limit}
use Rattle.rules.specs.Refusals.{Reply}
use Rattle.rules.specs.Book.{Requirement}
use Rattle.rules.specs.RequirementRecord.{requirement_record}
use Rattle.book.specs.declared.RequirementFields.{RequirementFields}
use Rattle.book.specs.Replies.{answered}

abbrev pub requirement_of : Requirement → RequirementFields
requirement_of q = record { number = q.number; set = q.set; direction = q.direction; price = q.price; cost = q.cost; enabled = q.enabled; used = q.used }

abbrev pub requirement_answer : Reply Requirement → Result RequirementFields Refusal
requirement_answer reply = answered (λ q. Ok (requirement_of q)) Err reply

pub record RequirementPromise (least : ℕ) (last : Bool) (part : List ℕ) (r : Result RequirementFields Refusal) : Type 0 where
  pub reply : r ≡ requirement_answer (requirement_record least last part)

-- the tests of a requirement's four amounts, in the order of the fields
abbrev pub amounts_fine : Requirement → Bool
amounts_fine q = leb q.price price_limit && leb q.cost cost_limit && leb q.enabled amount_limit && leb q.used amount_limit
