-- From a reply of the format to what a reader answers.
use Rattle.rules.specs.declared.Refusal.{Refusal}
use Rattle.rules.specs.Refusals.{Reply, taken, refused}

-- the fields, or the refusal
abbrev pub answered : {A B : Type 0} → (A → B) → (Refusal → B) → Reply A → B
answered fields refusing (taken a) = fields a
answered fields refusing (refused r) = refusing r
