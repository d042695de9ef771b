-- Cents (01, The rules; source document 004, report 7). Charges are negative.
use Rattle.std.specs.Prelude.{Bool, cond, not, ◌&&◌, List, map, ℕ, ◌*◌, min, eqb, leb, ℤ, pos, neg_ℤ}
use Rattle.integers.specs.Pairs.{loss}
use Rattle.integers.specs.Nearest.{nearestℕ}
use Rattle.integers.specs.Totals.{totalℕ}
use Rattle.rules.specs.Book.{Requirement}
use Rattle.rules.specs.Members.{Member}
use Rattle.rules.specs.Share.{share_of}
use Rattle.rules.specs.Factors.{helpful, unhelpful}

-- the nearest of price·RCR/90,000
abbrev pub priced : ℕ → ℕ → ℕ
priced price rcr = nearestℕ (price * rcr) 90_000

abbrev pub any_weight : List ℕ → Bool
any_weight ws = leb 1 (totalℕ (λ w. w) ws)

-- the pool; 0 if either sign has no member
abbrev pub pool_of : Requirement → ℕ → List Member → ℕ
pool_of q rcr ms = cond (any_weight (helpful ms) && any_weight (unhelpful ms)) (priced q.price rcr) 0

-- the nearest of cost·used/enabled, used capped at enabled; 0 if enabled is 0 or any of its regions is unreliable in that direction
abbrev pub used_pool_of : Requirement → Bool → ℕ
used_pool_of q reliable =
    cond (reliable && not (eqb q.enabled 0)) (nearestℕ (q.cost * min q.used q.enabled) q.enabled) 0

-- the weights of the used pool: negative performances with used defaults standing in; of the unused pool: everybody's unused defaults
abbrev pub used_weights : List Member → List ℕ
used_weights ms = map (λ m. loss m.used) ms

abbrev pub unused_weights : List Member → List ℕ
unused_weights ms = map (λ m. loss m.unused) ms

abbrev pub charge : ℕ → List ℕ → ℕ → ℤ
charge T ws i = neg_ℤ (pos (share_of T ws i))
