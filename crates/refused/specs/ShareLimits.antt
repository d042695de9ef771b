-- The share's limits (01, The share), which no book passes: a total T to 1,000,000,000,000, weights that sum to 6,010,000,000,000,000,000, and room for an
-- amount to each weight. The number of the refusal, 0 where T is shared.
use Rattle.std.specs.Prelude.{◌≡◌, refl, [], ◌∷◌, ℕ}
use Rattle.rules.specs.Refusals.{number, Reply, taken, refused}
use Rattle.rules.specs.Share.{share_reply}
use Rattle.books.specs.Computing.{computing}

abbrev number_of : Reply ℕ → ℕ
number_of (taken unplaced) = 0
number_of (refused r) = number r

pub record ShareLimits : Type 0 where
  pub most_total : number_of (share_reply 1_000_000_000_000 (1 ∷ []) 1) ≡ 0
  pub total_over : number_of (share_reply 1_000_000_000_001 (1 ∷ []) 1) ≡ 5
  -- also where nobody has weight
  pub without_weight : number_of (share_reply 1_000_000_000_001 (0 ∷ []) 1) ≡ 5
  pub most_weight : number_of (share_reply 1 (6_009_999_999_999_999_999 ∷ 1 ∷ []) 2) ≡ 0
  pub weight_over : number_of (share_reply 1 (6_010_000_000_000_000_000 ∷ 1 ∷ []) 2) ≡ 5
  -- also where nothing is shared
  pub nothing_shared : number_of (share_reply 0 (6_010_000_000_000_000_000 ∷ 1 ∷ []) 2) ≡ 5
  -- 12 comes before 5
  pub most_members : number_of (share_reply 10 (1 ∷ 1 ∷ 1 ∷ []) 3) ≡ 0
  pub room_over : number_of (share_reply 10 (1 ∷ 1 ∷ 1 ∷ []) 4) ≡ 0
  pub room_short : number_of (share_reply 10 (1 ∷ 1 ∷ 1 ∷ []) 2) ≡ 12
  pub room_first : number_of (share_reply 1_000_000_000_001 (1 ∷ 1 ∷ 1 ∷ []) 2) ≡ 12
  -- as many left over as there can be: two, of three members with weight
  pub most_left_over : number_of (share_reply 2 (1 ∷ 1 ∷ 1 ∷ []) 3) ≡ 0
  -- what is unplaced, where nobody has weight and where somebody has
  pub unplaced : share_reply 5 (0 ∷ 0 ∷ []) 2 ≡ taken 5
  pub placed : share_reply 5 (0 ∷ 2 ∷ []) 2 ≡ taken 0

pub share_limits : ShareLimits
unfolding computing
share_limits =
    record {
      most_total = refl;
      total_over = refl;
      without_weight = refl;
      most_weight = refl;
      weight_over = refl;
      nothing_shared = refl;
      most_members = refl;
      room_over = refl;
      room_short = refl;
      room_first = refl;
      most_left_over = refl;
      unplaced = refl;
      placed = refl;
    }
