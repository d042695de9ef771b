-- Multiples of a number, and the greatest number of which two are multiples.
use Rattle.std.specs.Prelude.{◌≡◌, ℕ, ◌*◌, ◌<◌}

-- n is a multiple of d
pub record Multiple (d n : ℕ) : Type 0 where
  pub times : ℕ
  pub is : n ≡ times * d

-- g divides a and b, and some times g is a multiple of whatever as many times a and as many times b are multiples of
pub record Common (a b g : ℕ) : Type 0 where
  pub some : 0 < g
  pub left : Multiple g a
  pub right : Multiple g b
  pub spread : (m d : ℕ) → Multiple m (a * d) → Multiple m (b * d) → Multiple m (g * d)
