-- A write stores one attribute of each of n points: size bytes from base + i * stride on hold the value of point i. Nothing here asks
-- where the values come from, or whether points are interleaved.
use Rattle.std.specs.Prelude.{◌&&◌, ◌∷◌, ◌+◌, ◌-◌, ◌*◌, ◌%◌, ◌/◌}
use Rattle.common.specs.Logic.{Bool, cond, List, [], ℕ, leb, ltb, length, get_or}
use Rattle.common.specs.Lists.{tabulate}
use Rattle.writes.specs.declared.Strided.{Strided}

-- where point i's bytes begin
abbrev pub begins : Strided → ℕ → ℕ
begins a i = a.base + i * a.stride

-- the same from the point d on
abbrev pub starting_at : ℕ → Strided → Strided
starting_at d a = record { base = begins a d; stride = a.stride }

pub record Write : Type 0 where
  pub place : Strided
  pub size : ℕ
  pub value : ℕ → List ℕ

-- the point in whose bytes byte k lies, and which of them it is, if it lies in one's
abbrev pub point_of : Write → ℕ → ℕ
point_of w k = (k - w.place.base) / w.place.stride

abbrev pub byte_of : Write → ℕ → ℕ
byte_of w k = (k - w.place.base) % w.place.stride

-- it does, and the point is one of the n
unfoldable pub is_in : Write → ℕ → ℕ → Bool
is_in w n k = leb w.place.base k && (ltb (point_of w k) n && ltb (byte_of w k) w.size)

-- byte k: that of the value in whose bytes it lies, and where it lies in none as it was
unfoldable pub byte_after : List Write → ℕ → List ℕ → ℕ → ℕ
byte_after [] n t k = get_or t k 0
byte_after (w ∷ ws) n t k = cond (is_in w n k) (get_or (w.value (point_of w k)) (byte_of w k) 0) (byte_after ws n t k)

-- the whole buffer
unfoldable pub written : List Write → ℕ → List ℕ → List ℕ
written ws n t = tabulate (byte_after ws n t) (length t)

-- the same write, without the first d points
abbrev pub write_from : ℕ → Write → Write
write_from d w = record { place = starting_at d w.place; size = w.size; value = λ i. w.value (d + i) }
