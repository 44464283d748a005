-- A file's points in blocks, each converted into a target of zeros.
use Rattle.std.specs.Prelude.{◌∷◌, ◌+◌, ◌*◌, ◌/◌, ℤ, pos, negsuc}
use Rattle.common.specs.Logic.{cond, List, [], None, Some, Option, ℕ, min, max, eqb, leb, replicate}
use Rattle.common.specs.Refusal.{Outcome}
use Rattle.buffer_conversion.specs.Conversion.{convert_into_range}
use Rattle.plans.specs.Plan.{Plan}
use Rattle.layout.specs.Layout.{Layout}
use Rattle.point_buffer.specs.Places.{point_bytes}
use Rattle.point_buffer.specs.declared.PointRange.{PointRange}
use Rattle.point_buffer.specs.declared.Storage.{Storage}

-- a length as C gives it
unfoldable pub natural_of : ℤ → ℕ
natural_of (pos n) = n
natural_of (negsuc n) = 0

-- what a file has for each point, as a number of 16 bits, which cuts no sound layout's off
unfoldable pub point_size_of : Layout → Storage → ℕ
point_size_of l s = min (point_bytes l s) 65535

-- a file of so many bytes has length / size points, if it has whole ones only; where a point has no byte, an empty file has none
unfoldable pub points_in : ℕ → ℕ → Option ℕ
points_in length size = cond (eqb (length / size * size) length) (Some (length / size)) None

-- the bytes of so many points; a file has at most 2 ^ 63 - 1
unfoldable pub bytes_of : ℕ → ℕ → Option ℕ
bytes_of points size = cond (leb (points * size) 9223372036854775807) (Some (points * size)) None

-- as many points as fit the bytes of a block, 262,144 of source and as many of target
unfoldable pub points_per_block : ℕ → ℕ → ℕ
points_per_block source target = 262144 / max (max source target) 1

abbrev pub zeros : ℕ → List ℕ
zeros n = replicate n 0

-- all of n points
abbrev pub whole : Storage → ℕ → PointRange
whole s n = record { storage = s; count = n; start = 0; end = n }

-- a block of n points of the storage a, converted into a target of the storage b of so many bytes that are zero
unfoldable pub block_of : Plan → Storage → Storage → ℕ → List ℕ → ℕ → Outcome (List ℕ)
block_of p a b n source bytes = convert_into_range p source (whole a n) (zeros bytes) (whole b n)

-- f of blocks of so many points each, one after another from the point first on, added up
unfoldable pub added_up : (ℕ → ℕ → ℕ) → ℕ → List ℕ → ℕ
added_up f first [] = 0
added_up f first (n ∷ ns) = f first n + added_up f (first + n) ns
