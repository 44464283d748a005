-- What `whole_part` and the functions behind it say of a float, for the proofs inside the crate: no public contract cites it.
use Rattle.std.specs.Prelude.{◌≡◌, ◌&&◌, ◌+◌, ◌-◌, ◌*◌, ◌^◌, ◌%◌, ◌/◌, Float}
use Rattle.common.specs.Logic.{Bool, cond, ℕ, min, leb}
use Rattle.std.specs.Float.{nan, inf, fin, Format}
use Rattle.std.specs.Float.Ieee.{emax, low, hid, ones, up, down}

-- its sign s, and n, its distance from 0 towards zero and at most 2 ^ 64 - 1; of a NaN only that n is 0
abbrev pub Truncated : Float → Bool → ℕ → Type 0
Truncated nan s n = n ≡ 0
Truncated (inf t) s n = (t ≡ s) × (n ≡ 2 ^ 64 - 1)
Truncated (fin t m e) s n = (t ≡ s) × (n ≡ min (m * up e / down e) (2 ^ 64 - 1))

-- the whole part of the float from 1/4 on whose pattern is a
abbrev pub whole_of : Format → ℕ → ℕ
whole_of f a = (hid f + a % hid f) * 2 ^ (a / hid f - 1) / 2 ^ low f

-- the pattern a held between those of 1/4 and of `high`; what is no float from 1/4 on, a NaN and a pattern with its sign among them, is 1/4
abbrev pub held_of : Format → ℕ → ℕ → ℕ
held_of f high a = cond (leb ((emax f - 2) * hid f) a && leb a (ones f * hid f)) (min a high) ((emax f - 2) * hid f)
