-- What the functions behind `keeps` say, and what their proofs go by, inside the crate: no public contract cites it.
use Rattle.std.specs.Prelude.{◌≡◌, ◌+◌, ◌-◌, ◌*◌, ◌/◌, ◌%◌, ◌^◌, ◌<◌, ℤ, pos, negsuc}
use Rattle.common.specs.Logic.{Bool, true, false, cond, ℕ, zero, suc, ltb}
use Rattle.std.specs.Int.Signed.{mag}
use Rattle.std.specs.Float.{Format}
use Rattle.std.specs.Float.Ieee.{low, hid, ones}
use Rattle.numbers.specs.Casts.{Kind, unsigned, signed, float, signed_of}

-- the integers of w bits with a sign, or without
abbrev pub integer_kind : Bool → ℕ → Kind
integer_kind s w = cond s (signed w) (unsigned w)

-- the integer of the kind whose pattern is x
abbrev pub integer_of : Bool → ℕ → ℕ → ℤ
integer_of s w x = cond s (signed_of w x) (pos x)

-- the integer kind has z
abbrev pub in_range : Kind → ℤ → Bool
in_range (unsigned w) (pos n) = ltb n (2 ^ w)
in_range (unsigned w) (negsuc n) = false
in_range (signed w) z = ltb (mag z) (2 ^ (w - 1))
in_range (float f) z = true

-- the test tells whether A holds
abbrev pub Tells : Bool → Type 0 → Type 0
Tells r A = (r ≡ true → A) × (A → r ≡ true)

-- n is q * 2 ^ j with a q of at most p digits
abbrev pub Short : ℕ → ℕ → Type 0
Short p n = (q : ℕ) × (j : ℕ) × (q < 2 ^ p) × (n ≡ q * 2 ^ j)

-- a finite float's size in units of the format's smallest value, by the exponent's field and the digits
abbrev pub units_of : Format → ℕ → ℕ → ℕ
units_of f zero t = t * 2 ^ 0
units_of f (suc x) t = (hid f + t) * 2 ^ x

-- the float whose pattern without its sign is a has the size n
abbrev pub Size : Format → ℕ → ℕ → Type 0
Size f a n = (a / hid f < ones f) × (units_of f (a / hid f) (a % hid f) ≡ n * 2 ^ low f)

-- it is a whole number below 2 ^ v
abbrev pub Below : Format → ℕ → ℕ → Type 0
Below f a v = (n : ℕ) × (n < 2 ^ v) × Size f a n
