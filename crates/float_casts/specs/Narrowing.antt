-- What `is_normal` says of a binary64, for the proofs inside the crate: no public contract cites it.
use Rattle.common.specs.Logic.{Bool, false, cond, ℕ, leb, ltb}

-- a is the pattern of a binary64 from 2 ^ -126 to below 2 ^ 128, shifted by one, so without its sign
abbrev pub normal_in32 : ℕ → Bool
normal_in32 a = cond (leb 0x7020_0000_0000_0000 a) (ltb a 0x8fe0_0000_0000_0000) false
