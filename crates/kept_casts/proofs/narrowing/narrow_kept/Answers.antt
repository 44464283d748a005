-- `kept_casts::narrowing::narrow_kept` meets its contract.
use Rattle.std.specs.Prelude.{◌≡◌, ◌<◌, ◌+◌, ◌-◌, ◌/◌, ◌^◌, ◌%◌}
use Rattle.common.specs.Logic.{refl, ℕ, mod-lt, lt_of_le_of_lt, lit<}
use Rattle.std.proofs.Common.{pow_pos, div-le_self}
use Rattle.numbers.proofs.TwosComplement.{wrap_back}
use Rattle.kept_casts.proofs.Narrow.{in-normal, by-normal, by-rest}
use Rattle.kept_casts.proofs.narrowing.narrow_kept.Goals as goal

-- how far the field x lies above k, counted round
abbrev from_field : ℕ → ℕ → ℕ
from_field x k = (x + (2 ^ 64 - k)) % 2 ^ 64

back : (a k : ℕ) → a < 2 ^ 64 → k < 2 ^ 64 → (from_field (a / 2 ^ 52) k + k) % 2 ^ 64 ≡ a / 2 ^ 52
back a k A K = wrap_back (a / 2 ^ 52) k (lt_of_le_of_lt (div-le_self a (2 ^ 52)) A) K

pub returns-then-x-lt254 : goal.returns-then-x-lt254
returns-then-x-lt254 c =
    let a = c.low_bits-a.result in
    let e = from_field (a / 2 ^ 52) 897 in
    let n = in-normal c.args.b a _ c.low_bits-a.ensures refl e (mod-lt (a / 2 ^ 52 + (2 ^ 64 - 897)) (pow_pos 64)) (back a 897 c.low_bits-a.type_inv (lit< tt)) c.if-x-lt254.true in
    by-normal c.args.b a _ c.low_bits-a.ensures refl n.0 n.1 _ c.low_bits.ensures

pub returns : goal.returns
returns c =
    let a = c.low_bits-a.result in
    by-rest c.args.b a _ c.low_bits-a.ensures refl (from_field (a / 2 ^ 52) 897) (from_field (a / 2 ^ 52) 862) c.select-shift.result _ _
    (mod-lt (a / 2 ^ 52 + (2 ^ 64 - 897)) (pow_pos 64)) (back a 897 c.low_bits-a.type_inv (lit< tt)) c.if-x-lt254.false
    (mod-lt (a / 2 ^ 52 + (2 ^ 64 - 862)) (pow_pos 64)) (back a 862 c.low_bits-a.type_inv (lit< tt)) c.select-shift.ensures refl refl
