-- `number_at` meets its contract.
use Rattle.std.specs.Prelude.{◌≡◌, ◌≤◌, ◌<◌, ◌+◌, ◌*◌, ◌^◌}
use Rattle.common.specs.Logic.{sym, refl, List, ℕ, arith}
use lib.Pow.{pow_mono}
use Rattle.format.specs.Bits.{bit_at, number_at}
use Rattle.format.proofs.Fields.{bit-small, number_small, number_more}
use Rattle.layout_sheets.proofs.sheet_reader.number_at.Goals as goal

-- below 64 bits the number with one bit more fits
room : (s : List ℕ) (p k w : ℕ) → k < w → w ≤ 64 → number_at s p k * 2 + 1 < 2 ^ 64
room s p k w l h = let e : 2 ^ k ≤ 2 ^ 63 = pow_mono {i = k} {j = 63} (omega arith) in omega (arith, number_small s p k)

pub overflow_mul-value : goal.overflow_mul-value
overflow_mul-value c =
    let r = room c.args.sheet.now (8 * c.args.byte + c.args.bit) c.loop-k.k c.args.width (omega arith) c.requires.0 in
    omega (arith, c.loop-k.invariant)

pub overflow_add-value : goal.overflow_add-value
overflow_add-value c =
    let r = room c.args.sheet.now (8 * c.args.byte + c.args.bit) c.loop-k.k c.args.width (omega arith) c.requires.0 in
    omega (arith, c.loop-k.invariant, c.bit_at.ensures, bit-small c.args.sheet.now (8 * c.args.byte + (c.args.bit + c.loop-k.k)))

none : (s : List ℕ) (p : ℕ) → ◌≡◌ {A = ℕ} 0 (number_at s p 0)
unfolding number_at
none s p = refl

turn : (s : List ℕ) (p q k : ℕ) {v b : ℕ} → v ≡ number_at s p k → b ≡ bit_at s q → q ≡ p + k → v * 2 + b ≡ number_at s p (k + 1)
turn s p q k h e m = rw (h, e, m) (sym (number_more s p k))

pub loop-k-init : goal.loop-k-init
loop-k-init c = none _ _

pub loop-k-preserved : goal.loop-k-preserved
loop-k-preserved c = turn _ _ _ _ c.loop-k.invariant c.bit_at.ensures (omega arith)
