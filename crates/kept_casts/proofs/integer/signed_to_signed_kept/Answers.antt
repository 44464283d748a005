-- `kept_casts::integer::signed_to_signed_kept` meets its contract.
use Rattle.std.specs.Prelude.{◌≤◌, ◌<◌, ◌+◌, ◌^◌, ◌%◌}
use Rattle.common.specs.Logic.{◌∙◌, ap₂, true, refl, ℕ, ltb, mod-lt, arith}
use Rattle.std.proofs.Common.{pow_pos}
use Rattle.numbers.specs.Widths.{bits_in}
use Rattle.numbers.proofs.Widths.{width-range}
use Rattle.kept_casts.proofs.Ranges.{signed_all, signed-some}
use Rattle.kept_casts.proofs.Dispatch.{range-kept}
use Rattle.kept_casts.proofs.integer.signed_to_signed_kept.Goals as goal

pub returns-then-bits : goal.returns-then-bits
returns-then-bits c =
    let v = bits_in c.args.from in
    let w = bits_in c.args.to in
    let y = c.args.x % 2 ^ v in
    let l : v ≤ w = omega arith in
    signed_all y v w (width-range c.args.from).0 (mod-lt c.args.x (pow_pos v)) l ∙ range-kept true true v w y (width-range c.args.to).0

pub returns : goal.returns
returns c =
    let v = bits_in c.args.from in
    let w = bits_in c.args.to in
    let y = c.args.x % 2 ^ v in
    let l : w < v = omega arith in
    c.is_below.ensures
    ∙ ap₂ (λ (x k : ℕ). ltb x (2 ^ k)) (c.pattern-2.ensures ∙ ap₂ (λ (x h : ℕ). (x + h) % 2 ^ 64 % 2 ^ v) c.pattern.ensures c.half.ensures) c.bits-3.ensures
    ∙ signed-some y v w (width-range c.args.from).0 (mod-lt c.args.x (pow_pos v)) (width-range c.args.to).0 l (width-range c.args.from).1 _ _ refl refl
    ∙ range-kept true true v w y (width-range c.args.to).0
