-- `kept_casts::integer::signed_to_unsigned_kept` meets its contract.
use Rattle.std.specs.Prelude.{◌≡◌, ◌^◌, ◌%◌, ◌-◌}
use Rattle.common.specs.Logic.{◌∙◌, ap₂, true, false, ℕ, ltb, min, mod-lt}
use Rattle.std.proofs.Common.{pow_pos}
use Rattle.numbers.specs.Widths.{bits_in}
use Rattle.numbers.proofs.Widths.{width-range}
use Rattle.kept_casts.proofs.Ranges.{unsigned-both}
use Rattle.kept_casts.proofs.Dispatch.{range-kept}
use Rattle.kept_casts.proofs.integer.signed_to_unsigned_kept.Goals as goal

pub returns : goal.returns
returns c =
    let v = bits_in c.args.from in
    let w = bits_in c.args.to in
    let y = c.args.x % 2 ^ v in
    let m : c.min.result ≡ min w (v - 1) = c.min.ensures ∙ ap₂ (λ (j k : ℕ). min j (k - 1)) c.bits.ensures c.bits-2.ensures in
    c.is_below.ensures ∙ ap₂ (λ (x k : ℕ). ltb x (2 ^ k)) c.pattern.ensures m
    ∙ unsigned-both y v w (width-range c.args.from).0 (mod-lt c.args.x (pow_pos v)) ∙ range-kept true false v w y (width-range c.args.to).0
