-- `attribute_conversion::attribute::copy_words` meets its contract: what was passed is copied.
use Rattle.std.specs.Prelude.{◌≡◌, ◌≤◌, ◌+◌, ◌-◌, ◌*◌}
use Rattle.common.specs.Logic.{◌∙◌, le-div_iff_mul-le, arith, length}
use Rattle.attribute_conversion.proofs.LittleEndian.{part-copied}
use Rattle.attribute_conversion.proofs.attribute.copy_words.Goals as goal

pub loop-k-preserved : goal.loop-k-preserved
loop-k-preserved c =
    let at = c.args.i + c.loop-k.k * c.args.w in
    let next : c.args.i + (c.loop-k.k + 1) * c.args.w ≡ at + c.args.w = omega arith in
    let room : at + c.args.w ≤ length c.args.src.now = omega (arith, (le-div_iff_mul-le {k = c.args.w} {x = c.loop-k.k + 1} {y = length c.args.src.now - c.args.i} c.requires.0).0 (omega arith)) in
    rw next (part-copied at c.args.w c.args.src.now c.loop-k.dst _ room (c.loop-k.auto.dst ∙ c.requires.3) c.copy_number.ensures c.loop-k.invariant).1
