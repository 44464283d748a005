-- `attribute_conversion::attribute::copy_words` meets its contract: what was passed is copied.
use Rattle.std.specs.Prelude.{◌≡◌, ◌+◌, ◌*◌}
use Rattle.common.specs.Logic.{take}
use Rattle.attribute_conversion.proofs.attribute.copy_words.Given as goal

abbrev pub invariant-loop-k : goal.invariant-loop-k
invariant-loop-k l = take (l.i + l.k * l.w) l.dst ≡ take (l.i + l.k * l.w) l.src
