-- `layout::lookup::has_name` meets its contract.
use Rattle.std.specs.Prelude.{◌≡◌}
use Rattle.common.specs.Logic.{◌∙◌, sym, min, arith, lt-leb}
use Rattle.common.specs.Lists.{first}
use Rattle.common.proofs.Lists.{slices-same, same-lengths, length-first}
use Rattle.layout.specs.Lookup.{named}
use Rattle.layout.specs.Records.{definition_of, attribute_of}
use Rattle.layout.proofs.lookup.has_name.Goals as goal

pub returns-then-d-le31 : goal.returns-then-d-le31
unfolding named attribute_of definition_of
returns-then-d-le31 c =
    let d = c.args.m.attribute_definition in
    let z : min d.name_len 31 ≡ d.name_len = omega (arith, c.if-d-le31.true) in
    c.eq.ensures ∙ rw (c.name_bytes.ensures, z) (slices-same (first 0 d.name d.name_len) c.args.name.now)

pub returns-else-d-le31 : goal.returns-else-d-le31
unfolding named attribute_of definition_of
returns-else-d-le31 c =
    let d = c.args.m.attribute_definition in
    rw (lt-leb d.name_len 31 c.if-d-le31.false) (sym (same-lengths (first 0 d.name d.name_len) c.args.name.now (λ e. let l = length-first 0 d.name d.name_len in omega (arith, c.if-d-le31.false, c.requires))))
