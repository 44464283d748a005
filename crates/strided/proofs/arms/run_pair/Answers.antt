-- `strided::arms::run_pair` meets its contract: codes from 15 on go with themselves.
use Rattle.common.specs.Logic.{◌∙◌, sym, arith}
use Rattle.strided.proofs.Codes.{own-code, listed}
use Rattle.strided.proofs.arms.run_pair.Goals as goal

pub run-requires : goal.run-requires
run-requires c = (c.in-15.is, sym (own-code c.args.cast.from c.args.cast.to c.requires.pair (omega arith)) ∙ c.in-15.is, c.requires)

pub copy_bytes-requires : goal.copy_bytes-requires
copy_bytes-requires c = (c.in-16.is, sym (own-code c.args.cast.from c.args.cast.to c.requires.pair (omega arith)) ∙ c.in-16.is, c.requires)

pub copy_bytes-requires-in_default : goal.copy_bytes-requires-in_default
copy_bytes-requires-in_default c =
    let l = listed c.args.cast.from c.args.cast.to c.requires.pair in
    let o = own-code c.args.cast.from c.args.cast.to c.requires.pair (omega arith) in
    (omega arith, omega arith, c.requires)
