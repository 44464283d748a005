-- The line of the refusal.
use Rattle.scanplan.proofs.Prints.{line-printed}
use Rattle.scanplan.proofs.list.Goals as goal

pub returns-in-Err : goal.returns-in-Err
returns-in-Err c =
    let x = c.list_refusal.ensures in
    line-printed c.args.buffer c.args.n _ c.args.text.now c.in-Err.ensures.refused c.number.ensures c.requires x.answer x.size x.bytes
