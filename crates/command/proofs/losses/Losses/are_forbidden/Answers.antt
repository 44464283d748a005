-- By the sum of all, where nothing may be lost.
use Rattle.command.proofs.Held.{forbidden-some, forbidden-none}
use Rattle.command.proofs.losses.Losses.are_forbidden.Goals as goal

pub returns-then-whole : goal.returns-then-whole
returns-then-whole c = forbidden-some _ c.if-whole.true c.total.ensures

pub returns-else-whole : goal.returns-else-whole
returns-else-whole c = forbidden-none _ c.if-whole.false
