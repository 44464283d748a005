-- It is the number of a status.
use Rattle.usage.proofs.Statuses.{answered}
use Rattle.command.proofs.nakvisk_command.Goals as goal

pub returns : goal.returns
returns c = answered _ c.status_number.ensures
