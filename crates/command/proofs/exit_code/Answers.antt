-- A status fits a byte.
use Rattle.command.proofs.Bytes.{status-byte}
use Rattle.command.proofs.exit_code.Goals as goal

pub overflow_cast-nakvisk_command : goal.overflow_cast-nakvisk_command
overflow_cast-nakvisk_command c = record { fits = status-byte _ c.nakvisk_command.ensures }
