-- `number_at` meets its contract. The invariant: the value is the number that the bits passed spell.
use Rattle.std.specs.Prelude.{◌≡◌, ◌+◌, ◌*◌}
use Rattle.format.specs.Bits.{number_at}
use Rattle.layout_sheets.proofs.sheet_reader.number_at.Given as goal

abbrev pub invariant-loop-k : goal.invariant-loop-k
invariant-loop-k l = l.value ≡ number_at l.sheet (8 * l.byte + l.bit) l.k
