-- The loop of `push_mappings`: the lines of the mappings passed are written.
use Rattle.std.specs.Prelude.{◌≡◌, ◌++◌, ◌≤◌, ◌+◌, ◌*◌, length}
use Rattle.listing.proofs.Mapped.{lines_of}
use Rattle.listing.proofs.lister.push_mappings.Given as goal

abbrev pub invariant-loop-m : goal.invariant-loop-m
invariant-loop-m l =
    record {
      lines : l.lines ≡ l.initial.lines ++ lines_of l.plan l.m-index;
      size : length l.lines ≤ length l.initial.lines + 61 * l.m-index;
    }
