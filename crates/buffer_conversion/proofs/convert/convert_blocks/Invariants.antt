-- `buffer_conversion::convert::convert_blocks` meets its contract: after d points the target is as all casts leave it over d points, and after k
-- turns within a block as the first k casts leave it over the block; so too what is lost. One cast passes over all points at once.
use Rattle.std.specs.Prelude.{◌≡◌}
use Rattle.common.specs.Logic.{map, min, ℕ, length, get_or}
use Rattle.common.specs.Lists.{first}
use Rattle.strided.specs.Steps.{no_cast}
use Rattle.strided.specs.Strided.{converted, points_from}
use Rattle.buffer_conversion.specs.Casts.{lost_before}
use Rattle.buffer_conversion.proofs.LostCounts.{counts, lost_within}
use Rattle.buffer_conversion.proofs.convert.convert_blocks.Given as goal

abbrev pub invariant-loop-k : goal.invariant-loop-k
invariant-loop-k g l =
    (length l.target ≡ length l.initial.target) × (l.target ≡ converted (map (points_from l.d) (first no_cast l.casts l.k)) l.source l.m l.initial.target)
    × (length l.lost ≡ 32) × ((j : ℕ) → get_or l.lost j 0 ≡ lost_within (counts g.row.COUNTED) l.casts l.source l.d l.m l.k j)

abbrev pub invariant-loop-d : goal.invariant-loop-d
invariant-loop-d g l =
    (length l.target ≡ length l.initial.target) × (l.target ≡ converted l.casts l.source (min l.d l.n) l.initial.target)
    × (length l.lost ≡ 32) × ((j : ℕ) → get_or l.lost j 0 ≡ lost_before (counts g.row.COUNTED) l.casts l.source (min l.d l.n) j)
