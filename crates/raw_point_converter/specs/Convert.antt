-- Document 01, section Plan: "One call takes both layouts and both points and checks 1, 14, 20; longer lent points are accepted."
use Rattle.std.specs.Prelude.{◌∷◌}
use Rattle.common.specs.Logic.{not, List, [], ℕ, length}
use Rattle.common.specs.Lists.{all}
use Rattle.common.specs.Refusal.{Line, line, Outcome, check}
use Rattle.layout.specs.Layout.{Layout, is_sound}
use Rattle.strided.specs.Strided.{converted}
use Rattle.raw_point_converter.specs.Pairs.{pairs, has_cast, ends_within}

-- 1, of the source and then of the target; 14: a pair has no cast; 20: a lent point ends before the end of a paired attribute
unfoldable pub point_lines : Layout → Layout → ℕ → ℕ → List Line
point_lines l m a b =
    line 1 (not (is_sound l))
    ∷ line 1 (not (is_sound m))
    ∷ line 14 (not (all has_cast (pairs l m)))
    ∷ line 20 (not (all (ends_within a b) (pairs l m)))
    ∷ []

-- the target after the call: each pair cast, of one point; all other bytes as before
unfoldable pub convert_point : Layout → Layout → List ℕ → List ℕ → Outcome (List ℕ)
convert_point l m source target = check (point_lines l m (length source) (length target)) (converted (pairs l m) source 1 target)
