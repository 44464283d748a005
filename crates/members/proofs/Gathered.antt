-- The array that the members are gathered in says what the list says.
use Rattle.std.specs.Prelude.{◌≡◌, ◌++◌, ◌≤◌, ◌<◌}
use Rattle.common.specs.Logic.{◌∙◌, sym, ap, refl, List, map, ⊎_elim, ℕ, min, arith, lt-ltb, length, take, drop, length-append, length-map}
use lib.Seq.{take_at, take-length}
use Rattle.common.specs.Refusal.{refused, answer, outcome, check}
use Rattle.common.proofs.Lists.{order, first-take}
use Rattle.layout.specs.Layout.{Attribute}
use Rattle.layout.specs.Makers.{given_lines, from_members}
use Rattle.layout.specs.Records.{attribute_of, missing, listed, layout_answer, given_answer}
use Rattle.layout.specs.declared.point_layout.PointAttributeMember.{PointAttributeMember}
use Rattle.layout.proofs.Listed.{length-listed}
use Rattle.members.specs.Members.{empty_slots, in_array, members_answer}

-- the first i members, and empty slots after them
unfoldable pub filled : ℕ → List PointAttributeMember → List PointAttributeMember
filled i ms = take i ms ++ drop i empty_slots

-- a list of more than 32 is refused with 3
too_long : (xs : List Attribute) (al : ℕ) → 32 < length xs → from_members xs al ≡ refused 3
unfolding from_members given_lines check answer outcome
too_long xs al h = rw (lt-ltb _ _ h)

-- where all members have a slot, the array is theirs, and its first ones are the list
all_in : (ms : List PointAttributeMember) → filled (length ms) ms ≡ in_array ms
unfolding filled in_array
all_in ms = ap (λ (t : List PointAttributeMember). t ++ drop (length ms) empty_slots) (take-length ms)

pub its-first : (ms : List PointAttributeMember) → listed (in_array ms) (length ms) ≡ map attribute_of ms
unfolding listed in_array
its-first ms =
    let long = length-append ms (drop (length ms) empty_slots) in
    ap (map attribute_of) (first-take missing (in_array ms) (length ms) (omega (arith, long)) ∙ take_at ms (drop (length ms) empty_slots) (length ms) refl)

pub same : (ms : List PointAttributeMember) (al : ℕ) → given_answer (filled (min (length ms) 32) ms) (length ms) al ≡ members_answer ms al
unfolding given_answer members_answer layout_answer
same ms al = ⊎_elim (λ h. fits h) (λ h. past h) (order (length ms) 32)
  where
    fits : length ms ≤ 32 → given_answer (filled (min (length ms) 32) ms) (length ms) al ≡ members_answer ms al
    fits h =
        let k : min (length ms) 32 ≡ length ms = omega arith in
        ap (λ (j : ℕ). given_answer (filled j ms) (length ms) al) k ∙ ap (λ (xs : List PointAttributeMember). given_answer xs (length ms) al) (all_in ms)
        ∙ ap (λ (ys : List Attribute). layout_answer (in_array ms) (from_members ys al)) (its-first ms)

    past : 32 < length ms → given_answer (filled (min (length ms) 32) ms) (length ms) al ≡ members_answer ms al
    past h =
        ap (layout_answer (filled (min (length ms) 32) ms)) (too_long (listed (filled (min (length ms) 32) ms) (length ms)) al (omega (arith, length-listed (filled (min (length ms) 32) ms) (length ms))))
        ∙ sym (ap (layout_answer (in_array ms)) (too_long (map attribute_of ms) al (omega (arith, length-map ms attribute_of))))
