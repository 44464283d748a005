-- `members::from_members_and_alignment` meets its contract: the members are in the first slots, and the array then says what the list says.
use Rattle.std.specs.Prelude.{◌≡◌, ◌++◌}
use Rattle.common.specs.Logic.{◌∙◌, ap, List, ℕ, min, length, take, drop}
use Rattle.layout.specs.Records.{empty_point_layout, given_answer}
use Rattle.layout.specs.declared.point_layout.PointAttributeMember.{PointAttributeMember}
use Rattle.layout.specs.declared.point_layout.PointLayout.{PointLayout}
use Rattle.members.specs.Members.{empty_slots}
use Rattle.members.proofs.Gathered.{filled, same}
use Rattle.members.proofs.from_members_and_alignment.Goals as goal

gathered : (ms xs : List PointAttributeMember) (n : ℕ) {l : PointLayout} → n ≡ min (length ms) 32 → xs ≡ take n ms → l ≡ empty_point_layout → xs ++ drop n l.attributes ≡ filled (min (length ms) 32) ms
unfolding filled empty_slots
gathered ms xs n e x h = rw (x, h, e)

pub returns : goal.returns
returns c =
    c.from_members_and_alignment.ensures
    ∙ ap (λ (xs : List PointAttributeMember). given_answer xs (length c.args.members.now) c.args.alignment)
    (gathered c.args.members.now c.copy_from_slice.new.self c.min-listed.result c.min-listed.ensures c.copy_from_slice.ensures.after c.default.ensures)
    ∙ same c.args.members.now c.args.alignment
