-- The claims of specs/Claims.antt, from those of layouts.
use Rattle.std.specs.Prelude.{◌≡◌}
use Rattle.common.specs.Logic.{◌∙◌, sym, ap, refl, List, map, ℕ, arith, length}
use Rattle.common.specs.Refusal.{Outcome, got, refused, left_by}
use Rattle.layout.specs.Claims.{Accepted, start, taken, OnlyShares, Stands}
use Rattle.layout.specs.Layout.{Attribute, Layout}
use Rattle.layout.specs.Makers.{from_members}
use Rattle.layout.specs.Records.{attribute_of, layout_of, empty_point_layout, layout_answer, given_answer}
use Rattle.layout.specs.declared.point_layout.PointAttributeMember.{PointAttributeMember}
use Rattle.layout.specs.declared.point_layout.PointLayout.{PointLayout}
use Rattle.layout.proofs.Accepted.{accepted-claim}
use Rattle.layout.proofs.Records.{record-claim}
use Rattle.layout.proofs.Sharing.{sharing-claim}
use Rattle.members.specs.Claims.{LentListClaim}
use Rattle.members.specs.Members.{in_array, members_answer}
use Rattle.members.proofs.Gathered.{its-first}

module _ (ms : List PointAttributeMember) (al : ℕ) where
  abbrev made : Outcome Layout
  made = from_members (map attribute_of ms) al

  -- the array with a count gives the same
  as-array : members_answer ms al ≡ given_answer (in_array ms) (length ms) al
  unfolding members_answer given_answer
  as-array = ap (λ (xs : List Attribute). layout_answer (in_array ms) (from_members xs al)) (sym (its-first ms))

  stands : (k : Layout) → made ≡ got k → Stands (members_answer ms al) k
  stands k h = rw as-array (record-claim.taken (in_array ms) (length ms) al k (rw (its-first ms) h))

  -- a record that is handed back is that of the layout which the definition gives
  gives : (p : PointLayout) → members_answer ms al ≡ got p → made ≡ got (layout_of p)
  unfolding members_answer layout_answer
  gives p e = go made refl e
    where
      go : (o : Outcome Layout) → made ≡ o → layout_answer (in_array ms) o ≡ got p → made ≡ got (layout_of p)
      go (got k) h g = let s = stands k h in let q : p ≡ s.0 = cc in h ∙ ap got (sym (ap layout_of q ∙ s.2))
      go (refused n) h g = absurd (let z : ◌≡◌ {A = ℕ} 0 1 = cc in omega arith)

  accepted : (p : PointLayout) → members_answer ms al ≡ got p → Accepted (layout_of p)
  accepted p e = taken (map attribute_of ms) al (layout_of p) (gives p e)

  -- and where the list is refused it is the empty one of the start
  accepted-after : (o : Outcome PointLayout) → members_answer ms al ≡ o → Accepted (layout_of (left_by empty_point_layout o))
  unfolding left_by
  accepted-after (got p) e = accepted p e
  accepted-after (refused n) e = rw record-claim.empty start

  refuses : OnlyShares (map attribute_of ms) → members_answer ms al ≡ refused 9
  unfolding members_answer layout_answer
  refuses h = rw (sharing-claim.refuses (map attribute_of ms) al h)

  only : members_answer ms al ≡ refused 9 → OnlyShares (map attribute_of ms)
  unfolding members_answer layout_answer
  only e = sharing-claim.only (map attribute_of ms) al (go made e)
    where
      go : (o : Outcome Layout) → layout_answer (in_array ms) o ≡ refused 9 → o ≡ refused 9
      go (got k) g = absurd (let z : ◌≡◌ {A = ℕ} 0 1 = cc in omega arith)
      go (refused n) g = let q : n ≡ 9 = cc in ap refused q

pub lent-list-claim : LentListClaim
lent-list-claim =
    record {
      stands = stands;
      gives = gives;
      sound = λ ms al. accepted-claim.sound _ (accepted-after ms al (members_answer ms al) refl);
      disjoint = λ ms al. accepted-claim.disjoint _ (accepted-after ms al (members_answer ms al) refl);
      sound-given = λ ms al p e. accepted-claim.sound _ (accepted ms al p e);
      disjoint-given = λ ms al p e. accepted-claim.disjoint _ (accepted ms al p e);
      refuses = refuses;
      only = only;
    }
