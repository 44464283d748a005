-- One mapping of two layouts, judged by the counts and by the datatypes at its places.
use Rattle.std.specs.Prelude.{◌≡◌, ◌&&◌, ◌≤◌, ◌<◌}
use Rattle.common.specs.Logic.{◌∙◌, not, lt-ltb, le-ltb, ltb, get_or}
use Rattle.common.specs.Refusal.{Answer, answer, line_answer}
use Rattle.common.specs.Refusal.{Refused}
use Rattle.layout.specs.Layout.{absent}
use Rattle.layout.specs.Records.{definition_of, attribute_of, missing, layout_of}
use Rattle.layout.specs.declared.point_layout.PointLayout.{PointLayout}
use Rattle.layout.proofs.Listed.{length-listed, listed_at}
use Rattle.pairs.specs.Pairs.{pair_of, has_entry}
use Rattle.plans.specs.Makers.{mapping_lines}
use Rattle.plans.specs.Plan.{is_listed, has_pair}
use Rattle.plans.specs.declared.plan.Mapping.{Mapping}

module _ (l m : PointLayout) (x : Mapping) where
  both-listed : is_listed (layout_of l) (layout_of m) x ≡ (ltb x.source l.count && ltb x.target m.count)
  unfolding is_listed layout_of
  both-listed = rw (length-listed l.attributes l.count, length-listed m.attributes m.count)

  pub no_source : l.count ≤ x.source → Refused 13 ≡ answer (mapping_lines (layout_of l) (layout_of m) x)
  unfolding mapping_lines answer
  no_source h = rw (both-listed, le-ltb _ _ h)

  pub no_target : x.source < l.count → m.count ≤ x.target → Refused 13 ≡ answer (mapping_lines (layout_of l) (layout_of m) x)
  unfolding mapping_lines answer
  no_target s h = rw (both-listed, lt-ltb _ _ s, le-ltb _ _ h)

  module _ (s : x.source < l.count) (t : x.target < m.count) where
    same-pair : has_entry (pair_of (get_or l.attributes x.source missing).attribute_definition.datatype (get_or m.attributes x.target missing).attribute_definition.datatype) ≡ has_pair (layout_of l) (layout_of m) x
    unfolding has_pair layout_of attribute_of definition_of
    same-pair = rw (listed_at l.attributes x.source l.count absent s, listed_at m.attributes x.target m.count absent t)

    pub by-pair : {r : Answer} → r ≡ line_answer 14 (not (has_entry (pair_of (get_or l.attributes x.source missing).attribute_definition.datatype (get_or m.attributes x.target missing).attribute_definition.datatype)))
        → r ≡ answer (mapping_lines (layout_of l) (layout_of m) x)
    unfolding mapping_lines answer
    by-pair e = e ∙ rw (both-listed, lt-ltb _ _ s, lt-ltb _ _ t, same-pair)
