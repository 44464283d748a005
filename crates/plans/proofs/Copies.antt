-- Where each target attribute is, by name and datatype, one of the source's, `for_layouts` gives a plan, and its mappings are copies.
use Rattle.std.specs.Prelude.{◌≡◌, ◌<◌}
use Rattle.common.specs.Logic.{◌∙◌, sym, true, ℕ, arith, length}
use Rattle.common.specs.Refusal.{got, passes}
use Rattle.common.proofs.Lists.{all-at}
use Rattle.common.proofs.Refusals.{passes-cons}
use Rattle.datatype.specs.Datatype.{datatype_lines}
use Rattle.layout.specs.Layout.{absent, at, definition_lines, attribute_lines, good_attribute, Layout, is_sound}
use Rattle.layout.proofs.Comparing.{one_place}
use Rattle.layout.proofs.Same.{Alike, Among}
use Rattle.layout.proofs.Soundness.{sound-has}
use Rattle.pairs.specs.Pairs.{pair_of}
use Rattle.pairs.specs.declared.pair.Pair.TheVariants.{Copy}
use Rattle.plans.specs.Claims.{mapping_at, pair_between, EveryMapped}
use Rattle.plans.specs.Makers.{for_layouts}
use Rattle.plans.specs.Plan.{Plan}
use Rattle.plans.proofs.ByName.{by_name-claim}

-- a sound layout's datatypes are listed
known : (l : Layout) (i : ℕ) → is_sound l ≡ true → i < length l.attributes
    → passes (datatype_lines (at l.attributes i).definition.datatype) ≡ true
unfolding good_attribute attribute_lines definition_lines
known l i s h = (passes-cons _ _ _ (all-at good_attribute l.attributes i absent (sound-has l s).good h)).1

module _ (l m : Layout) (s : is_sound l ≡ true) (t : is_sound m ≡ true) where
  is-copy : (i j : ℕ) → Alike l m i j → pair_between l m i j ≡ Copy
  unfolding pair_of
  is-copy i j a = rw (known l i s a.one-listed, known m j t a.other-listed, a.datatype)

  pub plan-given : Among l m → (p : Plan) × (for_layouts l m ≡ got p)
  plan-given among =
      by_name-claim.accepted l m s t
      (λ j h.
      let i = (among j h).0 in
      let a = (among j h).1 in
      record {
        place = i;
        same-named = record { source-listed = a.one-listed; target-listed = h; names = a.name };
        pair = λ e. let c = is-copy i j a in let z : ◌≡◌ {A = ℕ} 0 1 = cc in omega arith;
      })

-- a mapping is from the attribute of its target's name
pub its-source : (l m : Layout) (p : Plan) → is_sound l ≡ true → EveryMapped l m p → (i j : ℕ) → Alike l m i j → (mapping_at p j).source ≡ i
its-source l m p s e i j a =
    let h = a.other-listed in
    one_place l.attributes _ i (sound-has l s).names (e.listed j h) a.one-listed (e.by_name j h ∙ sym a.name)
