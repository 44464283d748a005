-- What a sound layout has, fact by fact.
use Rattle.std.specs.Prelude.{◌≡◌, ◌≤◌, ◌<◌, ◌%◌}
use Rattle.common.specs.Logic.{◌∙◌, sym, true, false, ⊎_elim, ℕ, arith, eq-eqb, le-leb, eqb-true, leb-true, length, get_or}
use Rattle.common.specs.Lists.{all, pairwise, greatest, every}
use Rattle.common.proofs.Lists.{decide, every-cons, all-at, all-at_most}
use Rattle.datatype.specs.Arithmetic.{is_power_of_two}
use Rattle.layout.specs.Layout.{absent, good_attribute, end_of, disjoint, other_name, Layout, is_sound}
use Rattle.layout.specs.Records.{attribute_of, missing, listed, layout_of}
use Rattle.layout.specs.declared.point_layout.PointLayout.{PointLayout}
use Rattle.layout.proofs.Listed.{length-listed, listed_at}

pub record Sound (l : Layout) : Type 0 where
  pub few : length l.attributes ≤ 32
  pub good : all good_attribute l.attributes ≡ true
  pub names : pairwise other_name l.attributes ≡ true
  pub disjoint : pairwise disjoint l.attributes ≡ true
  pub ends : greatest end_of l.attributes ≤ l.size
  pub small : l.size ≤ 65535
  pub multiple : l.size % l.alignment ≡ 0
  pub power : is_power_of_two l.alignment ≡ true

pub sound-has : (l : Layout) → is_sound l ≡ true → Sound l
unfolding is_sound
sound-has l h =
    let a = every-cons _ _ h in
    let b = every-cons _ _ a.1 in
    let c = every-cons _ _ b.1 in
    let d = every-cons _ _ c.1 in
    let e = every-cons _ _ d.1 in
    let f = every-cons _ _ e.1 in
    let g = every-cons _ _ f.1 in
    record {
      few = leb-true _ _ a.0;
      good = b.0;
      names = c.0;
      disjoint = d.0;
      ends = leb-true _ _ (sym (all-at_most end_of l.size l.attributes) ∙ e.0);
      small = leb-true _ _ f.0;
      multiple = eqb-true _ _ g.0;
      power = (every-cons _ _ g.1).0;
    }

pub sound-from : (l : Layout) → Sound l → is_sound l ≡ true
unfolding is_sound every
sound-from l s =
    rw (le-leb _ _ s.few, s.good, s.names, s.disjoint, all-at_most end_of l.size l.attributes, le-leb _ _ s.ends, le-leb _ _ s.small, eq-eqb _ _ s.multiple, s.power)

pub not_sound : (l : Layout) → (Sound l → ⊥) → is_sound l ≡ false
not_sound l n = ⊎_elim (λ e. absurd (n (sound-has l e))) (λ e. e) (decide (is_sound l))

-- a sound record's count is within its array
pub count-few : (l : PointLayout) → is_sound (layout_of l) ≡ true → l.count ≤ 32
unfolding layout_of
count-few l h = omega (arith, (sound-has (layout_of l) h).few, length-listed l.attributes l.count)

-- its members are good
pub good-at : (l : PointLayout) (i : ℕ) → is_sound (layout_of l) ≡ true → i < l.count → good_attribute (attribute_of (get_or l.attributes i missing)) ≡ true
unfolding layout_of
good-at l i s h =
    rw (← listed_at l.attributes i l.count absent h)
    (all-at good_attribute (listed l.attributes l.count) i absent (sound-has (layout_of l) s).good (omega (arith, length-listed l.attributes l.count)))
