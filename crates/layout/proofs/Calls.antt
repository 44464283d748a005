-- A list of `add_attribute` calls: the layout after it holds the attributes of the start, then those of the accepted calls, none moved.
use Rattle.std.specs.Prelude.{◌≡◌, ◌∷◌, ◌++◌, ◌≤◌}
use Rattle.common.specs.Logic.{◌∙◌, sym, refl, true, List, [], append_assoc, append-nil, not-false, leb-true, ltb-false, leb, length}
use Rattle.common.specs.Lists.{all, pairwise, at_most}
use Rattle.common.specs.Refusal.{Outcome, got, refused, left_by, passes}
use Rattle.common.proofs.Lists.{and_left, and_right}
use Rattle.common.proofs.Refusals.{passes-cons, passes_append, check-got}
use Rattle.datatype.specs.Arithmetic.{is_power_of_two}
use Rattle.layout.specs.Calls.{Call, called, after, accepted_by, accepted}
use Rattle.layout.specs.Layout.{Definition, definition_lines, end_of, disjoint, other_name, Layout}
use Rattle.layout.specs.Makers.{layout_lines, extended, add_lines, add_attribute}
use Rattle.layout.specs.declared.point_layout.FieldAlignment.{FieldAlignment}
use Rattle.layout.proofs.Soundness.{Sound, sound-has}

-- an accepted call has passed all lines, and gives the layout with one attribute more
pub add-got : (l : Layout) (d : Definition) (f : FieldAlignment) (l' : Layout) → add_attribute l d f ≡ got l' → (passes (add_lines l d f) ≡ true) × (extended l d f ≡ l')
unfolding add_attribute
add-got l d f l' e = check-got (add_lines l d f) (extended l d f) l' e

-- where the lines 8 to 11 pass, of a layout that a call would give
pub record Fitting (l : Layout) : Type 0 where
  pub names : pairwise other_name l.attributes ≡ true
  pub disjoint : pairwise disjoint l.attributes ≡ true
  pub power : is_power_of_two l.alignment ≡ true
  pub small : l.size ≤ 65535

pub fitting : (l : Layout) → passes (layout_lines l) ≡ true → Fitting l
unfolding layout_lines
fitting l p =
    let a = passes-cons _ _ _ p in
    let b = passes-cons _ _ _ a.1 in
    let c = passes-cons _ _ _ b.1 in
    let d = not-false _ (passes-cons _ _ _ c.1).0 in
    record {
      names = not-false _ a.0;
      disjoint = not-false _ b.0;
      power = not-false _ c.0;
      small = leb-true _ _ (and_right (all (at_most end_of 65535) l.attributes) (leb l.size 65535) d);
    }

-- where all lines of a call pass: 1, 3, then 4 to 6, then 8 to 11
pub record Passed (l : Layout) (d : Definition) (f : FieldAlignment) : Type 0 where
  pub sound : Sound l
  pub few : length (extended l d f).attributes ≤ 32
  pub definition : passes (definition_lines d) ≡ true
  pub fits : Fitting (extended l d f)

pub add-passed : (l : Layout) (d : Definition) (f : FieldAlignment) → passes (add_lines l d f) ≡ true → Passed l d f
unfolding add_lines
add-passed l d f h =
    let unsound = passes-cons _ _ _ h in
    let many = passes-cons _ _ _ unsound.1 in
    let both = sym (passes_append (definition_lines d) (layout_lines (extended l d f))) ∙ many.1 in
    record {
      sound = sound-has l (not-false _ unsound.0);
      few = ltb-false _ _ many.0;
      definition = and_left (passes (definition_lines d)) (passes (layout_lines (extended l d f))) both;
      fits = fitting (extended l d f) (and_right (passes (definition_lines d)) (passes (layout_lines (extended l d f))) both);
    }

next-joins : (l : Layout) (c : Call) (o : Outcome Layout) → called l c ≡ o → (left_by l o).attributes ≡ l.attributes ++ accepted_by l c o
unfolding left_by accepted_by extended
next-joins l c (got l') e = rw (← (add-got l c.definition c.alignment l' e).1)
next-joins l c (refused n) e = sym (append-nil l.attributes)

pub after-joins : (l : Layout) (cs : List Call) → (after l cs).attributes ≡ l.attributes ++ accepted l cs
unfolding after accepted
after-joins l [] = sym (append-nil l.attributes)
after-joins l (c ∷ cs) =
    let n = left_by l (called l c) in
    let a = accepted_by l c (called l c) in
    cc (after-joins n cs, next-joins l c (called l c) refl, append_assoc l.attributes a (accepted n cs))
