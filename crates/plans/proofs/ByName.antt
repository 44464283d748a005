-- `for_layouts` maps every target attribute by name; `for_layouts_with_default` passes over missing names; when each gives a plan.
use Rattle.std.specs.Prelude.{◌≡◌, ◌∷◌, ◌++◌, ◌<◌, ◌+◌}
use Rattle.common.specs.Logic.{◌∙◌, sym, ap, refl, subst, true, Bool, false, List, [], flat_map, filter_map, ⊎_elim, None, Some, Option, ℕ, suc, zero, arith, not-false, length, get_or, length-append, get_or-append}
use native.Mathlib.Numerals.{add-one}
use lib.Seq.{get_or_at}
use Rattle.common.specs.Lists.{all}
use Rattle.common.specs.Refusal.{Line, got, refused, answer, outcome, check, not_holding, passes, or_else}
use Rattle.common.specs.Refusal.{Refused}
use Rattle.common.proofs.Lists.{and_left, and_right, clash, all-at, order, place_found, place-misses, same-eq, same_refl}
use Rattle.common.proofs.Refusals.{passes-cons, passes_append, passes-flat_map, passes-accepted, answer-append, check-got}
use Rattle.layout.specs.Layout.{Attribute, absent, at, Layout, is_sound}
use Rattle.layout.specs.Lookup.{named, is_found}
use Rattle.layout.proofs.Comparing.{one_place}
use Rattle.layout.proofs.Soundness.{sound-has}
use Rattle.pairs.specs.declared.pair.Pair.TheVariants.{Nothing}
use Rattle.plans.specs.Claims.{pair_between, SameNamed, Mappable, EveryMapped, ByNameClaim, FoundMapped, WithDefaultClaim}
use Rattle.plans.specs.Makers.{source_of, lacks_pair, pair_lines, target_lines, mapping_to, mapping_of, places, default_plan, layouts_lines, for_layouts, for_layouts_with_default}
use Rattle.plans.specs.Plan.{Plan}
use Rattle.plans.specs.Records.{no_mapping}
use Rattle.plans.specs.declared.plan.Mapping.{Mapping}
use Rattle.plans.proofs.Defaults.{joins-one, joins-none}
use Rattle.plans.proofs.Facts.{all_from, entry-from}

-- ---- one target attribute

-- what is found is a source attribute of the name
found-namesake : (l m : Layout) (i j : ℕ) → j < length m.attributes → source_of l (at m.attributes j) ≡ Some i → SameNamed l m i j
unfolding source_of named
found-namesake l m i j h e =
    let f = place_found (named (at m.attributes j).definition.name) l.attributes i absent e in
    record { source-listed = f.0; target-listed = h; names = same-eq _ _ f.1 }

-- where a source attribute has the name, one is found
not-missing : {P : Type 0} (l m : Layout) (i j : ℕ) → SameNamed l m i j → source_of l (at m.attributes j) ≡ None → P
unfolding source_of named
not-missing l m i j n e =
    clash here (place-misses 0 (named (at m.attributes j).definition.name) l.attributes i absent e n.source-listed)
  where
    here : named (at m.attributes j).definition.name (at l.attributes i) ≡ true
    here = rw n.names (same_refl (at m.attributes j).definition.name)

-- and that one, where names are distinct
its-source : (l m : Layout) (i j : ℕ) → is_sound l ≡ true → SameNamed l m i j → source_of l (at m.attributes j) ≡ Some i
its-source l m i j s n = go (source_of l (at m.attributes j)) refl
  where
    go : (o : Option ℕ) → source_of l (at m.attributes j) ≡ o → o ≡ Some i
    go None e = not-missing l m i j n e
    go (Some a) e =
        let f = found-namesake l m a j n.target-listed e in
        ap Some (one_place l.attributes a i (sound-has l s).names f.source-listed n.source-listed (f.names ∙ sym n.names))

mapping-says : (l m : Layout) (j : ℕ) (x : Mapping) → j < length m.attributes → mapping_of l m j ≡ Some x → (x.target ≡ j) × SameNamed l m x.source j
unfolding mapping_of mapping_to
mapping-says l m j x h = go (source_of l (at m.attributes j)) refl
  where
    go : (o : Option ℕ) → source_of l (at m.attributes j) ≡ o → mapping_to j o ≡ Some x → (x.target ≡ j) × SameNamed l m x.source j
    go None e g = absurd (let z : ◌≡◌ {A = ℕ} 0 1 = cc in omega arith)
    go (Some i) e g =
        let s : x.source ≡ i = cc in
        let t : x.target ≡ j = cc in
        (t, rw s (found-namesake l m i j h e))

-- ---- where every place has a mapping

-- the list has one mapping for each of the first k places, in turn
record Each (f : ℕ → Option Mapping) (k : ℕ) (xs : List Mapping) : Type 0 where
  count : length xs ≡ k
  value : (j : ℕ) → j < k → f j ≡ Some (get_or xs j no_mapping)

module _ (f : ℕ → Option Mapping) where
  each_more : (k : ℕ) (x : Mapping) (xs : List Mapping) → f k ≡ Some x → Each f k xs → Each f (k + 1) (xs ++ (x ∷ []))
  each_more k x xs e v =
      record {
        count = length-append xs (x ∷ []) ∙ rw v.count;
        value = λ j h.
            ⊎_elim
            (λ l. let q : j ≡ k = omega arith in rw q (e ∙ ap Some (sym (get_or_at xs x [] no_mapping k v.count))))
            (λ l. v.value j l ∙ ap Some (sym (get_or-append xs (x ∷ []) no_mapping j (omega (arith, v.count)))))
            (order k j);
      }

  each_none : Each f 0 (filter_map f (places 0))
  unfolding places
  each_none = record { count = refl; value = λ j h. absurd (omega arith) }

  each_all : (k : ℕ) → ((j : ℕ) → j < k → (x : Mapping) × (f j ≡ Some x)) → Each f k (filter_map f (places k))
  each_all zero h = each_none
  each_all (suc k) h =
      let x = h k (omega arith) in
      rw (← add-one k) (rw (joins-one f k x.1) (each_more k x.0 _ x.1 (each_all k (λ j l. h j (omega arith)))))

-- ---- an accepted call of `for_layouts`

unfoldable is_named : Layout → Attribute → Bool
is_named l a = is_found (source_of l a)

unfoldable passes_lines : Layout → Attribute → Bool
passes_lines l a = passes (target_lines l a)

all_named : (l : Layout) (xs : List Attribute) → all (passes_lines l) xs ≡ true → all (is_named l) xs ≡ true
unfolding all passes_lines target_lines is_named
all_named l [] h = refl
all_named l (x ∷ xs) h =
    let a = passes-cons 12 _ _ (and_left (passes_lines l x) (all (passes_lines l) xs) h) in
    rw (not-false (is_found (source_of l x)) a.0, all_named l xs (and_right (passes_lines l x) (all (passes_lines l) xs) h))

is_some : (o : Option ℕ) → is_found o ≡ true → (i : ℕ) × (o ≡ Some i)
unfolding is_found
is_some None h = clash h refl
is_some (Some i) h = (i, refl)

module _ (l m : Layout) (ok : all (is_named l) m.attributes ≡ true) where
  has-mapping : (j : ℕ) → j < length m.attributes → (x : Mapping) × (mapping_of l m j ≡ Some x)
  unfolding mapping_of mapping_to is_named
  has-mapping j h =
      let r = is_some (source_of l (at m.attributes j)) (all-at (is_named l) m.attributes j absent ok h) in
      (record { source = r.0; target = j }, ap (mapping_to j) r.1)

  every-mapped : EveryMapped l m (default_plan l m)
  unfolding default_plan
  every-mapped =
      let v = each_all (mapping_of l m) (length m.attributes) has-mapping in
      record {
        source = refl;
        target = refl;
        count = v.count;
        in-turn = λ j h. (mapping-says l m j _ h (v.value j h)).0;
        listed = λ j h. (mapping-says l m j _ h (v.value j h)).1.source-listed;
        by_name = λ j h. (mapping-says l m j _ h (v.value j h)).1.names;
      }

all-mapped : (l m : Layout) (p : Plan) → for_layouts l m ≡ got p → EveryMapped l m p
unfolding for_layouts layouts_lines passes_lines
all-mapped l m p h =
    let g = check-got _ _ _ h in
    let s = passes-cons _ _ _ g.0 in
    let t = passes-cons _ _ _ s.1 in
    let a = sym (passes-flat_map (target_lines l) (passes_lines l) m.attributes (λ x. refl)) ∙ t.1 in
    subst (EveryMapped l m) g.1 (every-mapped l m (all_named l m.attributes a))

-- ---- two sound layouts, whatever lines f a target attribute has

-- the answer to the lines of each element in turn is that of the first that does not pass
answer-first : {A : Type 0} (f : A → List Line) (xs : List A) (d : A) (j : ℕ) {n : ℕ} → j < length xs
    → ((k : ℕ) → k < j → passes (f (get_or xs k d)) ≡ true) → answer (f (get_or xs j d)) ≡ Refused n → answer (flat_map f xs) ≡ Refused n
unfolding flat_map or_else
answer-first f [] d j h ok e = absurd (omega arith)
answer-first f (x ∷ xs) d zero h ok e = answer-append (f x) (flat_map f xs) ∙ rw e
answer-first f (x ∷ xs) d (suc j) h ok e =
    answer-append (f x) (flat_map f xs) ∙ rw (passes-accepted (f x) (ok 0 (omega arith))) (answer-first f xs d j (omega arith) (λ k l. ok (suc k) (omega arith)) e)

module _ (l m : Layout) (f : Attribute → List Line) (s : is_sound l ≡ true) (t : is_sound m ≡ true) where
  unfoldable passes_all : Attribute → Bool
  passes_all a = passes (f a)

  layouts-pass : passes (layouts_lines l m) ≡ true
  unfolding layouts_lines passes all not_holding
  layouts-pass = rw (s, t)

  lines-pass : ((j : ℕ) → j < length m.attributes → passes (f (at m.attributes j)) ≡ true) → passes (layouts_lines l m ++ flat_map f m.attributes) ≡ true
  unfolding passes_all
  lines-pass ok =
      passes_append (layouts_lines l m) (flat_map f m.attributes)
      ∙ rw (layouts-pass) (passes-flat_map f passes_all m.attributes (λ x. refl) ∙ all_from passes_all m.attributes absent ok)

  -- where all of them pass, there is a plan
  plan-made : ((j : ℕ) → j < length m.attributes → passes (f (at m.attributes j)) ≡ true)
      → check (layouts_lines l m ++ flat_map f m.attributes) (default_plan l m) ≡ got (default_plan l m)
  unfolding check outcome
  plan-made ok = rw (passes-accepted (layouts_lines l m ++ flat_map f m.attributes) (lines-pass ok))

  -- the first that does not gives the number
  first-refuses : (j : ℕ) {n : ℕ} → j < length m.attributes → ((k : ℕ) → k < j → passes (f (at m.attributes k)) ≡ true) → answer (f (at m.attributes j)) ≡ Refused n
      → check (layouts_lines l m ++ flat_map f m.attributes) (default_plan l m) ≡ refused n
  unfolding check outcome or_else
  first-refuses j {n} h ok e = rw (answer-append (layouts_lines l m) (flat_map f m.attributes), passes-accepted (layouts_lines l m) layouts-pass, answer-first f m.attributes absent j h ok e)

-- ---- when `for_layouts` gives a plan

module _ (l m : Layout) (s : is_sound l ≡ true) (t : is_sound m ≡ true) where
  target-passes : (j : ℕ) → Mappable l m j → passes (target_lines l (at m.attributes j)) ≡ true
  unfolding target_lines pair_lines lacks_pair is_found passes all not_holding
  target-passes j h = rw (its-source l m h.place j s h.same-named, entry-from _ h.pair)

  all-accepted : ((j : ℕ) → j < length m.attributes → Mappable l m j) → (p : Plan) × (for_layouts l m ≡ got p)
  unfolding for_layouts
  all-accepted ok = (default_plan l m, plan-made l m (target_lines l) s t (λ j h. target-passes j (ok j h)))

  missing-line : (j : ℕ) → j < length m.attributes → ((i : ℕ) → SameNamed l m i j → ⊥) → answer (target_lines l (at m.attributes j)) ≡ Refused 12
  unfolding target_lines is_found answer
  missing-line j h out = rw (go (source_of l (at m.attributes j)) refl)
    where
      go : (o : Option ℕ) → source_of l (at m.attributes j) ≡ o → source_of l (at m.attributes j) ≡ None
      go None e = e
      go (Some i) e = absurd (out i (found-namesake l m i j h e))

  no-pair-line : (i j : ℕ) → SameNamed l m i j → pair_between l m i j ≡ Nothing → answer (target_lines l (at m.attributes j)) ≡ Refused 14
  unfolding target_lines pair_lines lacks_pair is_found answer
  no-pair-line i j n e = rw (its-source l m i j s n, e)

  is-missing : (j : ℕ) → j < length m.attributes → ((k : ℕ) → k < j → Mappable l m k) → ((i : ℕ) → SameNamed l m i j → ⊥) → for_layouts l m ≡ refused 12
  unfolding for_layouts
  is-missing j h ok out = first-refuses l m (target_lines l) s t j h (λ k g. target-passes k (ok k g)) (missing-line j h out)

  has-no-pair : (i j : ℕ) → SameNamed l m i j → ((k : ℕ) → k < j → Mappable l m k) → pair_between l m i j ≡ Nothing → for_layouts l m ≡ refused 14
  unfolding for_layouts
  has-no-pair i j n ok e = first-refuses l m (target_lines l) s t j n.target-listed (λ k g. target-passes k (ok k g)) (no-pair-line i j n e)

pub by_name-claim : ByNameClaim
by_name-claim =
    record {
      mapped = all-mapped;
      accepted = all-accepted;
      missing = λ l m j s t. is-missing l m s t j;
      no-pair = λ l m i j s t. has-no-pair l m s t i j;
    }

-- ---- where some places have a mapping

-- the list has the mappings of the first k places that have one, and no other, in turn
record Found (f : ℕ → Option Mapping) (k : ℕ) (xs : List Mapping) : Type 0 where
  found : (j : ℕ) (x : Mapping) → j < k → f j ≡ Some x → (n : ℕ) × (n < length xs) × (get_or xs n no_mapping ≡ x)
  comes : (n : ℕ) → n < length xs → ((get_or xs n no_mapping).target < k) × (f (get_or xs n no_mapping).target ≡ Some (get_or xs n no_mapping))
  rising : (i n : ℕ) → i < n → n < length xs → (get_or xs i no_mapping).target < (get_or xs n no_mapping).target

module _ (f : ℕ → Option Mapping) where
  module _ (k : ℕ) (x : Mapping) (xs : List Mapping) (e : f k ≡ Some x) (onto : x.target ≡ k) (v : Found f k xs) where
    more : length (xs ++ (x ∷ [])) ≡ length xs + 1
    more = length-append xs (x ∷ [])

    early : (n : ℕ) → n < length xs → get_or (xs ++ (x ∷ [])) n no_mapping ≡ get_or xs n no_mapping
    early n h = get_or-append xs (x ∷ []) no_mapping n h

    last : (n : ℕ) → n ≡ length xs → get_or (xs ++ (x ∷ [])) n no_mapping ≡ x
    last n q = get_or_at xs x [] no_mapping n (sym q)

    found-more : (j : ℕ) (y : Mapping) → j < k + 1 → f j ≡ Some y → (n : ℕ) × (n < length (xs ++ (x ∷ []))) × (get_or (xs ++ (x ∷ [])) n no_mapping ≡ y)
    found-more j y h g =
        ⊎_elim
        (λ l.
        let q : k ≡ j = omega arith in
        let s : f k ≡ Some y = ap f q ∙ g in
        let z : x ≡ y = cc in
        (length xs, omega (arith, more), last (length xs) refl ∙ z))
        (λ l. let r = v.found j y l g in (r.0, omega (arith, more, r.1), early r.0 r.1 ∙ r.2))
        (order k j)

    comes-more : (n : ℕ) → n < length (xs ++ (x ∷ [])) → ((get_or (xs ++ (x ∷ [])) n no_mapping).target < k + 1) × (f (get_or (xs ++ (x ∷ [])) n no_mapping).target ≡ Some (get_or (xs ++ (x ∷ [])) n no_mapping))
    comes-more n h =
        ⊎_elim
        (λ l. rw (last n (omega (arith, more))) (omega arith, ap f onto ∙ e))
        (λ l. let r = v.comes n l in rw (early n l) (omega (arith, r.0), r.1))
        (order (length xs) n)

    rising-more : (i n : ℕ) → i < n → n < length (xs ++ (x ∷ [])) → (get_or (xs ++ (x ∷ [])) i no_mapping).target < (get_or (xs ++ (x ∷ [])) n no_mapping).target
    rising-more i n l h =
        ⊎_elim
        (λ g.
        let a : i < length xs = omega (arith, more) in
        rw (early i a, last n (omega (arith, more))) (omega (arith, (v.comes i a).0)))
        (λ g. let a : i < length xs = omega arith in rw (early i a, early n g) (v.rising i n l g))
        (order (length xs) n)

    found_next : Found f (k + 1) (xs ++ (x ∷ []))
    found_next = record { found = found-more; comes = comes-more; rising = rising-more }

  found_same : (k : ℕ) (xs : List Mapping) → f k ≡ None → Found f k xs → Found f (k + 1) xs
  found_same k xs e v =
      record {
        found = λ j y h g.
            ⊎_elim
            (λ l.
            let q : k ≡ j = omega arith in
            let s : f k ≡ Some y = ap f q ∙ g in
            absurd (let z : ◌≡◌ {A = ℕ} 0 1 = cc in omega arith))
            (λ l. v.found j y l g)
            (order k j);
        comes = λ n h. (omega (arith, (v.comes n h).0), (v.comes n h).1);
        rising = v.rising;
      }

  found-none : Found f 0 (filter_map f (places 0))
  unfolding places
  found-none = record { found = λ j x h. absurd (omega arith); comes = λ n h. absurd (omega arith); rising = λ i n l h. absurd (omega arith) }

  found_all : (k : ℕ) → ((j : ℕ) (x : Mapping) → j < k → f j ≡ Some x → x.target ≡ j) → Found f k (filter_map f (places k))
  found_all zero onto = found-none
  found_all (suc k) onto = rw (← add-one k) (go (f k) refl (found_all k (λ j x l. onto j x (omega arith))))
    where
      go : (o : Option Mapping) → f k ≡ o → Found f k (filter_map f (places k)) → Found f (k + 1) (filter_map f (places (k + 1)))
      go None e v = rw (joins-none f k e) (found_same k _ e v)
      go (Some x) e v = rw (joins-one f k e) (found_next k x _ e (onto k x (omega arith) e) v)

-- ---- a call of `for_layouts_with_default`

module _ (l m : Layout) where
  -- a target attribute whose name a source attribute has gets a mapping
  named-mapped : (i j : ℕ) → SameNamed l m i j → (x : Mapping) × (mapping_of l m j ≡ Some x)
  unfolding mapping_of mapping_to
  named-mapped i j n = go (source_of l (at m.attributes j)) refl
    where
      go : (o : Option ℕ) → source_of l (at m.attributes j) ≡ o → (x : Mapping) × (mapping_to j o ≡ Some x)
      go None e = not-missing l m i j n e
      go (Some a) e = (record { source = a; target = j }, refl)

  abbrev chosen : List Mapping
  chosen = filter_map (mapping_of l m) (places (length m.attributes))

  chosen_found : Found (mapping_of l m) (length m.attributes) chosen
  chosen_found = found_all (mapping_of l m) (length m.attributes) (λ j x h e. (mapping-says l m j x h e).0)

  chosen-name : (k : ℕ) → k < length chosen → SameNamed l m (get_or chosen k no_mapping).source (get_or chosen k no_mapping).target
  chosen-name k h = let c = chosen_found.comes k h in (mapping-says l m _ _ c.0 c.1).1

  found-mapped : FoundMapped l m (default_plan l m)
  unfolding default_plan
  found-mapped =
      record {
        source = refl;
        target = refl;
        found = λ i j n.
            let x = named-mapped i j n in
            let r = chosen_found.found j x.0 n.target-listed x.1 in
            (r.0, r.1, ap (λ (y : Mapping). y.target) r.2 ∙ (mapping-says l m j x.0 n.target-listed x.1).0);
        in_order = chosen_found.rising;
        by_name = chosen-name;
        passed_over = λ j out k h e. out _ (subst (SameNamed l m _) e (chosen-name k h));
      }

  module _ (s : is_sound l ≡ true) (t : is_sound m ≡ true)
      (ok : (i j : ℕ) → SameNamed l m i j → pair_between l m i j ≡ Nothing → ⊥) where
    none-lacks : (j : ℕ) → j < length m.attributes → lacks_pair l (at m.attributes j) (source_of l (at m.attributes j)) ≡ false
    unfolding lacks_pair
    none-lacks j h = go (source_of l (at m.attributes j)) refl
      where
        go : (o : Option ℕ) → source_of l (at m.attributes j) ≡ o → lacks_pair l (at m.attributes j) o ≡ false
        go None e = refl
        go (Some i) e = rw (entry-from _ (ok i j (found-namesake l m i j h e)))

    pair-passes : (j : ℕ) → j < length m.attributes → passes (pair_lines l (at m.attributes j)) ≡ true
    unfolding pair_lines passes all not_holding
    pair-passes j h = rw (none-lacks j h)

    default-accepted : (p : Plan) × (for_layouts_with_default l m ≡ got p)
    unfolding for_layouts_with_default
    default-accepted = (default_plan l m, plan-made l m (pair_lines l) s t pair-passes)

default-mapped : (l m : Layout) (p : Plan) → for_layouts_with_default l m ≡ got p → FoundMapped l m p
unfolding for_layouts_with_default
default-mapped l m p h = subst (FoundMapped l m) (check-got _ _ _ h).1 (found-mapped l m)

pub with-default-claim : WithDefaultClaim
with-default-claim = record { mapped = default-mapped; accepted = default-accepted }
