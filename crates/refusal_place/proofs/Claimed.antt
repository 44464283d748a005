-- The proofs of `specs.Claims`.
use Rattle.std.specs.Prelude.{◌≡◌}
use Rattle.common.specs.Logic.{◌∙◌, sym, ap, refl, subst, List, None, Some, Option, ⊎_elim, ℕ, arith}
use Rattle.common.specs.Refusal.{Outcome, got, refused}
use Rattle.common.proofs.Refusals.{then-got, then-refused}
use Rattle.format.proofs.Fields.{never}
use Rattle.layout.specs.Layout.{Layout}
use Rattle.layout_sheets.specs.Sheet.{layout_sheet}
use Rattle.plans.specs.Plan.{Plan}
use Rattle.refusal_place.specs.Claims.{sheet_of, WhichClaim, OwnClaim, Shown, NotShown, AttributeClaim, LineClaim, PlaceClaim}
use Rattle.refusal_place.specs.Place.{by_attributes, attribute_place, by_lines, by_targets, target_place, line_place, mapping_place, sheets_place, refusal_place}
use Rattle.refusal_place.specs.declared.RefusalPlace.{RefusalPlace}
use Rattle.refusal_place.specs.declared.RefusalPlace.TheVariants.{Input, Sheet, Attribute, Target as TargetPlace, Line}
use Rattle.refusal_place.specs.declared.SheetKind.{SheetKind}
use Rattle.refusal_place.specs.declared.SheetKind.TheVariants.{Source, Target, Mapping}
use Rattle.refusal_place.proofs.Listed.{attribute-listed, line-listed, target-listed}
use Rattle.refusal_place.proofs.Places.{or-got, or-refused}
use Rattle.refusal_place.proofs.Shown.{place-cases, entry-is, other-is}
use Rattle.sheets.specs.Frame.{Sheets, frame, plan_of_sheets, three_sheets}
use Rattle.sheets.specs.Mapping.{mapping_sheet}

-- ---- which attribute

module _ (which : SheetKind) (s : List ℕ) (n : ℕ) where
  is-attribute : (j : ℕ) → attribute_place which s n ≡ Attribute which j → Shown n (by_attributes s) j
  unfolding attribute_place
  is-attribute j h =
      ⊎_elim (λ r. let e : r.0 ≡ j = (let k = r.2 in cc) in subst (Shown n (by_attributes s)) e r.1)
      (λ r. absurd (let k = r.1 in let z : ◌≡◌ {A = ℕ} 0 1 = cc in omega arith)) (place-cases n (by_attributes s) (Sheet which) (Attribute which))

  is_whole : attribute_place which s n ≡ Sheet which → NotShown n (by_attributes s)
  unfolding attribute_place
  is_whole h =
      ⊎_elim (λ r. absurd (let k = r.2 in let z : ◌≡◌ {A = ℕ} 0 1 = cc in omega arith)) (λ r. r.0) (place-cases n (by_attributes s) (Sheet which) (Attribute which))

  attribute-is : (j : ℕ) → Shown n (by_attributes s) j → attribute_place which s n ≡ Attribute which j
  unfolding attribute_place
  attribute-is = entry-is n (by_attributes s) (Sheet which) (Attribute which)

  whole_is : NotShown n (by_attributes s) → attribute_place which s n ≡ Sheet which
  unfolding attribute_place
  whole_is = other-is n (by_attributes s) (Sheet which) (Attribute which)

  attribute-sheet : sheet_of (Some (attribute_place which s n)) ≡ Some which
  unfolding attribute_place sheet_of
  attribute-sheet = ⊎_elim (λ r. ap (λ (p : RefusalPlace). sheet_of (Some p)) r.2) (λ r. ap (λ (p : RefusalPlace). sheet_of (Some p)) r.1) (place-cases n (by_attributes s) (Sheet which) (Attribute which))

attribute-claim : AttributeClaim
attribute-claim =
    record {
      attribute = λ which s n j. (is-attribute which s n j, attribute-is which s n j);
      whole = λ which s n. (is_whole which s n, whole_is which s n);
      listed = λ which s n j h. attribute-listed s n j (is-attribute which s n j h);
    }

-- ---- which line or target attribute

module _ (l m : Layout) (s : List ℕ) (n : ℕ) where
  -- a line; a target attribute; neither
  data Told : RefusalPlace → Type 0 where
    line : (j : ℕ) → Shown n (by_lines l m s) j → Told (Line j)
    target : (j : ℕ) → NotShown n (by_lines l m s) → Shown n (by_targets l m s) j → Told (TargetPlace j)
    whole : NotShown n (by_lines l m s) → NotShown n (by_targets l m s) → Told (Sheet Mapping)

  line-told : Told (line_place l m s n)
  unfolding line_place target_place
  line-told =
      ⊎_elim (λ r. subst Told (sym r.2) (line r.0 r.1))
      (λ r.
      subst Told (sym r.1)
      (⊎_elim (λ t. subst Told (sym t.2) (target t.0 r.0 t.1)) (λ t. subst Told (sym t.1) (whole r.0 t.0))
      (place-cases n (by_targets l m s) (Sheet Mapping) TargetPlace)))
      (place-cases n (by_lines l m s) (target_place l m s n) Line)

  told_line : {r : RefusalPlace} (j : ℕ) → Told r → r ≡ Line j → Shown n (by_lines l m s) j
  told_line j (line i a) h = let e : i ≡ j = cc in subst (Shown n (by_lines l m s)) e a
  told_line j (target i a b) h = absurd (let z : ◌≡◌ {A = ℕ} 0 1 = cc in omega arith)
  told_line j (whole a b) h = absurd (let z : ◌≡◌ {A = ℕ} 0 1 = cc in omega arith)

  told-target : {r : RefusalPlace} (j : ℕ) → Told r → r ≡ TargetPlace j → NotShown n (by_lines l m s) × Shown n (by_targets l m s) j
  told-target j (line i a) h = absurd (let z : ◌≡◌ {A = ℕ} 0 1 = cc in omega arith)
  told-target j (target i a b) h = let e : i ≡ j = cc in (a, subst (Shown n (by_targets l m s)) e b)
  told-target j (whole a b) h = absurd (let z : ◌≡◌ {A = ℕ} 0 1 = cc in omega arith)

  told-whole : {r : RefusalPlace} → Told r → r ≡ Sheet Mapping → NotShown n (by_lines l m s) × NotShown n (by_targets l m s)
  told-whole (line i a) h = absurd (let z : ◌≡◌ {A = ℕ} 0 1 = cc in omega arith)
  told-whole (target i a b) h = absurd (let z : ◌≡◌ {A = ℕ} 0 1 = cc in omega arith)
  told-whole (whole a b) h = (a, b)

  told-sheet : {r : RefusalPlace} → Told r → sheet_of (Some r) ≡ Some Mapping
  unfolding sheet_of
  told-sheet (line i a) = refl
  told-sheet (target i a b) = refl
  told-sheet (whole a b) = refl

  line-is : (j : ℕ) → Shown n (by_lines l m s) j → line_place l m s n ≡ Line j
  unfolding line_place
  line-is = entry-is n (by_lines l m s) (target_place l m s n) Line

  target_is : (j : ℕ) → NotShown n (by_lines l m s) × Shown n (by_targets l m s) j → line_place l m s n ≡ TargetPlace j
  unfolding line_place target_place
  target_is j h = other-is n (by_lines l m s) (target_place l m s n) Line h.0 ∙ entry-is n (by_targets l m s) (Sheet Mapping) TargetPlace j h.1

  neither-is : NotShown n (by_lines l m s) × NotShown n (by_targets l m s) → line_place l m s n ≡ Sheet Mapping
  unfolding line_place target_place
  neither-is h = other-is n (by_lines l m s) (target_place l m s n) Line h.0 ∙ other-is n (by_targets l m s) (Sheet Mapping) TargetPlace h.1

  line-sheet : sheet_of (Some (line_place l m s n)) ≡ Some Mapping
  line-sheet = told-sheet line-told

line-claim : LineClaim
line-claim =
    record {
      line = λ l m s n j. (told_line l m s n j (line-told l m s n), line-is l m s n j);
      by_name = λ l m s n j. (told-target l m s n j (line-told l m s n), target_is l m s n j);
      whole = λ l m s n. (told-whole l m s n (line-told l m s n), neither-is l m s n);
      listed = λ l m s n j h. line-listed l m s n j (told_line l m s n j (line-told l m s n) h);
      targets = λ l m s n j h. target-listed l m s n j (told-target l m s n j (line-told l m s n) h).1;
    }

-- ---- which sheet

module _ (s : List ℕ) where
  input-is : {n : ℕ} → frame s ≡ refused n → refusal_place s ≡ Some Input
  unfolding refusal_place
  input-is a = or-refused _ _ a

  module _ (f : Sheets) (a : frame s ≡ got f) where
    framed : refusal_place s ≡ sheets_place f
    unfolding refusal_place
    framed = or-got _ _ a

    source_is : (n : ℕ) → layout_sheet f.source ≡ refused n → refusal_place s ≡ Some (attribute_place Source f.source n)
    unfolding sheets_place
    source_is n b = framed ∙ or-refused _ _ b

    module _ (l : Layout) (b : layout_sheet f.source ≡ got l) where
      target-sheet-is : (n : ℕ) → layout_sheet f.target ≡ refused n → refusal_place s ≡ Some (attribute_place Target f.target n)
      unfolding sheets_place
      target-sheet-is n c = framed ∙ or-got _ _ b ∙ or-refused _ _ c

      module _ (m : Layout) (c : layout_sheet f.target ≡ got m) where
        to-mapping : refusal_place s ≡ mapping_place l m f.mapping
        unfolding sheets_place
        to-mapping = framed ∙ or-got _ _ b ∙ or-got _ _ c

        mapping-is : (n : ℕ) → mapping_sheet l m f.mapping ≡ refused n → refusal_place s ≡ Some (line_place l m f.mapping n)
        unfolding mapping_place
        mapping-is n d = to-mapping ∙ or-refused _ _ d

        through-is : (p : Plan) → mapping_sheet l m f.mapping ≡ got p → refusal_place s ≡ None
        unfolding mapping_place
        through-is p d = to-mapping ∙ or-got _ _ d

        planned : three_sheets s ≡ mapping_sheet l m f.mapping
        unfolding three_sheets plan_of_sheets
        planned = then-got plan_of_sheets a ∙ then-got _ b ∙ then-got _ c

  -- where the sheets stop
  data Stops : Type 0 where
    unframed : (n : ℕ) → frame s ≡ refused n → Stops
    at_source : (f : Sheets) → frame s ≡ got f → (n : ℕ) → layout_sheet f.source ≡ refused n → Stops
    at_target : (f : Sheets) → frame s ≡ got f → (l : Layout) → layout_sheet f.source ≡ got l → (n : ℕ) → layout_sheet f.target ≡ refused n → Stops
    at-mapping : (f : Sheets) → frame s ≡ got f → (l : Layout) → layout_sheet f.source ≡ got l → (m : Layout) → layout_sheet f.target ≡ got m
        → (n : ℕ) → mapping_sheet l m f.mapping ≡ refused n → Stops
    at-end : (f : Sheets) → frame s ≡ got f → (l : Layout) → layout_sheet f.source ≡ got l → (m : Layout) → layout_sheet f.target ≡ got m
        → (p : Plan) → mapping_sheet l m f.mapping ≡ got p → Stops

  stops : Stops
  stops = one (frame s) refl
    where
      four : (f : Sheets) → frame s ≡ got f → (l : Layout) → layout_sheet f.source ≡ got l → (m : Layout) → layout_sheet f.target ≡ got m
          → (o : Outcome Plan) → mapping_sheet l m f.mapping ≡ o → Stops
      four f a l b m c (got p) d = at-end f a l b m c p d
      four f a l b m c (refused n) d = at-mapping f a l b m c n d

      three : (f : Sheets) → frame s ≡ got f → (l : Layout) → layout_sheet f.source ≡ got l → (o : Outcome Layout) → layout_sheet f.target ≡ o → Stops
      three f a l b (got m) c = four f a l b m c (mapping_sheet l m f.mapping) refl
      three f a l b (refused n) c = at_target f a l b n c

      two : (f : Sheets) → frame s ≡ got f → (o : Outcome Layout) → layout_sheet f.source ≡ o → Stops
      two f a (got l) b = three f a l b (layout_sheet f.target) refl
      two f a (refused n) b = at_source f a n b

      one : (o : Outcome Sheets) → frame s ≡ o → Stops
      one (got f) a = two f a (layout_sheet f.source) refl
      one (refused n) a = unframed n a

own-claim : OwnClaim
own-claim =
    record {
      source = λ s f n a b. source_is s f a n b;
      target = λ s f l n a b c. target-sheet-is s f a l b n c;
      mapping = λ s f l m n a b c d. mapping-is s f a l b m c n d;
    }

-- the sheet told, by where they stop
module _ (s : List ℕ) where
  record Stopped (r : Option RefusalPlace) : Type 0 where
    is-nowhere : r ≡ None → (p : Plan) × (three_sheets s ≡ got p)
    is-input : r ≡ Some Input → (n : ℕ) × (frame s ≡ refused n)
    is-source : (f : Sheets) → frame s ≡ got f → sheet_of r ≡ Some Source → (n : ℕ) × (layout_sheet f.source ≡ refused n)
    is-target : (f : Sheets) → frame s ≡ got f → sheet_of r ≡ Some Target → (n : ℕ) × (layout_sheet f.target ≡ refused n)
    is-mapping : (f : Sheets) (l m : Layout) → frame s ≡ got f → layout_sheet f.source ≡ got l → layout_sheet f.target ≡ got m → sheet_of r ≡ Some Mapping
        → (n : ℕ) × (mapping_sheet l m f.mapping ≡ refused n)

  same-frame : {f g : Sheets} → frame s ≡ got f → frame s ≡ got g → f ≡ g
  same-frame a b = let e = sym a ∙ b in cc

  stopped : Stops s → Stopped (refusal_place s)
  unfolding sheet_of
  stopped (unframed n a) =
      let e = input-is s a in
      record {
        is-nowhere = λ h. absurd (let z : ◌≡◌ {A = ℕ} 0 1 = cc in omega arith);
        is-input = λ h. (n, a);
        is-source = λ f b h. never (sym b) (sym a);
        is-target = λ f b h. never (sym b) (sym a);
        is-mapping = λ f l m b c d h. never (sym b) (sym a);
      }
  stopped (at_source f a n b) =
      let e = ap sheet_of (source_is s f a n b) ∙ attribute-sheet Source f.source n in
      record {
        is-nowhere = λ h. absurd (let k = ap sheet_of h in let z : ◌≡◌ {A = ℕ} 0 1 = cc in omega arith);
        is-input = λ h. absurd (let k = ap sheet_of h in let z : ◌≡◌ {A = ℕ} 0 1 = cc in omega arith);
        is-source = λ g c h. (n, rw (same-frame c a) b);
        is-target = λ g c h. absurd (let z : ◌≡◌ {A = ℕ} 0 1 = cc in omega arith);
        is-mapping = λ g l m c d k h. absurd (let z : ◌≡◌ {A = ℕ} 0 1 = cc in omega arith);
      }
  stopped (at_target f a l b n c) =
      let e = ap sheet_of (target-sheet-is s f a l b n c) ∙ attribute-sheet Target f.target n in
      record {
        is-nowhere = λ h. absurd (let k = ap sheet_of h in let z : ◌≡◌ {A = ℕ} 0 1 = cc in omega arith);
        is-input = λ h. absurd (let k = ap sheet_of h in let z : ◌≡◌ {A = ℕ} 0 1 = cc in omega arith);
        is-source = λ g d h. absurd (let z : ◌≡◌ {A = ℕ} 0 1 = cc in omega arith);
        is-target = λ g d h. (n, rw (same-frame d a) c);
        is-mapping = λ g k m d i j h. absurd (let z : ◌≡◌ {A = ℕ} 0 1 = cc in omega arith);
      }
  stopped (at-mapping f a l b m c n d) =
      let e = ap sheet_of (mapping-is s f a l b m c n d) ∙ line-sheet l m f.mapping n in
      record {
        is-nowhere = λ h. absurd (let k = ap sheet_of h in let z : ◌≡◌ {A = ℕ} 0 1 = cc in omega arith);
        is-input = λ h. absurd (let k = ap sheet_of h in let z : ◌≡◌ {A = ℕ} 0 1 = cc in omega arith);
        is-source = λ g i h. absurd (let z : ◌≡◌ {A = ℕ} 0 1 = cc in omega arith);
        is-target = λ g i h. absurd (let z : ◌≡◌ {A = ℕ} 0 1 = cc in omega arith);
        is-mapping = λ g k i j p q h.
            let x = same-frame j a in
            let y : k ≡ l = (let w = sym p ∙ ap (λ (v : Sheets). layout_sheet v.source) x ∙ b in cc) in
            let z : i ≡ m = (let w = sym q ∙ ap (λ (v : Sheets). layout_sheet v.target) x ∙ c in cc) in
            (n, rw (x, y, z) d);
      }
  stopped (at-end f a l b m c p d) =
      let e = through-is s f a l b m c p d in
      let t = ap sheet_of e in
      record {
        is-nowhere = λ h. (p, planned s f a l b m c ∙ d);
        is-input = λ h. absurd (let z : ◌≡◌ {A = ℕ} 0 1 = cc in omega arith);
        is-source = λ g i h. absurd (let z : ◌≡◌ {A = ℕ} 0 1 = cc in omega arith);
        is-target = λ g i h. absurd (let z : ◌≡◌ {A = ℕ} 0 1 = cc in omega arith);
        is-mapping = λ g k i j q r h. absurd (let z : ◌≡◌ {A = ℕ} 0 1 = cc in omega arith);
      }

  -- an accepted input passes all
  passed : Stops s → (p : Plan) → three_sheets s ≡ got p → refusal_place s ≡ None
  unfolding three_sheets plan_of_sheets
  passed (unframed n a) p h = never (sym h) (sym (then-refused plan_of_sheets a))
  passed (at_source f a n b) p h = never (sym h) (sym (then-got plan_of_sheets a ∙ then-refused _ b))
  passed (at_target f a l b n c) p h = never (sym h) (sym (then-got plan_of_sheets a ∙ then-got _ b ∙ then-refused _ c))
  passed (at-mapping f a l b m c n d) p h = never (sym h) (sym (planned s f a l b m c ∙ d))
  passed (at-end f a l b m c q d) p h = through-is s f a l b m c q d

which-claim : WhichClaim
which-claim =
    record {
      nowhere = λ s. ((stopped s (stops s)).is-nowhere, λ r. passed s (stops s) r.0 r.1);
      input = λ s. ((stopped s (stops s)).is-input, λ r. input-is s r.1);
      source = λ s f a. ((stopped s (stops s)).is-source f a, λ r. ap sheet_of (source_is s f a r.0 r.1) ∙ attribute-sheet Source f.source r.0);
      target = λ s f l a b. ((stopped s (stops s)).is-target f a, λ r. ap sheet_of (target-sheet-is s f a l b r.0 r.1) ∙ attribute-sheet Target f.target r.0);
      mapping = λ s f l m a b c. ((stopped s (stops s)).is-mapping f l m a b c, λ r. ap sheet_of (mapping-is s f a l b m c r.0 r.1) ∙ line-sheet l m f.mapping r.0);
    }

pub place-claim : PlaceClaim
place-claim = record { which = which-claim; own = own-claim; attributes = attribute-claim; lines = line-claim }
