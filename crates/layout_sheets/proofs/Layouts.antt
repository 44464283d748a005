-- The records of definitions, attributes and layouts read back, and what the makers of layouts hand back of them.
use Rattle.std.specs.Prelude.{◌≡◌, ◌∷◌, ◌++◌, ◌<◌, ◌+◌}
use Rattle.common.specs.Logic.{◌∙◌, sym, ap, refl, List, [], map, map-append, ℕ, arith, length, get_or, set, take, drop, length-map}
use Rattle.common.specs.Lists.{first}
use Rattle.common.specs.Refusal.{Outcome, got, refused, and_then}
use Rattle.common.proofs.Lists.{map_at}
use Rattle.common.proofs.Refusals.{check-got, got-then}
use Rattle.layout.specs.Calls.{called}
use Rattle.layout.specs.Layout.{Definition, Attribute, Layout}
use Rattle.layout.specs.Makers.{empty_layout, placed, extended, add_attribute, given, from_members}
use Rattle.layout.specs.Records.{definition_of, attribute_of, missing, listed, layout_of, empty_member, empty_point_layout, layout_answer, stored, add_answer, given_answer}
use Rattle.layout.specs.declared.point_layout.FieldAlignment.{FieldAlignment}
use Rattle.layout.specs.declared.point_layout.PointAttributeDefinition.{PointAttributeDefinition}
use Rattle.layout.specs.declared.point_layout.PointAttributeMember.{PointAttributeMember}
use Rattle.layout.specs.declared.point_layout.PointLayout.{PointLayout}
use Rattle.layout.proofs.Calls.{add-got, add-passed}
use Rattle.layout.proofs.Makers.{added-length}
use Rattle.layout_sheets.specs.Records.{slots, definition_record, member_record, layout_record, sheet_answer, entry_record, empty_entry, entries_array, missing_entry, entry_of, Filled, Packings}
use Rattle.layout_sheets.specs.Sheet.{Entry, packing, call_of, given_of, in_turn, add_all}
use Rattle.layout_sheets.specs.declared.layout_sheet.SheetEntry.{SheetEntry}
use Rattle.layout_sheets.proofs.Slots.{slots-none, slots_set, slots-first, slots-take}
use Rattle.layout_sheets.proofs.Turns.{take-more, take-split, take-length, turn_more, turn-stops}

-- ---- records read back

pub definition-record : (d : Definition) → definition_of (definition_record d) ≡ d
unfolding definition_of definition_record
definition-record d = rw (slots-first 0 31 0 d.name)

attribute-record : (a : Attribute) → attribute_of (member_record a) ≡ a
unfolding attribute_of member_record
attribute-record a = rw (definition-record a.definition)

entry-record : (e : Entry) → entry_of (entry_record e) ≡ e
unfolding entry_of entry_record
entry-record e = rw (definition-record e.definition)

map_back : {A B : Type 0} (f : A → B) (g : B → A) → ((a : A) → g (f a) ≡ a) → (xs : List A) → map g (map f xs) ≡ xs
map_back f g h [] = refl
map_back f g h (x ∷ xs) = rw (h x, map_back f g h xs)

-- an array of records holds the list that it was made of
back : {A B : Type 0} (f : A → B) (g : B → A) (h : (a : A) → g (f a) ≡ a) (d e : B) (xs : List A) (k : ℕ) → k ≡ length xs → map g (first e (slots d 32 (map f xs)) k) ≡ xs
back f g h d e xs k n =
    ap (λ (j : ℕ). map g (first e (slots d 32 (map f xs)) j)) (n ∙ sym (length-map xs f)) ∙ ap (map g) (slots-first d 32 e (map f xs)) ∙ map_back f g h xs

pub listed-record : (xs : List Attribute) (k : ℕ) → k ≡ length xs → listed (slots empty_member 32 (map member_record xs)) k ≡ xs
unfolding listed
listed-record xs k n = back member_record attribute_of attribute-record empty_member missing xs k n

-- the entries of an array that the code reads
pub listed-array : (es : List Entry) (k : ℕ) → length es ≡ k → take k (entries_array es) ≡ map entry_record es
unfolding entries_array
listed-array es k n = ap (λ (j : ℕ). take j (slots empty_entry 32 (map entry_record es))) (sym n ∙ sym (length-map es entry_record)) ∙ slots-take empty_entry 32 (map entry_record es)

pub entries-back : (es : List Entry) → map entry_of (map entry_record es) ≡ es
entries-back = map_back entry_record entry_of entry-record

pub layout-record : (l : Layout) → layout_of (layout_record l) ≡ l
unfolding layout_of layout_record
layout-record l = rw (listed-record l.attributes (length l.attributes) refl)

-- place by place
module _ (xs : List Entry) where
  entry_at : (d : Entry) (i : ℕ) → i < length xs → get_or (map entry_record xs) i missing_entry ≡ entry_record (get_or xs i d)
  entry_at d i l = map_at entry_record xs i d missing_entry l

  pub filled-record : Filled (map entry_record xs)
  filled-record i l =
      let q = entry_at (entry_of missing_entry) i (rw (length-map xs entry_record) at l) in
      q ∙ ap entry_record (sym (entry-record (get_or xs i (entry_of missing_entry)))) ∙ ap (λ (e : SheetEntry). entry_record (entry_of e)) (sym q)

  pub packings-record : ((i : ℕ) (d : Entry) → i < length xs → (get_or xs i d).number < 256) → Packings (map entry_record xs)
  unfolding entry_record
  packings-record f i l =
      let m : i < length xs = rw (length-map xs entry_record) at l in
      let q = ap (λ (e : SheetEntry). e.number) (entry_at (entry_of missing_entry) i m) in
      omega (arith, f i (entry_of missing_entry) m)

-- ---- the makers

module _ (l : Layout) (d : Definition) (f : FieldAlignment) where
  stored-record : length l.attributes < 32 → stored (layout_record l) (definition_record d) f ≡ slots empty_member 32 (map member_record (extended l d f).attributes)
  unfolding stored layout_record extended placed member_record
  stored-record h =
      rw (listed-record l.attributes (length l.attributes) refl, definition-record d)
      (slots_set empty_member 32 (map member_record l.attributes) (length l.attributes) (member_record (placed l.attributes d f)) (length-map l.attributes member_record) h
      ∙ ap (slots empty_member 32) (sym (map-append member_record l.attributes (placed l.attributes d f ∷ []))))

  add-outcome : (o : Outcome Layout) → add_attribute l d f ≡ o → layout_answer (stored (layout_record l) (definition_record d) f) o ≡ sheet_answer o
  unfolding layout_answer sheet_answer layout_record and_then
  add-outcome (refused n) h = refl
  add-outcome (got k) h =
      let g = add-got l d f k h in
      let p = add-passed l d f g.0 in
      let e : stored (layout_record l) (definition_record d) f ≡ slots empty_member 32 (map member_record k.attributes) =
      stored-record (omega (arith, p.few, added-length l d f)) ∙ ap (λ (m : Layout). slots empty_member 32 (map member_record m.attributes)) g.1 in
      rw e

  pub add-record : add_answer (layout_record l) (definition_record d) f ≡ sheet_answer (add_attribute l d f)
  unfolding add_answer
  add-record = rw (layout-record l, definition-record d) (add-outcome (add_attribute l d f) refl)

module _ (xs : List Attribute) (a : ℕ) where
  given-outcome : (o : Outcome Layout) → from_members xs a ≡ o → layout_answer (slots empty_member 32 (map member_record xs)) o ≡ sheet_answer o
  unfolding layout_answer sheet_answer layout_record from_members given and_then
  given-outcome (refused n) h = refl
  given-outcome (got k) h =
      let e : xs ≡ k.attributes = ap (λ (m : Layout). m.attributes) (check-got _ _ _ h).1 in
      let f : slots empty_member 32 (map member_record xs) ≡ slots empty_member 32 (map member_record k.attributes) = ap (λ (ys : List Attribute). slots empty_member 32 (map member_record ys)) e in
      rw f

  pub given-record : (k : ℕ) → k ≡ length xs → given_answer (slots empty_member 32 (map member_record xs)) k a ≡ sheet_answer (from_members xs a)
  unfolding given_answer
  given-record k n = rw (listed-record xs k n) (given-outcome (from_members xs a) refl)

-- ---- what was handed back

module _ (o : Outcome Layout) where
  pub sheet-accepted : {l : PointLayout} → got l ≡ sheet_answer o → (k : Layout) × (o ≡ got k) × (l ≡ layout_record k)
  unfolding sheet_answer
  sheet-accepted h = let x = got-then _ o (sym h) in (x.0, x.1, cc)

  pub sheet-refused : {n : ℕ} → refused n ≡ sheet_answer o → o ≡ refused n
  unfolding sheet_answer and_then
  sheet-refused {n} h = go o h
    where
      go : (o : Outcome Layout) → refused n ≡ and_then o (λ l. got (layout_record l)) → o ≡ refused n
      go (got l) k = absurd (let z : ◌≡◌ {A = ℕ} 0 1 = cc in omega arith)
      go (refused m) k = cc

-- ---- the loop over the calls of a placed sheet

module _ (es : List SheetEntry) where
  abbrev pub held : ℕ → Entry
  held i = entry_of (get_or es i missing_entry)

  abbrev pub before : ℕ → List Entry
  before i = map entry_of (take i es)

  before-more : (i : ℕ) → i < length es → before (i + 1) ≡ before i ++ (held i ∷ [])
  before-more i l = ap (map entry_of) (take-more es i missing_entry l) ∙ map-append entry_of (take i es) (get_or es i missing_entry ∷ [])

  before-split : (i : ℕ) → i < length es → map entry_of es ≡ before i ++ (held i ∷ map entry_of (drop (i + 1) es))
  before-split i l = ap (map entry_of) (take-split es i missing_entry l) ∙ map-append entry_of (take i es) (get_or es i missing_entry ∷ drop (i + 1) es)

  pub calls-start : {l : PointLayout} → l ≡ empty_point_layout → got l ≡ sheet_answer (add_all empty_layout (map call_of (before 0)))
  unfolding sheet_answer add_all in_turn layout_record empty_layout empty_point_layout and_then
  calls-start h = rw (h, slots-none empty_member 32)

  module _ (i : ℕ) (in_range : i < length es) (filled : get_or es i missing_entry ≡ entry_record (held i)) {l : PointLayout} (h : got l ≡ sheet_answer (add_all empty_layout (map call_of (before i))))
      {f : FieldAlignment} (p : f ≡ packing (get_or es i missing_entry).number) where
    definition-is : (get_or es i missing_entry).definition ≡ definition_record (held i).definition
    unfolding entry_record
    definition-is = ap (λ (e : SheetEntry). e.definition) filled

    packing-is : f ≡ (call_of (held i)).alignment
    unfolding call_of entry_of
    packing-is = p

    called_is : (k : Layout) → l ≡ layout_record k → add_answer l (get_or es i missing_entry).definition f ≡ sheet_answer (called k (call_of (held i)))
    unfolding call_of
    called_is k e = rw (e, definition-is, packing-is) (add-record k (held i).definition (packing (held i).number))

    pub calls-turn : add_answer l (get_or es i missing_entry).definition f ≡ sheet_answer (add_all empty_layout (map call_of (before (i + 1))))
    unfolding add_all
    calls-turn =
        let v = sheet-accepted (add_all empty_layout (map call_of (before i))) h in
        let m = map-append call_of (before i) (held i ∷ []) in
        called_is v.0 v.2 ∙ ap sheet_answer (sym (ap (add_all empty_layout) (ap (map call_of) (before-more i in_range) ∙ m) ∙ turn_more called empty_layout (map call_of (before i)) (call_of (held i)) v.1))

    pub calls-stop : {n : ℕ} → refused n ≡ add_answer l (get_or es i missing_entry).definition f → refused n ≡ sheet_answer (add_all empty_layout (map call_of (map entry_of es)))
    unfolding add_all sheet_answer and_then
    calls-stop {n} e =
        let v = sheet-accepted (add_all empty_layout (map call_of (before i))) h in
        let c = sheet-refused (called v.0 (call_of (held i))) (e ∙ called_is v.0 v.2) in
        let m = map-append call_of (before i) (held i ∷ map entry_of (drop (i + 1) es)) in
        let s = ap (add_all empty_layout) (ap (map call_of) (before-split i in_range) ∙ m) ∙ turn-stops called empty_layout (map call_of (before i)) (call_of (held i)) (map call_of (map entry_of (drop (i + 1) es))) v.1 c in
        sym (ap sheet_answer s)

  -- ---- the loop over the members

  abbrev pub members-before : ℕ → List PointAttributeMember
  members-before i = slots empty_member 32 (map member_record (map given_of (before i)))

  pub members-start : {l : PointLayout} → l ≡ empty_point_layout → l.attributes ≡ members-before 0
  unfolding empty_point_layout
  members-start h = rw (h, slots-none empty_member 32)

  member_is : (i : ℕ) → get_or es i missing_entry ≡ entry_record (held i)
      → ◌≡◌ {A = PointAttributeMember} (record { attribute_definition = (get_or es i missing_entry).definition; offset = (get_or es i missing_entry).number }) (member_record (given_of (held i)))
  unfolding member_record given_of entry_of entry_record
  member_is i filled =
      ap (λ (d : PointAttributeDefinition). record { attribute_definition = d; offset = (get_or es i missing_entry).number }) (ap (λ (e : SheetEntry). e.definition) filled)

  pub members-turn : (i : ℕ) (ms : List PointAttributeMember) → i < length es → i < 32 → get_or es i missing_entry ≡ entry_record (held i) → ms ≡ members-before i
      → set ms i (record { attribute_definition = (get_or es i missing_entry).definition; offset = (get_or es i missing_entry).number }) ≡ members-before (i + 1)
  members-turn i ms l j filled h =
      let a = map given_of (before i) in
      let n : length (map member_record a) ≡ i = length-map a member_record ∙ length-map (before i) given_of ∙ length-map (take i es) entry_of ∙ take-length es i l in
      ap (λ (ys : List PointAttributeMember). set ys i (record { attribute_definition = (get_or es i missing_entry).definition; offset = (get_or es i missing_entry).number })) h
      ∙ ap (set (slots empty_member 32 (map member_record a)) i) (member_is i filled)
      ∙ slots_set empty_member 32 (map member_record a) i (member_record (given_of (held i))) n j
      ∙ ap (slots empty_member 32) (sym (ap (map member_record) (ap (map given_of) (before-more i l) ∙ map-append given_of (before i) (held i ∷ [])) ∙ map-append member_record a (given_of (held i) ∷ [])))
