-- The frame of three sheets, read step by step: a sheet after its length, three of them, and the plan that they give.
use Rattle.std.specs.Prelude.{◌≡◌, ◌++◌, ◌≤◌, ◌<◌, ◌+◌, ◌-◌, ◌*◌}
use Rattle.common.specs.Logic.{◌∙◌, sym, ap, refl, true, List, [], append-nil, ℕ, arith, lt-ltb, le-ltb, length, take, drop, length-append}
use lib.Seq.{take_all}
use Rattle.std.proofs.Common.{length-drop}
use Rattle.std.proofs.lemmas.List.{length-take-le}
use Rattle.common.specs.Refusal.{Outcome, got, refused, and_then}
use Rattle.layout_sheets.specs.Place.{Place}
use Rattle.layout_sheets.specs.Reader.{left, reads}
use Rattle.layout_sheets.proofs.Readers.{got-reads, refused-reads}
use Rattle.common.proofs.Refusals.{check-holds, check-passes, then-got, then-refused}
use Rattle.format.specs.Bits.{Bytes, read, field, number_at, zero_fill}
use Rattle.format.specs.Format.{bits, times, read_by, to_end, sheet_by}
use Rattle.format.proofs.Fields.{field-got, fill-other, fill_holds}
use Rattle.format.proofs.Octets.{octets, octets-end}
use Rattle.format.proofs.Reading.{read-then, read-stops, read-bits, bits-got, bits-refused, end-other, end-here, rest_then, rest-refused, rest-map}
use Rattle.layout.specs.Layout.{Layout}
use Rattle.layout.specs.Records.{layout_of}
use Rattle.layout.specs.declared.point_layout.PointLayout.{PointLayout}
use Rattle.layout_sheets.specs.Records.{layout_record, sheet_answer}
use Rattle.layout_sheets.specs.Sheet.{layout_sheet}
use Rattle.layout_sheets.proofs.Layouts.{layout-record, sheet-accepted, sheet-refused}
use Rattle.plans.specs.Plan.{Plan}
use Rattle.sheets.specs.Frame.{framed, Sheets, frame_format, frame, plan_of_sheets, three_sheets}
use Rattle.sheets.specs.Mapping.{mapping_sheet}
use Rattle.sheets.specs.Records.{mapping_answer, sheets_answer}
use Rattle.sheets.proofs.Between.{sheet-between}

-- ---- a sheet after its length

-- as many bytes as its length says
pub part-length : (s : List ℕ) (a v : ℕ) (part : List ℕ) → part ≡ take v (drop a s) → a + v ≤ length s → length part ≡ v
part-length s a v part p l = ap length p ∙ length-take-le v (drop a s) (omega (arith, length-drop a s))

-- the field of the length, as a reader gives it
module _ (s : List ℕ) (p : ℕ) where
  abbrev at_bit : Place
  at_bit = record { sheet = s; at = p }

  pub length-read : {v : ℕ} {q : Place} → got (left v q) ≡ reads (bits 16) at_bit → got (read v q.at) ≡ field 16 s p
  length-read h = sym (sym (read-bits 16 s p) ∙ (got-reads (bits 16) at_bit h).0)

  pub length-refused : {n : ℕ} → refused n ≡ reads (bits 16) at_bit → refused n ≡ field 16 s p
  length-refused h = sym (sym (read-bits 16 s p) ∙ refused-reads (bits 16) at_bit h)

module _ (s : List ℕ) (at : ℕ) where
  pub part-short : {n : ℕ} → refused n ≡ field 16 s (8 * at) → refused n ≡ read_by framed s (8 * at)
  unfolding framed
  part-short h = sym (read-stops (bits 16) _ s (8 * at) (bits-refused 16 s (8 * at) h))

  module _ {v q : ℕ} (b : Bytes s) (h : got (read v q) ≡ field 16 s (8 * at)) where
    part-is : read_by framed s (8 * at) ≡ read_by (times (bits 8) v) s q
    unfolding framed
    part-is = read-then (bits 16) _ s (8 * at) (bits-got 16 s (8 * at) h)

    pub part-ends : length s < at + 2 + v → refused 2 ≡ read_by framed s (8 * at)
    part-ends l = let g = field-got 16 s (8 * at) h in sym (part-is ∙ octets-end s v (at + 2) q b (omega (arith, g.inside)) l (omega (arith, g.next)))

    pub part-got : (part : List ℕ) → part ≡ take v (drop (at + 2) s) → at + 2 + v ≤ length s → got (read part (8 * (at + 2 + length part))) ≡ read_by framed s (8 * at)
    part-got part p l =
        let g = field-got 16 s (8 * at) h in
        let n : length part ≡ v = part-length s (at + 2) v part p l in
        rw (n, p) (sym (part-is ∙ octets s v (at + 2) q (8 * (at + 2 + v)) b l (omega (arith, g.next)) refl))

-- ---- three sheets

-- whole bytes leave nothing to fill
byte-fill : (s : List ℕ) (k : ℕ) → length s ≡ k → zero_fill s (8 * k) ≡ true
unfolding number_at
byte-fill s k e = let z : 8 * length s - 8 * k ≡ 0 = omega arith in fill_holds s (8 * k) (omega arith) (rw z)

module _ (s : List ℕ) where
  pub first_short : {n : ℕ} → refused n ≡ read_by framed s 0 → refused n ≡ sheet_by frame_format s
  unfolding frame_format
  first_short h = sym (rest-refused framed _ s 0 (sym h))

  module _ {a : List ℕ} {i : ℕ} (h : got (read a i) ≡ read_by framed s 0) where
    pub second_short : {n : ℕ} → refused n ≡ read_by framed s i → refused n ≡ sheet_by frame_format s
    unfolding frame_format
    second_short e = sym (rest_then framed _ s 0 (sym h) ∙ rest-refused framed _ s i (sym e))

    module _ {b : List ℕ} {j : ℕ} (e : got (read b j) ≡ read_by framed s i) where
      pub third-short : {n : ℕ} → refused n ≡ read_by framed s j → refused n ≡ sheet_by frame_format s
      unfolding frame_format
      third-short f = sym (rest_then framed _ s 0 (sym h) ∙ rest_then framed _ s i (sym e) ∙ rest-refused framed _ s j (sym f))

      frame_is : sheet_by frame_format s ≡ and_then (to_end framed s j) (λ c. got (record { source = a; target = b; mapping = c.value }))
      unfolding frame_format
      frame_is = rest_then framed _ s 0 (sym h) ∙ rest_then framed _ s i (sym e) ∙ rest-map framed _ s j

      module _ {c : List ℕ} {k : ℕ} (f : got (read c (8 * k)) ≡ read_by framed s j) where
        pub byte-follows : k < length s → refused 7 ≡ sheet_by frame_format s
        byte-follows l = sym (frame_is ∙ then-refused _ (end-other framed s j (sym f) (fill-other s (8 * k) (λ q. omega arith)) refl))

        pub all-framed : k ≤ length s → length s ≤ k → got (record { source = a; target = b; mapping = c }) ≡ sheet_by frame_format s
        all-framed m l = sym (frame_is ∙ then-got _ (end-here framed s j (sym f) refl (byte-fill s k (omega arith))))

  -- ---- the whole input

  pub too_long : 4096 < length s → refused 7 ≡ frame s
  unfolding frame
  too_long l = sym (then-refused (sheet_by frame_format) (check-holds 7 s (lt-ltb _ _ l)))

  pub framed-within : length s ≤ 4096 → sheet_by frame_format s ≡ frame s
  unfolding frame
  framed-within l = sym (then-got (sheet_by frame_format) (check-passes 7 s (le-ltb _ _ l)))

  pub not-framed : {n : ℕ} → refused n ≡ frame s → refused n ≡ sheets_answer (three_sheets s)
  unfolding three_sheets sheets_answer and_then
  not-framed h = ap sheets_answer (sym (then-refused plan_of_sheets (sym h)))

  pub framed-sheets : {f : Sheets} → got f ≡ frame s → sheets_answer (plan_of_sheets f) ≡ sheets_answer (three_sheets s)
  unfolding three_sheets
  framed-sheets h = ap sheets_answer (sym (then-got plan_of_sheets (sym h)))

  long : 4096 < length s → three_sheets s ≡ refused 7
  unfolding three_sheets
  long l = then-refused plan_of_sheets (sym (too_long l))

  pub short-enough : length s ≤ 4096 → and_then (sheet_by frame_format s) plan_of_sheets ≡ three_sheets s
  unfolding three_sheets
  short-enough l = ap (λ (o : Outcome Sheets). and_then o plan_of_sheets) (framed-within l)

-- an input that is too long, whatever follows
pub goes_on : (s rest : List ℕ) → 4096 < length s → three_sheets (s ++ rest) ≡ refused 7
goes_on s rest h = long (s ++ rest) (omega (arith, length-append s rest))

-- what follows the bytes that were read, where it follows only a full buffer, changes nothing
module _ (s : List ℕ) (h : 4096 < length s) (n : ℕ) (rest : List ℕ) (only : n < length s → rest ≡ []) where
  pub whole-read : n < length s → three_sheets (take n s) ≡ three_sheets (take n s ++ rest)
  whole-read l = rw (only l) (ap three_sheets (sym (append-nil (take n s))))

  pub filled-read : length s ≤ n → three_sheets s ≡ three_sheets (take n s ++ rest)
  filled-read l = long s h ∙ sym (rw (take_all n s l) (goes_on s rest h))

-- ---- the plan of three sheets

mapping-outcome : (l m : Layout) (s : List ℕ) (o : Outcome Plan) → mapping_sheet l m s ≡ o → mapping_answer (layout_record l) (layout_record m) o ≡ sheets_answer o
unfolding mapping_answer sheets_answer and_then
mapping-outcome l m s (refused n) h = refl
mapping-outcome l m s (got p) h = let b = sheet-between l m s p h in rw (b.0, b.1)

module _ (f : Sheets) where
  pub source-refused : {n : ℕ} → refused n ≡ sheet_answer (layout_sheet f.source) → refused n ≡ sheets_answer (plan_of_sheets f)
  unfolding plan_of_sheets sheets_answer
  source-refused e = sym (then-refused _ (then-refused _ (sheet-refused (layout_sheet f.source) e)))

  module _ {a : PointLayout} (h : got a ≡ sheet_answer (layout_sheet f.source)) where
    both_read : {l m : Layout} → layout_sheet f.source ≡ got l → layout_sheet f.target ≡ got m → plan_of_sheets f ≡ mapping_sheet l m f.mapping
    unfolding plan_of_sheets and_then
    both_read d e = rw (d, e)

    pub target-refused : {n : ℕ} → refused n ≡ sheet_answer (layout_sheet f.target) → refused n ≡ sheets_answer (plan_of_sheets f)
    unfolding plan_of_sheets and_then sheets_answer
    target-refused e = let v = sheet-accepted (layout_sheet f.source) h in rw (v.1, sheet-refused (layout_sheet f.target) e)

    pub mapping-read : {b : PointLayout} → got b ≡ sheet_answer (layout_sheet f.target) → mapping_answer a b (mapping_sheet (layout_of a) (layout_of b) f.mapping) ≡ sheets_answer (plan_of_sheets f)
    mapping-read {b} g =
        let v = sheet-accepted (layout_sheet f.source) h in
        let w = sheet-accepted (layout_sheet f.target) g in
        ap (λ (x : PointLayout). mapping_answer x b (mapping_sheet (layout_of x) (layout_of b) f.mapping)) v.2
        ∙ ap (λ (y : PointLayout). mapping_answer (layout_record v.0) y (mapping_sheet (layout_of (layout_record v.0)) (layout_of y) f.mapping)) w.2
        ∙ ap (λ (l : Layout). mapping_answer (layout_record v.0) (layout_record w.0) (mapping_sheet l (layout_of (layout_record w.0)) f.mapping)) (layout-record v.0)
        ∙ ap (λ (m : Layout). mapping_answer (layout_record v.0) (layout_record w.0) (mapping_sheet v.0 m f.mapping)) (layout-record w.0)
        ∙ mapping-outcome v.0 w.0 f.mapping (mapping_sheet v.0 w.0 f.mapping) refl
        ∙ ap sheets_answer (sym (both_read v.1 w.1))
