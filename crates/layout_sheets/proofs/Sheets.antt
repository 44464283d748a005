-- A layout sheet, whole or its start: number of attributes, kind, alignment, the attributes, and the layout made of them.
use Rattle.std.specs.Prelude.{◌≡◌, ◌≤◌, ◌<◌, None, Some}
use Rattle.common.specs.Logic.{◌∙◌, sym, ap, true, Bool, false, cond, List, map, ℕ, arith, take, eqb, length, length-map, refl}
use Rattle.common.specs.Refusal.{Outcome, got, refused, answer_of, and_then, Accepted, Refused}
use Rattle.common.proofs.Refusals.{then-got, then-refused}
use Rattle.format.specs.Bits.{zero_fill}
use Rattle.format.specs.Format.{◌>>=◌, bits, times, rest_by}
use Rattle.format.proofs.Reading.{times-length, times-each}
use Rattle.layout.specs.Layout.{Layout}
use Rattle.layout.specs.Makers.{empty_layout}
use Rattle.layout.specs.Records.{empty_member, given_answer}
use Rattle.layout.specs.declared.point_layout.PointAttributeMember.{PointAttributeMember}
use Rattle.std.proofs.lemmas.List.{length-take-le}
use Rattle.layout.specs.declared.point_layout.PointLayout.{PointLayout}
use Rattle.layout_sheets.specs.Place.{Place}
use Rattle.layout_sheets.specs.Reader.{left, reads, coded}
use Rattle.layout_sheets.specs.Records.{slots, member_record, entries_array, entry_record, entry_of, sheet_answer, Filled, listed_entries, contents_of, said_by, IsRead}
use Rattle.layout_sheets.specs.Sheet.{datatype, Entry, entry, call_of, given_of, Contents, placed_format, given_format, format_over, layout_format, contents, add_all, layout_from, layout_sheet, format_to, first_layout}
use Rattle.layout_sheets.specs.declared.layout_sheet.Contents.{Contents as ContentsRead}
use Rattle.layout_sheets.specs.declared.layout_sheet.SheetEntry.{SheetEntry}
use Rattle.layout_sheets.proofs.Attributes.{entry-small}
use Rattle.layout_sheets.proofs.Layouts.{listed-array, entries-back, filled-record, packings-record, given-record}
use Rattle.layout_sheets.proofs.Parts.{all-entries}
use Rattle.layout_sheets.proofs.Readers.{end-read, got-reads, reads-then, reads-stops, uncoded, uncoded-refused, start, rest-cut, rest-goes-on, rest-ends, start-cut, start-read}

-- ---- the attributes that were read

module _ (w k : ℕ) (p : Place) {es : List SheetEntry} {q : Place} (h : got (left es q) ≡ reads (coded entries_array (times (entry datatype w) k)) p) where
  -- what the first k entries say
  entries-said : (x : List Entry) × (take k es ≡ map entry_record x) × (got (left x q) ≡ reads (times (entry datatype w) k) p)
  entries-said =
      let x = uncoded entries_array (times (entry datatype w) k) p h in
      let n = times-length (entry datatype w) p.sheet k p.at (got-reads (times (entry datatype w) k) p x.2).0 in
      (x.0, ap (take k) (sym x.1) ∙ listed-array x.0 k n, x.2)

  entries-filled : Filled (take k es)
  entries-filled = let x = entries-said in rw x.1 (filled-record x.0)

module _ (k : ℕ) (p : Place) {es : List SheetEntry} {q : Place} where
  pub placed-made : got (left es q) ≡ reads (coded entries_array (times (entry datatype 8) k)) p → got (left (contents_of (record { entries = es; count = k; alignment = None })) q) ≡ reads (placed_format datatype k) p
  unfolding placed_format contents_of said_by
  placed-made h = let x = entries-said 8 k p h in rw (x.1, entries-back x.0) (reads-then (times (entry datatype 8) k) _ p x.2 (end-read _ q))

  pub given-made : {a : ℕ} (o : Place) → got (left a p) ≡ reads (bits 16) o → got (left es q) ≡ reads (coded entries_array (times (entry datatype 16) k)) p
      → got (left (contents_of (record { entries = es; count = k; alignment = Some a })) q) ≡ reads (given_format datatype k) o
  unfolding given_format contents_of said_by
  given-made {a} o f h =
      let x = entries-said 16 k p h in
      rw (x.1, entries-back x.0) (reads-then (bits 16) _ o f (reads-then (times (entry datatype 16) k) _ p x.2 (end-read _ q)))

  -- as a sheet gives them
  pub placed-whole : k ≤ 32 → got (left es q) ≡ reads (coded entries_array (times (entry datatype 8) k)) p → IsRead (record { entries = es; count = k; alignment = None })
  placed-whole l h =
      let x = entries-said 8 k p h in
      let t = (got-reads (times (entry datatype 8) k) p x.2).0 in
      record {
        few = l;
        filled = entries-filled 8 k p h;
        packings = λ e. rw x.1 (packings-record x.0 (times-each (entry datatype 8) p.sheet (λ (y : Entry). y.number < 256) (λ s y g. entry-small 8 p.sheet s y g) k p.at t));
      }

  pub given-whole : {a : ℕ} → k ≤ 32 → got (left es q) ≡ reads (coded entries_array (times (entry datatype 16) k)) p → IsRead (record { entries = es; count = k; alignment = Some a })
  given-whole l h =
      record {
        few = l;
        filled = entries-filled 16 k p h;
        packings = λ e. absurd (let z : ◌≡◌ {A = ℕ} 0 1 = cc in omega arith);
      }

module _ (k : ℕ) (p : Place) where
  pub placed-stops : {n : ℕ} → refused n ≡ reads (coded entries_array (times (entry datatype 8) k)) p → refused n ≡ reads (placed_format datatype k) p
  unfolding placed_format
  placed-stops h = reads-stops (times (entry datatype 8) k) _ p (uncoded-refused entries_array (times (entry datatype 8) k) p h)

  pub given-stops : {a n : ℕ} (o : Place) → got (left a p) ≡ reads (bits 16) o → refused n ≡ reads (coded entries_array (times (entry datatype 16) k)) p → refused n ≡ reads (given_format datatype k) o
  unfolding given_format
  given-stops o f h = reads-then (bits 16) _ o f (reads-stops (times (entry datatype 16) k) _ p (uncoded-refused entries_array (times (entry datatype 16) k) p h))

-- ---- the layout

module _ (k : ContentsRead) (whole : IsRead k) (full : length k.entries ≡ 32) where
  listed-length : length (map given_of (map entry_of (listed_entries k))) ≡ k.count
  listed-length =
      length-map (map entry_of (listed_entries k)) given_of ∙ length-map (listed_entries k) entry_of ∙ length-take-le k.count k.entries (omega (arith, whole.few))

  pub placed-layout : k.alignment ≡ None → sheet_answer (add_all empty_layout (map call_of (map entry_of (listed_entries k)))) ≡ sheet_answer (layout_from (contents_of k))
  unfolding layout_from contents_of said_by
  placed-layout e = rw e

  pub given-layout : {a : ℕ} {ms : List PointAttributeMember} → k.alignment ≡ Some a → ms ≡ slots empty_member 32 (map member_record (map given_of (map entry_of (listed_entries k)))) → given_answer ms k.count a ≡ sheet_answer (layout_from (contents_of k))
  unfolding layout_from contents_of said_by
  given-layout {a} {ms} e m =
      rw e (ap (λ (ys : List PointAttributeMember). given_answer ys k.count a) m ∙ given-record (map given_of (map entry_of (listed_entries k))) a k.count (sym listed-length))

answer-sheet : (o : Outcome Layout) → answer_of (sheet_answer o) ≡ answer_of o
unfolding sheet_answer and_then answer_of
answer-sheet (got l) = refl
answer-sheet (refused n) = refl

module _ (s : List ℕ) where
  -- the first 32 are all
  all-read : rest_by (format_to 32) s 0 ≡ contents s
  unfolding contents format_to layout_format format_over
  all-read = all-entries (λ k. bits 1 >>= (λ kind. cond (eqb kind 0) (placed_format datatype k) (given_format datatype k))) s

  pub whole-stops : {n : ℕ} → refused n ≡ reads (format_to 32) (start s) → refused n ≡ sheet_answer (layout_sheet s)
  unfolding layout_sheet sheet_answer
  whole-stops h = sym (then-refused _ (then-refused _ (sym all-read ∙ rest-cut (format_to 32) s h)))

  module _ {x : Contents} {q : Place} (h : got (left x q) ≡ reads (format_to 32) (start s)) {b : Bool} (z : b ≡ zero_fill q.sheet q.at) where
    pub whole-ends : b ≡ false → refused 7 ≡ sheet_answer (layout_sheet s)
    unfolding layout_sheet sheet_answer
    whole-ends e = sym (then-refused _ (then-refused _ (sym all-read ∙ rest-goes-on (format_to 32) s h z e)))

    pub whole-made : b ≡ true → sheet_answer (layout_from x) ≡ sheet_answer (layout_sheet s)
    unfolding layout_sheet
    whole-made e = ap sheet_answer (sym (then-got layout_from (sym all-read ∙ rest-ends (format_to 32) s h z e)))

  -- ---- of the first j attributes

  module _ (j : ℕ) where
    pub first-stops : {n : ℕ} → refused n ≡ reads (format_to j) (start s) → Refused n ≡ answer_of (first_layout j s)
    unfolding first_layout answer_of
    first-stops h = sym (ap answer_of (then-refused layout_from (start-cut (format_to j) s h)))

    module _ {x : Contents} {q : Place} (h : got (left x q) ≡ reads (format_to j) (start s)) where
      first-made : answer_of (layout_from x) ≡ answer_of (first_layout j s)
      unfolding first_layout
      first-made = sym (ap answer_of (then-got layout_from (start-read (format_to j) s h)))

      pub first-refused : {n : ℕ} → refused n ≡ sheet_answer (layout_from x) → Refused n ≡ answer_of (first_layout j s)
      unfolding answer_of
      first-refused e = ap answer_of e ∙ answer-sheet (layout_from x) ∙ first-made

      pub first-accepted : {l : PointLayout} → got l ≡ sheet_answer (layout_from x) → Accepted ≡ answer_of (first_layout j s)
      unfolding answer_of
      first-accepted e = ap answer_of e ∙ answer-sheet (layout_from x) ∙ first-made
