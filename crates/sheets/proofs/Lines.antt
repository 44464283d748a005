-- A mapping sheet, whole or its start: the lines in their array, and what the sheet says.
use Rattle.std.specs.Prelude.{◌≡◌}
use Rattle.common.specs.Logic.{◌∙◌, sym, ap, List, ℕ, min, arith, length, take}
use mathlib.Core.List.{map-id}
use Rattle.common.specs.Refusal.{got, refused}
use Rattle.format.specs.Format.{end, ◌>>=◌, bits, bits_from, times, rest_by}
use Rattle.format.proofs.Reading.{times-length}
use Rattle.layout_sheets.specs.Place.{Place}
use Rattle.layout_sheets.specs.Reader.{left, reads, coded}
use Rattle.layout_sheets.specs.Records.{slots}
use Rattle.layout_sheets.proofs.Gathering.{Gathered}
use Rattle.layout_sheets.proofs.Parts.{all-entries}
use Rattle.layout_sheets.proofs.Readers.{bits-small, end-read, got-reads, reads-then, reads-stops, code-got, uncoded, uncoded-refused}
use Rattle.layout_sheets.proofs.Slots.{slots-take}
use Rattle.plans.specs.Records.{no_mapping, filled}
use Rattle.plans.specs.declared.plan.Mapping.{Mapping}
use Rattle.sheets.specs.Mapping.{sheet_line, mapping_format, mapping_contents, lines_to}
use Rattle.sheets.specs.Records.{kind_of, contents_of}
use Rattle.plans.specs.declared.plan.MissingSource.{MissingSource}

-- ---- the lines

-- the lines in their array
abbrev pub LinesGathered : Place → ℕ → List Mapping → Place → Type 0
LinesGathered p i xs q = Gathered sheet_line (λ x. x) no_mapping 32 p i xs q

pub lines-made : (p : Place) (k : ℕ) {xs : List Mapping} {q : Place} → LinesGathered p k xs q → got (left xs q) ≡ reads (coded filled (times sheet_line k)) p
unfolding filled slots
lines-made p k g = rw (g.array, map-id g.values) (code-got filled (times sheet_line k) p g.read)

filled-take : (xs : List Mapping) → take (length xs) (filled xs) ≡ xs
unfolding filled slots
filled-take xs = slots-take no_mapping 32 xs

-- ---- the kind

module _ (p : Place) {v : ℕ} {q : Place} (h : got (left v q) ≡ reads (bits 1) p) where
  pub kind-zero : v ≡ 0 → got (left 0 q) ≡ reads (bits 1) p
  kind-zero e = ap (λ (k : ℕ). got (left k q)) (sym e) ∙ h

  pub kind-one : (v ≡ 0 → ⊥) → got (left 1 q) ≡ reads (bits 1) p
  kind-one n = let e : 1 ≡ v = omega (arith, n, bits-small 1 p h) in ap (λ (k : ℕ). got (left k q)) e ∙ h

-- ---- the sheet as far as its first j lines

module _ (j : ℕ) (p : Place) {v : ℕ} {q : Place} (h : got (left v q) ≡ reads (bits_from 3 0 32 6) p) where
  pub missing-stops : {n : ℕ} → refused n ≡ reads (bits 1) q → refused n ≡ reads (lines_to j) p
  unfolding lines_to
  missing-stops e = reads-then (bits_from 3 0 32 6) _ p h (reads-stops (bits 1) _ q e)

  module _ (m : MissingSource) {r : Place} (e : got (left (kind_of m) r) ≡ reads (bits 1) q) {i : ℕ} (c : i ≡ min v j) where
    pub lines-stop : {n : ℕ} → refused n ≡ reads (coded filled (times sheet_line i)) r → refused n ≡ reads (lines_to j) p
    unfolding lines_to
    lines-stop f =
        reads-then (bits_from 3 0 32 6) _ p h (reads-then (bits 1) _ q e (rw (← c) (reads-stops (times sheet_line i) _ r (uncoded-refused filled (times sheet_line i) r f))))

    pub contents-made : {xs : List Mapping} {t : Place} → got (left xs t) ≡ reads (coded filled (times sheet_line i)) r
        → got (left (contents_of (record { missing = m; lines = xs; count = i })) t) ≡ reads (lines_to j) p
    unfolding lines_to contents_of
    contents-made {xs} {t} f =
        let x = uncoded filled (times sheet_line i) r f in
        let n : length x.0 ≡ i = times-length sheet_line r.sheet i r.at (got-reads (times sheet_line i) r x.2).0 in
        let e1 : take i xs ≡ x.0 = ap (take i) (sym x.1) ∙ ap (λ (k : ℕ). take k (filled x.0)) (sym n) ∙ filled-take x.0 in
        rw e1 (reads-then (bits_from 3 0 32 6) _ p h (reads-then (bits 1) _ q e (rw (← c) (reads-then (times sheet_line i) _ r x.2 (end-read _ t)))))

-- the first 32 are all
pub whole-lines : (s : List ℕ) → rest_by (lines_to 32) s 0 ≡ mapping_contents s
unfolding mapping_contents lines_to mapping_format
whole-lines s = all-entries (λ k. bits 1 >>= (λ kind. times sheet_line k >>= (λ xs. end (record { kind = kind; lines = xs })))) s
