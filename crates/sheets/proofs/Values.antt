-- The values of a mapping sheet, and of three sheets in one input, are those written out of what they say, and no others.
use Rattle.std.specs.Prelude.{◌≤◌, ◌<◌, ◌^◌}
use Rattle.common.specs.Logic.{sym, ap, refl, List, append-nil, ℕ, arith, length}
use Rattle.format.specs.Format.{bits}
use Rattle.format.proofs.Written.{Each, Written, written-end, written-bits, written_from, written_as, written-bind, written-times}
use Rattle.layout_sheets.specs.Values.{bytes_values}
use Rattle.layout_sheets.proofs.Values.{counted-written, inside-iff}
use Rattle.plans.specs.declared.plan.Mapping.{Mapping}
use Rattle.sheets.specs.Frame.{framed, Sheets, frame_format}
use Rattle.sheets.specs.Mapping.{sheet_line, MappingContents, mapping_format}
use Rattle.sheets.specs.Values.{line_values, mapping_values, frame_values}

-- ---- mapping sheets

line-written : Written sheet_line (λ x. (x.source < 2 ^ 5) × (x.target < 2 ^ 5)) line_values
unfolding sheet_line line_values
line-written =
    written_as (λ x. (λ k. (k.0, k.1.0), λ k. (k.0, (k.1, refl)))) (λ x k. refl)
    (written-bind (λ (x : Mapping). x.source) (λ i x g h. ap (λ (x : Mapping). x.source) (sym h.1)) (written-bits 5)
    (λ i. written-bind (λ (x : Mapping). x.target) (λ j x g h. ap (λ (x : Mapping). x.target) (sym h)) (written-bits 5) (λ j. written-end (record { source = i; target = j }))))

abbrev pub SaidMapping : MappingContents → Type 0
SaidMapping c = (length c.lines ≤ 32) × (c.kind < 2 ^ 1) × Each (λ (x : Mapping). (x.source < 2 ^ 5) × (x.target < 2 ^ 5)) c.lines

pub mapping-written : Written mapping_format SaidMapping mapping_values
unfolding mapping_format mapping_values
mapping-written =
    written_as (λ c. (λ k. ((inside-iff (length c.lines)).0 k.0, k.1.0, k.1.1.0.1), λ k. ((inside-iff (length c.lines)).1 k.0, (k.1, ((refl, k.2), refl)))))
    (λ c k. rw append-nil)
    (written-bind (λ (c : MappingContents). length c.lines) (λ k c g h. h.1.0.0) (written_from 3 0 32 6 (omega arith))
    (λ k. written-bind (λ (c : MappingContents). c.kind) (λ b c g h. ap (λ (c : MappingContents). c.kind) (sym h.1)) (written-bits 1)
    (λ b. written-bind (λ (c : MappingContents). c.lines) (λ xs c g h. ap (λ (c : MappingContents). c.lines) (sym h)) (written-times line-written k) (λ xs. written-end (record { kind = b; lines = xs })))))

-- ---- three sheets in one input

abbrev pub SaidSheet : List ℕ → Type 0
SaidSheet b = (length b < 2 ^ 16) × Each (λ (v : ℕ). v < 2 ^ 8) b

framed-written : Written framed SaidSheet bytes_values
unfolding framed
framed-written = counted-written 16 (bits 8) (written-bits 8)

abbrev pub SaidSheets : Sheets → Type 0
SaidSheets x = SaidSheet x.source × SaidSheet x.target × SaidSheet x.mapping

pub frame-written : Written frame_format SaidSheets frame_values
unfolding frame_format frame_values
frame-written =
    written_as (λ x. (λ k. (k.0, k.1.0, k.1.1.0), λ k. (k.0, (k.1, (k.2, refl))))) (λ x k. rw append-nil)
    (written-bind (λ (x : Sheets). x.source) (λ a x g h. ap (λ (x : Sheets). x.source) (sym h.1.1)) framed-written
    (λ a. written-bind (λ (x : Sheets). x.target) (λ b x g h. ap (λ (x : Sheets). x.target) (sym h.1)) framed-written
    (λ b. written-bind (λ (x : Sheets). x.mapping) (λ c x g h. ap (λ (x : Sheets). x.mapping) (sym h)) framed-written
    (λ c. written-end (record { source = a; target = b; mapping = c })))))
