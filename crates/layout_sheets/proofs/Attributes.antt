-- One attribute of a layout sheet: name, datatype, packing or offset.
use Rattle.std.specs.Prelude.{◌≡◌, ◌≤◌, ◌<◌, ◌^◌}
use Rattle.common.specs.Logic.{◌∙◌, sym, ap, subst, List, ℕ, min, arith}
use mathlib.Core.List.{map-id}
use Rattle.common.specs.Refusal.{got, refused}
use Rattle.datatype.specs.declared.datatype.Datatype.{Datatype}
use Rattle.format.specs.Bits.{Read}
use Rattle.format.specs.Format.{bits, times, read_by}
use Rattle.format.proofs.Fields.{field-got}
use Rattle.format.proofs.Reading.{end_read, read-both, read-bits}
use Rattle.layout_sheets.specs.Place.{Place}
use Rattle.layout_sheets.specs.Reader.{left, reads, coded}
use Rattle.layout_sheets.specs.Records.{name_record, definition_record, entry_record}
use Rattle.layout_sheets.specs.Sheet.{name_byte, name, datatype, Entry, entry}
use Rattle.layout_sheets.specs.declared.layout_sheet.Name.{Name}
use Rattle.layout_sheets.proofs.Gathering.{Gathered, gathered-length}
use Rattle.layout_sheets.proofs.Readers.{end-read, reads-then, reads-stops, code-got, code-stops, uncoded, uncoded-refused}

-- ---- the name

-- the bytes of a name in their array
abbrev pub NameGathered : Place → ℕ → List ℕ → Place → Type 0
NameGathered p i bytes q = Gathered name_byte (λ b. b) 0 31 p i bytes q

pub name-made : (p q : Place) (k : ℕ) {bytes : List ℕ} {r : Place} → got (left k q) ≡ reads (bits 5) p → NameGathered q k bytes r → got (left (record { bytes = bytes; len = k }) r) ≡ reads (coded name_record name) p
unfolding name name_record
name-made p q k e g =
    rw (g.array, map-id g.values, ← gathered-length name_byte (λ b. b) 0 31 q g) (code-got name_record name p (reads-then (bits 5) (times name_byte) p e g.read))

-- ---- packing or offset

module _ (w : ℕ) (p : Place) where
  pub entry-name : {n : ℕ} → refused n ≡ reads (coded name_record name) p → refused n ≡ reads (coded entry_record (entry datatype w)) p
  unfolding entry
  entry-name h = code-stops entry_record (entry datatype w) p (reads-stops name _ p (uncoded-refused name_record name p h))

  module _ {b : Name} {q : Place} (h : got (left b q) ≡ reads (coded name_record name) p) where
    pub entry-datatype : {n : ℕ} → refused n ≡ reads datatype q → refused n ≡ reads (coded entry_record (entry datatype w)) p
    unfolding entry
    entry-datatype e = let x = uncoded name_record name p h in code-stops entry_record (entry datatype w) p (reads-then name _ p x.2 (reads-stops datatype _ q e))

    module _ {d : Datatype} {r : Place} (e : got (left d r) ≡ reads datatype q) (l : w ≤ 16) where
      pub entry-number : {n : ℕ} → refused n ≡ reads (bits (min w 16)) r → refused n ≡ reads (coded entry_record (entry datatype w)) p
      unfolding entry
      entry-number k =
          let x = uncoded name_record name p h in
          let m : min w 16 ≡ w = omega arith in
          code-stops entry_record (entry datatype w) p (reads-then name _ p x.2 (reads-then datatype _ q e (reads-stops (bits w) _ r (rw m at k))))

      pub entry-made : {v : ℕ} {t : Place} → got (left v t) ≡ reads (bits (min w 16)) r
          → got (left (record { definition = record { name = b.bytes; name_len = b.len; datatype = d }; number = v }) t) ≡ reads (coded entry_record (entry datatype w)) p
      unfolding entry entry_record definition_record name_record
      entry-made {v} {t} k =
          let x = uncoded name_record name p h in
          let m : min w 16 ≡ w = omega arith in
          let made = code-got entry_record (entry datatype w) p (reads-then name _ p x.2 (reads-then datatype _ q e (reads-then (bits w) _ r (rw m at k) (end-read _ t)))) in
          ap (λ (n : Name). got (left (record { definition = record { name = n.bytes; name_len = n.len; datatype = d }; number = v }) t)) (sym x.1) ∙ made

-- the number of w bits
pub entry-small : (w : ℕ) (s : List ℕ) (at : ℕ) (e : Read Entry) → read_by (entry datatype w) s at ≡ got e → e.value.number < 2 ^ w
unfolding entry
entry-small w s at e h =
    let g = read-both name _ s at h in
    let k = read-both datatype _ s g.0.next g.2 in
    let x = read-both (bits w) _ s k.0.next k.2 in
    let q = end_read _ s x.0.next x.2 in
    let f = field-got w s k.0.next (sym (sym (read-bits w s k.0.next) ∙ x.1)) in
    subst (λ (y : Read Entry). y.value.number < 2 ^ w) q f.small
