-- A Custom in a sheet: written out.
use Rattle.std.specs.Prelude.{◌≡◌, ◌<◌, ◌^◌}
use Rattle.common.specs.Logic.{sym, ap, refl, arith}
use Rattle.datatype.specs.Datatype.{custom}
use Rattle.datatype.specs.declared.datatype.Datatype.{Datatype}
use Rattle.format.proofs.Written.{Inside, Written, written-end, written-bits, written_from, written_as, written-bind}
use Rattle.layout_sheets.specs.Sheet.{custom_format}
use Rattle.layout_sheets.specs.Values.{custom_values}

abbrev pub SaidCustom : Datatype → Type 0
SaidCustom d = Inside 1 65535 d.n × (d.alignment < 2 ^ 8) × (d.name_high < 2 ^ 64) × (d.name_low < 2 ^ 64) × (custom d.n d.alignment d.name_high d.name_low ≡ d)

pub custom-written : Written custom_format SaidCustom custom_values
unfolding custom_format custom_values
custom-written =
    written_as (λ d. (λ k. (k.0, k.1.0, k.1.1.0, k.1.1.1.0, k.1.1.1.1), λ k. (k.0, (k.1, (k.2, (k.3, k.4)))))) (λ d k. refl)
    (written-bind (λ (d : Datatype). d.n) (λ s d g h. ap (λ (d : Datatype). d.n) (sym h.1.1.1)) (written_from 6 1 65535 16 (omega arith))
    (λ s. written-bind (λ (d : Datatype). d.alignment) (λ a d g h. ap (λ (d : Datatype). d.alignment) (sym h.1.1)) (written-bits 8)
    (λ a. written-bind (λ (d : Datatype). d.name_high) (λ h d g k. ap (λ (d : Datatype). d.name_high) (sym k.1)) (written-bits 64)
    (λ h. written-bind (λ (d : Datatype). d.name_low) (λ l d g k. ap (λ (d : Datatype). d.name_low) (sym k)) (written-bits 64)
    (λ l. written-end (custom s a h l))))))
