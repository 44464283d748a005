-- Sheets that document 01's format accepts, or that of document 02's point 4, keep their meaning.
use Rattle.std.specs.Prelude.{◌≡◌, ◌&&◌, ◌≤◌}
use Rattle.common.specs.Logic.{refl, true, Bool, false, cond, List, ⊎_elim, ℕ, arith, eqb-true, eqb, leb}
use Rattle.common.specs.Refusal.{got}
use Rattle.common.proofs.Lists.{decide}
use Rattle.common.proofs.Refusals.{then-got}
use Rattle.datatype.specs.declared.datatype.Datatype.{Datatype}
use Rattle.format.specs.Format.{Format, end, refuse, ◌>>=◌, bits, bits_from, sheet_by, Extends}
use Rattle.format.proofs.Extended.{extends-same, extends-refuse, extends-next, extends-from, extends-either, extends-bind, extends-after, extends-before, extends-times, extends-sheet}
use Rattle.layout_sheets.specs.Claims.{KeepsMeaning, OlderSheetsClaim}
use Rattle.layout_sheets.specs.Older.{array_length01, format01, format04}
use Rattle.layout_sheets.specs.Sheet.{name, array_length, array_format, after_code, datatype_over, datatype, entry, Contents, placed_format, given_format, format_over, layout_format, contents, layout_from, layout_sheet}

length-longer : Extends array_length01 array_length
unfolding array_length01 array_length bits_from bits ◌>>=◌
length-longer = extends-next (λ v. ⊎_elim (lifted v) (λ (e : eqb v 0 ≡ false). rw e (kept v (leb 1 v && leb v 255))) (decide (eqb v 0)))
  where
    lifted : (v : ℕ) → eqb v 0 ≡ true → Extends (cond (leb 1 v && leb v 255) (end v) (refuse 6)) (cond (eqb v 0) (bits_from 6 256 65535 16) (end v))
    lifted v e = rw (eqb-true v 0 e) extends-refuse

    kept : (v : ℕ) (b : Bool) → Extends (cond b (end v) (refuse 6)) (end v)
    kept v true = extends-same
    kept v false = extends-refuse

-- more codes, and more lengths
datatype-longer : (m n : ℕ) (f g : Format ℕ) → m ≤ n → Extends f g → Extends (datatype_over m f) (datatype_over n g)
unfolding datatype_over after_code array_format
datatype-longer m n f g l h = extends-bind _ _ _ _ (extends-from 5 0 m n 5 l) (λ c. extends-either (eqb c 16) (extends-before _ h) extends-same)

-- a sheet keeps its meaning where the format of datatypes accepts more
module _ (d e : Format Datatype) (h : Extends d e) where
  entry-longer : (w : ℕ) → Extends (entry d w) (entry e w)
  unfolding entry
  entry-longer w = extends-after name _ _ (λ b. extends-before _ h)

  pub format-longer : Extends (format_over d) (format_over e)
  unfolding format_over placed_format given_format
  format-longer =
      extends-after (bits_from 3 0 32 6) _ _ (λ k. extends-after (bits 1) _ _ (λ kind.
      extends-either (eqb kind 0) (extends-before _ (extends-times (entry-longer 8) k)) (extends-after (bits 16) _ _ (λ a. extends-before _ (extends-times (entry-longer 16) k)))))

  keeps : e ≡ datatype → KeepsMeaning (format_over d)
  unfolding contents layout_format layout_sheet
  keeps q = record { says = says; gives = λ s c k. then-got layout_from (says s c k) }
    where
      says : (s : List ℕ) (c : Contents) → sheet_by (format_over d) s ≡ got c → sheet_by (format_over datatype) s ≡ got c
      says s c k = rw (← q) (extends-sheet format-longer s c k)

pub older-sheets-claim : OlderSheetsClaim
unfolding format01 format04 datatype
older-sheets-claim =
    record {
      document-01 = keeps _ _ (datatype-longer 16 17 array_length01 array_length (omega arith) length-longer) refl;
      point-4 = keeps _ _ (datatype-longer 16 17 array_length array_length (omega arith) extends-same) refl;
    }
