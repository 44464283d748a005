-- A place that is told is one of its list's: past the list's end, one entry more changes nothing.
use Rattle.std.specs.Prelude.{◌≡◌, ◌≤◌, ◌<◌}
use Rattle.common.specs.Logic.{◌∙◌, sym, cond, List, ⊎_elim, ℕ, suc, arith, le_refl, eqb, length}
use lib.Seq.{take_all}
use Rattle.common.specs.Refusal.{Outcome}
use Rattle.common.proofs.Lists.{order}
use Rattle.format.specs.Bits.{number_at}
use Rattle.format.specs.Format.{end, ◌>>=◌, bits, times, read_by, start_by}
use Rattle.layout.specs.Layout.{Layout}
use Rattle.layout_sheets.specs.Sheet.{datatype, placed_format, given_format, format_to, first_layout}
use Rattle.layout_sheets.proofs.Parts.{same_entries}
use Rattle.refusal_place.specs.Claims.{Shown}
use Rattle.refusal_place.specs.Place.{by_attributes, by_lines, first_targets, by_targets}
use Rattle.sheets.specs.Mapping.{sheet_line, lines_to, first_plan}
use Rattle.sheets.proofs.Between.{same-plan}

-- an entry with which a refusal shows changes something
changed : {X : Type 0} (n : ℕ) (first : ℕ → Outcome X) (k j : ℕ) → (k ≤ j → first (suc j) ≡ first j) → Shown n first j → j < k
changed n first k j same a = ⊎_elim (λ (h : k ≤ j). absurd (a.without j (le_refl j) (sym (same h) ∙ a.with_it))) (λ h. h) (order k j)

module _ (s : List ℕ) (j : ℕ) (h : number_at s 0 6 ≤ j) where
  same_format : read_by (format_to (suc j)) s 0 ≡ read_by (format_to j) s 0
  unfolding format_to
  same_format = same_entries (λ k. bits 1 >>= (λ kind. cond (eqb kind 0) (placed_format datatype k) (given_format datatype k))) s j h

  same_lines : read_by (lines_to (suc j)) s 0 ≡ read_by (lines_to j) s 0
  unfolding lines_to
  same_lines = same_entries (λ k. bits 1 >>= (λ kind. times sheet_line k >>= (λ xs. end (record { kind = kind; lines = xs })))) s j h

pub attribute-listed : (s : List ℕ) (n j : ℕ) → Shown n (by_attributes s) j → j < number_at s 0 6
unfolding first_layout start_by
attribute-listed s n j a = changed n (by_attributes s) (number_at s 0 6) j (λ h. rw (same_format s j h)) a

pub line-listed : (l m : Layout) (s : List ℕ) (n j : ℕ) → Shown n (by_lines l m s) j → j < number_at s 0 6
unfolding first_plan start_by
line-listed l m s n j a =
    changed n (by_lines l m s) (number_at s 0 6) j
    (λ h. same-plan (λ t. start_by (lines_to (suc j)) t 0) (λ t. start_by (lines_to j) t 0) l m s (rw (same_lines s j h))) a

pub target-listed : (l m : Layout) (s : List ℕ) (n j : ℕ) → Shown n (by_targets l m s) j → j < length m.attributes
unfolding first_targets
target-listed l m s n j a =
    changed n (by_targets l m s) (length m.attributes) j
    (λ h. rw (take_all j m.attributes h, take_all (suc j) m.attributes (omega arith))) a
