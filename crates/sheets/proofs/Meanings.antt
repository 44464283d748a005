-- The proofs of `specs.Claims` on what sheets mean.
use Rattle.std.specs.Prelude.{◌≡◌, ◌≤◌, ◌<◌}
use Rattle.common.specs.Logic.{◌∙◌, sym, List, ⊎_elim, inl, inr, ℕ, lt-ltb, le-ltb, length}
use Rattle.common.specs.Refusal.{got, refused}
use Rattle.common.proofs.Lists.{order}
use Rattle.common.proofs.Refusals.{check-holds, check-passes, then-got, then-refused}
use Rattle.format.specs.Bits.{Bytes}
use Rattle.format.specs.Format.{sheet_by}
use Rattle.format.specs.Meaning.{Meaning}
use Rattle.format.specs.Spelling.{Spells, FirstDefect}
use Rattle.format.proofs.Fields.{never}
use Rattle.format.proofs.Means.{meaning}
use Rattle.layout_sheets.proofs.Claimed.{layout-meaning-claim}
use Rattle.sheets.specs.Claims.{MappingMeaningClaim, SpellsFrame, LacksFrame, FrameMeaningClaim, MeaningClaim}
use Rattle.sheets.specs.Frame.{Sheets, frame_format, frame}
use Rattle.sheets.specs.Mapping.{mapping_format, mapping_contents}
use Rattle.sheets.specs.Values.{frame_values}
use Rattle.sheets.proofs.Values.{mapping-written, frame-written}

pub mapping-meaning-claim : MappingMeaningClaim
unfolding mapping_contents
mapping-meaning-claim = meaning mapping_format mapping-written

-- ---- three sheets in one input

short-frame : (s : List ℕ) → length s ≤ 4096 → frame s ≡ sheet_by frame_format s
unfolding frame
short-frame s h = then-got _ (check-passes 7 s (le-ltb _ _ h))

long-frame : (s : List ℕ) → 4096 < length s → frame s ≡ refused 7
unfolding frame
long-frame s h = then-refused _ (check-holds 7 s (lt-ltb _ _ h))

sheets-meaning : Meaning (sheet_by frame_format) (λ x s. Spells frame_format (frame_values x) x s) (FirstDefect frame_format)
sheets-meaning = meaning frame_format frame-written

frame-reads : (s : List ℕ) (x : Sheets) → Bytes s → frame s ≡ got x → SpellsFrame x s
frame-reads s x b h =
    ⊎_elim (λ (i : length s ≤ 4096). (i, (sheets-meaning.reads s x b).0 (sym (short-frame s i) ∙ h)))
    (λ (i : 4096 < length s). never (sym h) (sym (long-frame s i))) (order (length s) 4096)

frame-refuses : (s : List ℕ) (n : ℕ) → frame s ≡ refused n → LacksFrame s n
frame-refuses s n h =
    ⊎_elim (λ (i : length s ≤ 4096). inr (i, (sheets-meaning.refuses s n).0 (sym (short-frame s i) ∙ h)))
    (λ (i : 4096 < length s). let k = long-frame s i in inl (i, (cc))) (order (length s) 4096)

lacks-refuses : (s : List ℕ) (n : ℕ) → LacksFrame s n → frame s ≡ refused n
lacks-refuses s n (inl d) = rw d.1 (long-frame s d.0)
lacks-refuses s n (inr d) = short-frame s d.0 ∙ (sheets-meaning.refuses s n).1 d.1

pub frame-meaning-claim : FrameMeaningClaim
frame-meaning-claim =
    record {
      reads = λ s x b. (frame-reads s x b, λ k. short-frame s k.0 ∙ (sheets-meaning.reads s x b).1 k.1);
      refuses = λ s n. (frame-refuses s n, lacks-refuses s n);
      same = λ s t x b d h k. (frame-reads s x b h).1.sheet ∙ sym (frame-reads t x d k).1.sheet;
    }

pub meaning-claim : MeaningClaim
meaning-claim = record { layouts = layout-meaning-claim; mappings = mapping-meaning-claim; frames = frame-meaning-claim }
