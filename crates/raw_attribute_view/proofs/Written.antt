-- The claim of specs/Claims.antt: what is written lies in the part, and all else stays.
use Rattle.std.specs.Prelude.{◌≡◌, ◌++◌, ◌⊎◌, ◌≤◌, ◌<◌, ◌+◌, ◌*◌}
use Rattle.common.specs.Logic.{◌∙◌, sym, ap, subst, List, inl, inr, ℕ, arith, le-ltb, ltb-false, length, get_or, take, drop, length-take}
use lib.Seq.{take_all, take_at, drop_at, length-take-le, sets, length-sets}
use Rattle.common.specs.Refusal.{got}
use Rattle.common.proofs.Refusals.{passes-cons, check-got, check-passes, then-got, got-then}
use Rattle.common.proofs.Stores.{sets-before, sets-after}
use Rattle.raw_attribute_view.specs.Claims.{OnlyPart, WriteClaim}
use Rattle.layout.specs.Layout.{Layout}
use Rattle.raw_attribute_view.specs.declared.Part.{Part}
use Rattle.raw_attribute_view.specs.View.{Numbers, read_lines, start_in, part_bytes, write_part, fields_of, point_part, write_point}
use Rattle.raw_attribute_view.proofs.Parts.{put-over}

-- ---- of bytes written from a start on

module _ (a k : ℕ) (s new : List ℕ) (h : a + k ≤ length s) (l : length new ≤ k) where
  stays : (j : ℕ) → (j < a) ⊎ (a + k ≤ j) → get_or (sets s a new) j 0 ≡ get_or s j 0
  stays j (inl b) = sets-before new s a j b
  stays j (inr b) = sets-after new s a j (omega arith)

  shown : length new ≡ k → take k (drop a (sets s a new)) ≡ new
  shown e =
      ap (λ (x : List ℕ). take k (drop a x)) (put-over s new a (omega arith))
      ∙ ap (take k) (drop_at (take a s) (new ++ drop (a + length new) s) a (length-take-le a s (omega arith))) ∙ take_at new (drop (a + length new) s) k e

-- ---- the claim

module _ (s value t : List ℕ) (offset stride size i : ℕ) (w : write_part s offset stride size i value ≡ got t) where
  abbrev start : ℕ
  start = i * stride + offset

  accepted : (start + size ≤ length s) × (sets s start (take size value) ≡ t)
  unfolding write_part read_lines
  accepted = let g = check-got _ _ _ w in (ltb-false _ _ (passes-cons _ _ _ g.0).0, g.1)

  short : length (take size value) ≤ size
  short = omega (arith, length-take size value)

  only : OnlyPart s t start size
  only = subst (λ (x : List ℕ). OnlyPart s x start size) accepted.1 (record { same_length = length-sets s start (take size value); stays = stays start size s (take size value) accepted.0 short })

  shows : length value ≡ size → part_bytes t size (start_in (length t) offset stride size i) ≡ value
  unfolding start_in read_lines part_bytes
  shows e =
      let all : take size value ≡ value = take_all size value (omega arith) in
      let n : start + size ≤ length t = omega (arith, only.same_length, accepted.0) in
      ap (part_bytes t size) (check-passes 18 start (le-ltb _ _ n)) ∙ ap (λ (x : List ℕ). take size (drop start x)) (sym accepted.1)
      ∙ shown start size s (take size value) accepted.0 short (ap (λ (x : List ℕ). length x) all ∙ e) ∙ all

pub write-claim : WriteClaim
write-claim = record { only_part = only; shows = shows }

-- ---- of one attribute of one point

pub point-part : (l : Layout) (place count i : ℕ) (s value t : List ℕ) → write_point l place count s i value ≡ got t
    → (p : Part) × ((point_part l place count (length s) i ≡ got p) × OnlyPart s t p.start p.size)
unfolding write_point point_part start_in read_lines
point-part l place count i s value t h =
    let a = got-then _ (fields_of l place count (length s)) h in
    let v : Numbers = a.0 in
    let n = (accepted s value t v.offset v.stride v.size i a.2).0 in
    (record { start = i * v.stride + v.offset; size = v.size }, (then-got _ a.1 ∙ then-got _ (check-passes 18 _ (le-ltb _ _ n)), only s value t v.offset v.stride v.size i a.2))
