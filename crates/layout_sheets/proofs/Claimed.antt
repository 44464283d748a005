-- The proofs of `specs.Claims` on layout sheets.
use Rattle.std.specs.Prelude.{◌≡◌}
use Rattle.common.specs.Logic.{◌∙◌, List, ⊎_elim, ℕ, arith}
use Rattle.common.specs.Refusal.{got, refused}
use Rattle.common.proofs.Refusals.{then-got, then-refused, got-then, refused-then}
use Rattle.format.proofs.Means.{meaning}
use Rattle.layout.specs.Calls.{called}
use Rattle.layout.specs.Claims.{Accepted, start, added, taken}
use Rattle.layout.specs.Layout.{Layout}
use Rattle.layout.specs.Makers.{empty_layout}
use Rattle.layout.proofs.Accepted.{accepted-claim}
use Rattle.layout.proofs.Sharing.{sharing-claim}
use Rattle.layout_sheets.specs.Claims.{LayoutMeaningClaim, SheetClaim, DefectClaim, Sharing, SheetSharingClaim}
use Rattle.layout_sheets.specs.Sheet.{Contents, placed, given, layout_format, contents, add_all, layout_from, layout_sheet}
use Rattle.layout_sheets.proofs.Numbers.{early-contents}
use Rattle.layout_sheets.proofs.Placing.{placed-never}
use Rattle.layout_sheets.proofs.Turns.{turn-keeps}
use Rattle.layout_sheets.proofs.Values.{layout-written}

-- ---- accepted layout sheets

contents-accepted : (c : Contents) (k : Layout) → layout_from c ≡ got k → Accepted k
unfolding layout_from add_all
contents-accepted (placed cs) k h = turn-keeps called Accepted (λ l c m a e. added l m c e) empty_layout cs k start h
contents-accepted (given xs a) k h = taken xs a k h

sheet-accepted : (s : List ℕ) (k : Layout) → layout_sheet s ≡ got k → Accepted k
unfolding layout_sheet
sheet-accepted s k h = let g = got-then layout_from (contents s) h in contents-accepted g.0 k g.2

pub sheet-claim : SheetClaim
sheet-claim =
    record { sound = λ s k h. accepted-claim.sound k (sheet-accepted s k h); disjoint = λ s k h. accepted-claim.disjoint k (sheet-accepted s k h) }

-- ---- refused layout sheets

defect : (s : List ℕ) (n : ℕ) → contents s ≡ refused n → layout_sheet s ≡ refused n
unfolding layout_sheet
defect s n h = then-refused layout_from h

pub defect-claim : DefectClaim
defect-claim = record { refuses = defect; numbers = early-contents }

sharing : (s : List ℕ) → Sharing s → layout_sheet s ≡ refused 9
unfolding layout_sheet layout_from
sharing s h = then-got layout_from h.says ∙ sharing-claim.refuses h.attributes h.alignment h.shares

only : (s : List ℕ) → layout_sheet s ≡ refused 9 → Sharing s
unfolding layout_sheet layout_from
only s h = ⊎_elim (λ e. absurd (omega (arith, (early-contents s 9 e).1))) (λ g. says g.0 g.1 g.2) (refused-then layout_from (contents s) h)
  where
    says : (c : Contents) → contents s ≡ got c → layout_from c ≡ refused 9 → Sharing s
    says (placed cs) e f = absurd (placed-never cs f)
    says (given xs a) e f = record { attributes = xs; alignment = a; says = e; shares = sharing-claim.only xs a f }

pub sheet-sharing-claim : SheetSharingClaim
sheet-sharing-claim = record { refuses = sharing; only = only }

-- ---- what layout sheets mean

pub layout-meaning-claim : LayoutMeaningClaim
unfolding contents
layout-meaning-claim = meaning layout_format layout-written
