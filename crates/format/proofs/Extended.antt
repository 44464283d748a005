-- Formats that accept more: whatever is built of them accepts more.
use Rattle.std.specs.Prelude.{◌≡◌, ◌&&◌, ◌≤◌}
use Rattle.common.specs.Logic.{◌∙◌, sym, refl, true, Bool, false, cond, List, ⊎_elim, ℕ, suc, zero, arith, leb}
use Rattle.common.specs.Refusal.{got}
use Rattle.common.proofs.Lists.{decide}
use Rattle.common.proofs.Refusals.{got-then, then-got}
use Rattle.format.specs.Bits.{field}
use Rattle.format.specs.Format.{Format, end, refuse, next, ◌>>=◌, bits_from, times, read_by, to_end, rest_by, sheet_by, Extends}
use Rattle.format.proofs.Fields.{never}
use Rattle.format.proofs.Reading.{read-then, read-both}
use Rattle.format.proofs.Written.{bounds, inside}

pub extends-same : {X : Type 0} {f : Format X} → Extends f f
extends-same = record { gives = λ s p r h. h }

-- a refusal may be lifted
pub extends-refuse : {X : Type 0} {n : ℕ} {g : Format X} → Extends (refuse n) g
unfolding read_by
extends-refuse = record { gives = λ s p r h. never (sym h) refl }

pub extends-next : {X : Type 0} {w : ℕ} {f g : ℕ → Format X} → ((v : ℕ) → Extends (f v) (g v)) → Extends (next w f) (next w g)
unfolding read_by
extends-next {w} e =
    record { gives = λ s p r h. let k = got-then _ (field w s p) h in then-got _ k.1 ∙ (e k.0.value).gives s k.0.next r k.2 }

-- the values may lie further up
pub extends-from : (n low a b w : ℕ) → a ≤ b → Extends (bits_from n low a w) (bits_from n low b w)
unfolding bits_from
extends-from n low a b w h = extends-next (λ v. ⊎_elim (inside_too v) (λ (e : (leb low v && leb v a) ≡ false). rw e extends-refuse) (decide (leb low v && leb v a)))
  where
    inside_too : (v : ℕ) → (leb low v && leb v a) ≡ true → Extends (cond (leb low v && leb v a) (end v) (refuse n)) (cond (leb low v && leb v b) (end v) (refuse n))
    inside_too v e = let k = bounds low a v e in rw (e, inside low b v k.0 (omega arith)) extends-same

pub extends-either : {X : Type 0} (b : Bool) {f f' g g' : Format X} → Extends f f' → Extends g g' → Extends (cond b f g) (cond b f' g')
extends-either true e d = e
extends-either false e d = d

pub extends-bind : {X Y : Type 0} (f f' : Format X) (g g' : X → Format Y) → Extends f f' → ((x : X) → Extends (g x) (g' x)) → Extends (f >>= g) (f' >>= g')
extends-bind f f' g g' e d =
    record { gives = λ s p r h. let k = read-both f g s p h in read-then f' g' s p (e.gives s p k.0 k.1) ∙ (d k.0.value).gives s k.0.next r k.2 }

-- what follows alone accepts more
pub extends-after : {X Y : Type 0} (f : Format X) (g g' : X → Format Y) → ((x : X) → Extends (g x) (g' x)) → Extends (f >>= g) (f >>= g')
extends-after f g g' = extends-bind f f g g' extends-same

-- what goes before alone does
pub extends-before : {X Y : Type 0} {f f' : Format X} (g : X → Format Y) → Extends f f' → Extends (f >>= g) (f' >>= g)
extends-before g e = extends-bind _ _ g g e (λ x. extends-same)

pub extends-times : {X : Type 0} {f g : Format X} → Extends f g → (k : ℕ) → Extends (times f k) (times g k)
unfolding times
extends-times e zero = extends-same
extends-times {f} {g} e (suc k) = extends-bind f g _ _ e (λ x. extends-before _ (extends-times e k))

-- accepted sheets keep their meaning
pub extends-sheet : {X : Type 0} {f g : Format X} → Extends f g → (s : List ℕ) (x : X) → sheet_by f s ≡ got x → sheet_by g s ≡ got x
unfolding rest_by to_end
extends-sheet {f} {g} e s x h =
    let k = got-then _ (to_end f s 0) h in
    let m = got-then _ (read_by f s 0) k.1 in
    then-got _ (then-got _ (e.gives s 0 m.0 m.1) ∙ m.2) ∙ k.2
