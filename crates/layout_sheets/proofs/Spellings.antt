-- Document 02, points 4 and 9: which values of the fields give a length or a Custom, and which are refused.
use Rattle.std.specs.Prelude.{◌≡◌, ◌&&◌, ◌∷◌, ◌≤◌, ◌<◌, ◌^◌}
use Rattle.common.specs.Logic.{◌∙◌, sym, refl, ap₂, true, false, cond, List, [], ⊎_elim, ℕ, suc, arith, lt-ltb, le-ltb, lt-leb, eqb-true, eqb, leb}
use mathlib.Core.Path.{subst₂}
use Rattle.common.proofs.Lists.{decide, order, clash}
use Rattle.datatype.specs.Datatype.{custom}
use Rattle.datatype.specs.declared.datatype.Datatype.{Datatype}
use Rattle.format.specs.Format.{Format, end, refuse, next, ◌>>=◌, bits, bits_from}
use Rattle.format.specs.Spelling.{Leads, stop, step}
use Rattle.format.proofs.Written.{bounds, inside}
use Rattle.layout_sheets.specs.Claims.{GivesLength, short, long, LengthClaim, GivesCustom, fields, CustomFieldsClaim}
use Rattle.layout_sheets.specs.Sheet.{array_length, custom_format}
use Rattle.layout_sheets.specs.Values.{length_values, custom_values}
use Rattle.layout_sheets.proofs.Customs.{custom-written}
use Rattle.layout_sheets.proofs.Lengths.{length-written}

-- ---- a length

gives : (vs : List ℕ) (n : ℕ) → Leads array_length vs (end n) → GivesLength vs n
unfolding length_values
gives vs n l =
    let w = length-written.own l in
    let k = bounds 1 65535 n w.0 in
    rw w.1
    (⊎_elim (λ (h : n < 256). rw (lt-ltb n 256 h) (short n k.0 (omega arith))) (λ (h : 256 < suc n). rw (le-ltb n 256 (omega arith)) (long n (omega arith) k.1)) (order (suc n) 256))

given : {vs : List ℕ} {n : ℕ} → GivesLength vs n → Leads array_length vs (end n)
unfolding length_values
given (short n a b) = rw (lt-ltb n 256 (omega arith)) at (length-written.back n (inside 1 65535 n a (omega arith)))
given (long n a b) = rw (le-ltb n 256 a) at (length-written.back n (inside 1 65535 n (omega arith) b))

below : (v : ℕ) → v < 256 → Leads array_length (0 ∷ v ∷ []) (refuse 6)
unfolding array_length bits bits_from ◌>>=◌
below v h =
    let z : 0 < 2 ^ 8 = omega arith in
    let s : v < 2 ^ 16 = omega arith in
    let r : Leads {X = ℕ} (cond (leb 256 v && leb v 65535) (end v) (refuse 6)) [] (refuse 6) = rw (lt-leb 256 v h) stop in
    step z (step s r)

-- a refusal is not led to from an end, and from a refusal only at once
ends : {P X : Type 0} {x : X} {vs : List ℕ} {m : ℕ} → Leads (end x) vs (refuse m) → P
ends l = elim l [ ]

-- behind a field
through : {P X : Type 0} {w m : ℕ} {f : ℕ → Format X} {vs : List ℕ} → ((v : ℕ) (ws : List ℕ) → Leads (f v) ws (refuse m) → P) → Leads (next w f) vs (refuse m) → P
through k (step {v} h l) = k v _ l

at_once : {X : Type 0} {n m : ℕ} {vs : List ℕ} → Leads {X = X} (refuse n) vs (refuse m) → (m ≡ n) × (vs ≡ [])
at_once stop = (refl, refl)

in-sixteen : {m : ℕ} {vs : List ℕ} → Leads (bits_from 6 256 65535 16) vs (refuse m) → (m ≡ 6) × (v : ℕ) × (v < 256) × (vs ≡ v ∷ [])
unfolding bits_from
in-sixteen (step {v} h l) =
    ⊎_elim
    (λ (e : (leb 256 v && leb v 65535) ≡ true). ends (rw e at l))
    (λ (e : (leb 256 v && leb v 65535) ≡ false).
    let k = at_once (rw e at l) in
    (k.0, v, ⊎_elim (λ (a : 256 ≤ v). clash (inside 256 65535 v a (omega arith)) e) (λ (a : v < 256). a) (order 256 v), rw k.1))
    (decide (leb 256 v && leb v 65535))

only_below : {m : ℕ} {vs : List ℕ} → Leads array_length vs (refuse m) → (m ≡ 6) × (v : ℕ) × (v < 256) × (vs ≡ 0 ∷ v ∷ [])
unfolding array_length bits ◌>>=◌
only_below (step {v} h l) =
    ⊎_elim
    (λ (e : eqb v 0 ≡ true). let k = in-sixteen (rw e at l) in (k.0, k.1, k.2, ap₂ ◌∷◌ (eqb-true v 0 e) k.3))
    (λ (e : eqb v 0 ≡ false). ends (rw e at l))
    (decide (eqb v 0))

pub length-claim : LengthClaim
length-claim =
    record {
      gives = λ vs n. (gives vs n, given);
      one = λ vs ws n a b. (length-written.own a).1 ∙ sym (length-written.own b).1;
      refuses = λ vs m. (only_below, λ h. rw (h.0, h.3) (below h.1 h.2));
    }

-- ---- a Custom

custom-gives : (vs : List ℕ) (d : Datatype) → Leads custom_format vs (end d) → GivesCustom vs d
unfolding custom_values
custom-gives vs d l =
    let w = custom-written.own l in
    let k = bounds 1 65535 d.n w.0.0 in
    subst₂ GivesCustom (sym w.1) w.0.4 (fields d.n d.alignment d.name_high d.name_low k.0 k.1 (omega (arith, w.0.1)) w.0.2 w.0.3)

custom-given : {vs : List ℕ} {d : Datatype} → GivesCustom vs d → Leads custom_format vs (end d)
unfolding custom_values
custom-given (fields s a h l i j k m n) = custom-written.back (custom s a h l) (inside 1 65535 s i j, omega arith, m, n, refl)

-- size 0
no_size : Leads custom_format (0 ∷ []) (refuse 6)
unfolding custom_format bits bits_from ◌>>=◌
no_size = let z : 0 < 2 ^ 16 = omega arith in step z stop

-- behind the size nothing is refused
after-size : {P : Type 0} {s m : ℕ} {vs : List ℕ} → Leads (next 8 (λ a. next 64 (λ h. next 64 (λ l. end (custom s a h l))))) vs (refuse m) → P
after-size l = through (λ a us. through (λ h vs. through (λ l ws. ends))) l

only-no-size : {m : ℕ} {vs : List ℕ} → Leads custom_format vs (refuse m) → (m ≡ 6) × (vs ≡ 0 ∷ [])
unfolding custom_format bits bits_from ◌>>=◌
only-no-size (step {v} h l) =
    ⊎_elim
    (λ (e : (leb 1 v && leb v 65535) ≡ true). after-size (rw e at l))
    (λ (e : (leb 1 v && leb v 65535) ≡ false).
    let k = at_once (rw e at l) in
    let z : v ≡ 0 = ⊎_elim (λ (a : 1 ≤ v). clash (inside 1 65535 v a (omega arith)) e) (λ (a : v < 1). omega arith) (order 1 v) in
    (k.0, ap₂ ◌∷◌ z k.1))
    (decide (leb 1 v && leb v 65535))

pub custom-fields-claim : CustomFieldsClaim
custom-fields-claim =
    record {
      gives = λ vs d. (custom-gives vs d, custom-given);
      refuses = λ vs m. (only-no-size, λ h. rw (h.0, h.1) no_size);
    }
