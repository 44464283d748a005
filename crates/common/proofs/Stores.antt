-- Bytes stored one after the other (`sets`): what each byte then is; and a part of a slice as the checker writes it.
use Rattle.std.specs.Prelude.{◌≡◌, ◌∷◌, ◌++◌, ◌≤◌, ◌<◌, ◌+◌, ◌-◌}
use Rattle.common.specs.Logic.{◌∙◌, sym, ap, refl, subst, List, [], append_assoc, ℕ, suc, zero, not-suc-le-zero, le_of_suc-le-suc, add-zero, add-suc, suc-add, arith, length, get_or, take, drop, set, length-take, length-drop, length-set}
use borrow.Rule.Slice.PartMut.{put_mid}
use lib.Seq.{get_or-set_same, get_or-set_other, sets, sets-eq, drop-drop}

pub sets-before : (vs l : List ℕ) (i k : ℕ) → k < i → get_or (sets l i vs) k 0 ≡ get_or l k 0
sets-before [] l i k h = refl
sets-before (v ∷ vs) l i k h = sets-before vs (set l i v) (suc i) k (omega arith) ∙ get_or-set_other l i k v 0 (omega arith)

pub sets-after : (vs l : List ℕ) (i k : ℕ) → i + length vs ≤ k → get_or (sets l i vs) k 0 ≡ get_or l k 0
sets-after [] l i k h = refl
sets-after (v ∷ vs) l i k h = sets-after vs (set l i v) (suc i) k (omega arith) ∙ get_or-set_other l i k v 0 (omega arith)

pub sets-in : (vs l : List ℕ) (i b : ℕ) → b < length vs → i + b < length l → get_or (sets l i vs) (i + b) 0 ≡ get_or vs b 0
sets-in [] l i b h hl = absurd (not-suc-le-zero h)
sets-in (v ∷ vs) l i zero h hl =
    let z : i + 0 ≡ i = omega arith in
    let hi : i < length l = omega arith in
    subst (λ (m : ℕ). get_or (sets (set l i v) (suc i) vs) m 0 ≡ v) (sym z)
    (sets-before vs (set l i v) (suc i) i (omega arith) ∙ get_or-set_same l i v 0 hi)
sets-in (v ∷ vs) l i (suc b) h hl =
    let z : i + suc b ≡ suc i + b = omega arith in
    let hs : suc i + b < length (set l i v) = omega (arith, length-set l i v) in
    subst (λ (m : ℕ). get_or (sets (set l i v) (suc i) vs) m 0 ≡ get_or vs b 0) (sym z)
    (sets-in vs (set l i v) (suc i) b (le_of_suc-le-suc h) hs)

-- one run of bytes stored behind another is both stored as one
pub sets-append : (t : List ℕ) (p : ℕ) (a b : List ℕ) → sets (sets t p a) (p + length a) b ≡ sets t p (a ++ b)
sets-append t p [] b = rw add-zero
sets-append t p (x ∷ a) b = rw (add-suc, ← suc-add) (sets-append (set t p x) (suc p) a b)

-- the part from a on, of k bytes
pub part_length : (a k : ℕ) (xs : List ℕ) → a + k ≤ length xs → length (take (a + k - a) (drop a xs)) ≡ k
part_length a k xs h = simp (length-take, length-drop) (omega arith)

-- what is written to that part is stored there
pub put-sets : (a k : ℕ) (xs ys : List ℕ) → length ys ≡ k → a + k ≤ length xs → put_mid a (a + k - a) xs ys ≡ sets xs a ys
put-sets a k xs ys e h =
    let r : a + length ys ≤ length xs = omega arith in
    let z : a + (a + k - a) ≡ a + length ys = omega arith in
    ap (λ (l : List ℕ). take a xs ++ (ys ++ l)) (drop-drop (a + k - a) a xs ∙ ap (λ (n : ℕ). drop n xs) z)
    ∙ sym (sets-eq ys xs a r ∙ append_assoc (take a xs) ys (drop (a + length ys) xs))
