-- Numbers in little-endian bytes: what is read and written, and that what was written is read back.
use Rattle.std.specs.Prelude.{◌≡◌, ◌∷◌, ◌++◌, ◌≤◌, ◌<◌, ◌+◌, ◌-◌, ◌*◌, ◌^◌, ◌%◌, ◌/◌}
use Rattle.common.specs.Logic.{◌∙◌, sym, ap, refl, ap₂, List, [], append_assoc, ℕ, suc, zero, mod-eq_of_lt, mul_assoc, mul_comm, pow-succ', div-div-eq-div-mul, arith, lit<, length, get_or, replicate, take, drop, length-append, length-take, length-drop}
use native.Mathlib.Nat.{one-le-pow}
use borrow.Rule.Slice.PartMut.{put_mid}
use lib.Seq.{take_at, take-add}
use lib.ListN.{drop_of_length-le}
use lib.Arith.{mod-mul}
use Rattle.std.specs.Int.{w64, bytes_low_first, from_le_bytes, to_le_bytes}
use Rattle.attribute_conversion.specs.Bytes.{le_value, le_bytes, Loaded}

pub value-append : (s t : List ℕ) → le_value (s ++ t) ≡ le_value s + 256 ^ length s * le_value t
unfolding le_value
value-append [] t = omega arith
value-append (b ∷ s) t =
    let e : 256 ^ suc (length s) * le_value t ≡ 256 * (256 ^ length s * le_value t) = ap (λ (z : ℕ). z * le_value t) (pow-succ' 256 (length s)) ∙ mul_assoc 256 (256 ^ length s) (le_value t) in
    ap (λ (z : ℕ). b + 256 * z) (value-append s t) ∙ omega arith

-- ---- what is read

-- the bytes of a number, as their number is told
written-back : (s : List ℕ) → ((k : ℕ) → get_or s k 0 < 256) → (le_bytes (length s) (le_value s) ≡ s) × (le_value s < 256 ^ length s)
unfolding le_value le_bytes
written-back [] f = (refl, omega arith)
written-back (b ∷ s) f =
    let r = written-back s (λ k. f (suc k)) in
    let v = le_value s in
    let b-fits : b < 256 = f 0 in
    let low : (b + 256 * v) % 256 ≡ b = omega arith in
    let high : (b + 256 * v) / 256 ≡ v = omega arith in
    (ap₂ ◌∷◌ low (ap (le_bytes (length s)) high ∙ r.0), omega (arith, r.1, pow-succ' 256 (length s)))

value-from : (i : ℕ) (xs : List ℕ) → le_value (drop i xs) ≡ get_or xs i 0 + 256 * le_value (drop (suc i) xs)
unfolding le_value
value-from zero [] = refl
value-from (suc i) [] = refl
value-from zero (x ∷ xs) = refl
value-from (suc i) (x ∷ xs) = value-from i xs

-- the library's number of eight bytes
eight : (xs : List ℕ) → length xs ≡ 8 → from_le_bytes w64 xs ≡ le_value xs
unfolding le_value
eight xs e =
    let none : le_value (drop 8 xs) ≡ 0 = rw (drop_of_length-le xs {i = 8} (omega arith)) in
    omega (arith, none, value-from 0 xs, value-from 1 xs, value-from 2 xs, value-from 3 xs, value-from 4 xs, value-from 5 xs, value-from 6 xs, value-from 7 xs)

-- eight zeros, behind the first n
zeros : (m n : ℕ) → le_value (drop n (replicate m 0)) ≡ 0
unfolding le_value
zeros zero zero = refl
zeros zero (suc n) = refl
zeros (suc m) zero = omega (arith, zeros m 0)
zeros (suc m) (suc n) = zeros m n

pub load-all : (s p : List ℕ) (r : ℕ) → length s ≤ 8 → ((k : ℕ) → get_or s k 0 < 256) → p ≡ s → r ≡ from_le_bytes w64 (p ++ drop (length s) (replicate 8 0)) → Loaded (length s) s r
load-all s p r h f P R =
    let w = written-back s f in
    let e : r ≡ le_value s =
    R ∙ ap (λ (x : List ℕ). from_le_bytes w64 (x ++ drop (length s) (replicate 8 0))) P
    ∙ eight (s ++ drop (length s) (replicate 8 0)) (simp (length-append, length-drop) (omega arith))
    ∙ value-append s _ ∙ rw (zeros 8 (length s)) (omega arith) in
    record { value = e; back = ap (le_bytes (length s)) e ∙ w.0; fits = omega (arith, w.1) }

-- ---- what is written

low-first : (i k x : ℕ) → bytes_low_first i k x ≡ le_bytes k (x / 256 ^ i)
unfolding le_bytes
low-first i zero x = refl
low-first zero (suc k) x =
    let low : x % 256 ≡ x / 1 % 256 = omega arith in
    let rest : x / 256 ≡ x / 1 / 256 = omega arith in
    ap₂ ◌∷◌ low (low-first 1 k x ∙ ap (le_bytes k) rest)
low-first (suc i) (suc k) x =
    ap (λ (l : List ℕ). x / 256 ^ suc i % 256 ∷ l)
    (low-first (suc (suc i)) k x ∙ ap (le_bytes k) (ap (λ (m : ℕ). x / m) (pow-succ' 256 (suc i) ∙ mul_comm 256 (256 ^ suc i)) ∙ sym (div-div-eq-div-mul x (256 ^ suc i) 256)))

prefix : (n k x : ℕ) → n ≤ k → take n (le_bytes k x) ≡ le_bytes n x
unfolding le_bytes
prefix zero k x h = refl
prefix (suc n) zero x h = absurd (omega arith)
prefix (suc n) (suc k) x h = ap (λ (l : List ℕ). x % 256 ∷ l) (prefix n k (x / 256) (omega arith))

pub store-all : (n x : ℕ) (all d : List ℕ) → n ≤ 8 → all ≡ to_le_bytes w64 x → d ≡ take n all → d ≡ le_bytes n x
store-all n x all d h A D =
    let e : x / 1 ≡ x = omega arith in
    D ∙ ap (take n) (A ∙ low-first 0 8 x ∙ ap (le_bytes 8) e) ∙ prefix n 8 x h

pub length-bytes : (n x : ℕ) → length (le_bytes n x) ≡ n
unfolding le_bytes
length-bytes zero x = refl
length-bytes (suc n) x = ap suc (length-bytes n (x / 256))

-- ---- a copy: the first i are as in the source

-- a part of k bytes, stored from the byte i on
pub part-stored : (i k : ℕ) (dst last : List ℕ) → i + k ≤ length dst → length last ≡ k → (length (put_mid i (i + k - i) dst last) ≡ length dst) × (take (i + k) (put_mid i (i + k - i) dst last) ≡ take i dst ++ last)
part-stored i k dst last h e =
    let first : length (take i dst ++ last) ≡ i + k = simp (length-append, length-take) (omega arith) in (
      simp (length-append, length-take, length-drop) (omega arith),
      ap (take (i + k)) (sym (append_assoc (take i dst) last (drop (i + k - i) (drop i dst)))) ∙ take_at (take i dst ++ last) (drop (i + k - i) (drop i dst)) (i + k) first,
    )

pub part-copied : (i k : ℕ) (src dst last : List ℕ) → i + k ≤ length src → length dst ≡ length src → last ≡ take (i + k - i) (drop i src) → take i dst ≡ take i src
    → (length (put_mid i (i + k - i) dst last) ≡ length src) × (take (i + k) (put_mid i (i + k - i) dst last) ≡ take (i + k) src)
part-copied i k src dst last h e l t =
    let z : i + k - i ≡ k = omega arith in
    let last-is : last ≡ take k (drop i src) = l ∙ ap (λ (n : ℕ). take n (drop i src)) z in
    let s = part-stored i k dst last (omega arith) (ap length last-is ∙ simp (length-take, length-drop) (omega arith)) in
    (s.0 ∙ e, s.1 ∙ ap₂ ◌++◌ t last-is ∙ sym (take-add i k src))

-- ---- what was written is read back

pub read_low : (n x : ℕ) → le_value (le_bytes n x) ≡ x % 256 ^ n
unfolding le_value le_bytes
read_low zero x = omega arith
read_low (suc n) x =
    ap (λ (y : ℕ). x % 256 + 256 * y) (read_low n (x / 256))
    ∙ omega (arith, ap (λ (m : ℕ). x % m) (pow-succ' 256 n ∙ mul_comm 256 (256 ^ n)) ∙ mod-mul x {m = 256 ^ n} {c = 256} (one-le-pow n 256 (lit< tt)) (lit< tt))

pub read_back : (n x : ℕ) → x < 256 ^ n → le_value (le_bytes n x) ≡ x
read_back n x h = read_low n x ∙ mod-eq_of_lt h
