-- Bytes and the numbers that their bits spell: each is told by the other.
use Rattle.std.specs.Prelude.{◌≡◌, ◌∷◌, ◌++◌, ◌≤◌, ◌<◌, ◌+◌, ◌-◌, ◌*◌, ◌^◌, ◌%◌, ◌/◌}
use Rattle.common.specs.Logic.{◌∙◌, sym, ap, refl, List, [], ⊎_elim, ℕ, suc, zero, mod-lt, not-suc-le-zero, arith, length, get_or, take, length-append, get_or-append}
use lib.Pow.{pow_pos, high, low, shr-shr, shl_lt, shr_lt}
use lib.Seq.{take-suc, take-length, get_or_at}
use Rattle.common.proofs.Lists.{order}
use Rattle.format.specs.Bits.{Bytes, number_at}
use Rattle.format.specs.Spelling.{bytes_of, packed}
use Rattle.format.proofs.Fields.{number_small}
use Rattle.format.proofs.Numbers.{number-split, parts}

-- ---- a byte

-- the first j bits of the byte at a place
pub byte-bits : (s : List ℕ) (i j : ℕ) → get_or s i 0 < 256 → j ≤ 8 → number_at s (8 * i) j ≡ get_or s i 0 / 2 ^ (8 - j)
unfolding number_at
byte-bits s i zero h l = omega arith
byte-bits s i (suc j) h l =
    let x = get_or s i 0 in
    let d : (8 * i + j) / 8 ≡ i = omega arith in
    let m : (8 * i + j) % 8 ≡ j = omega arith in
    let k : 8 - j ≡ (7 - j) + 1 = omega arith in
    let e : x / 2 ^ (8 - j) ≡ x / 2 ^ (7 - j) / 2 = rw k (sym (shr-shr x (7 - j) 1)) in
    let g : 8 - suc j ≡ 7 - j = omega arith in
    rw (byte-bits s i j h (omega arith), d, m, e, g) (omega arith)

pub byte-number : (s : List ℕ) (i : ℕ) → get_or s i 0 < 256 → number_at s (8 * i) 8 ≡ get_or s i 0
byte-number s i h = byte-bits s i 8 h (omega arith) ∙ omega arith

number-none : (s : List ℕ) (p : ℕ) → number_at s p 0 ≡ 0
unfolding number_at
number-none s p = refl

-- bits are those of the first bytes
pub number-front : (s t : List ℕ) (p w : ℕ) → p + w ≤ 8 * length s → number_at (s ++ t) p w ≡ number_at s p w
unfolding number_at
number-front s t p zero h = refl
number-front s t p (suc w) h = rw (number-front s t p w (omega arith), get_or-append s t 0 ((p + w) / 8) (omega arith))

-- ---- bytes

pub length-bytes : (n v : ℕ) → length (bytes_of n v) ≡ n
unfolding bytes_of
length-bytes zero v = refl
length-bytes (suc n) v = length-append (bytes_of n (v / 256)) (v % 256 ∷ []) ∙ rw (length-bytes n (v / 256)) (omega arith)

pub bytes_small : (n v : ℕ) → Bytes (bytes_of n v)
unfolding bytes_of
bytes_small zero v i h = absurd (not-suc-le-zero h)
bytes_small (suc n) v i h =
    let s = bytes_of n (v / 256) in
    let l = length-append s (v % 256 ∷ []) in
    ⊎_elim
    (λ (k : suc i ≤ length s). rw (get_or-append s (v % 256 ∷ []) 0 i k) (bytes_small n (v / 256) i k))
    (λ (k : length s < suc i). rw (get_or_at s (v % 256) [] 0 i (omega arith)) (mod-lt v (omega arith)))
    (order (suc i) (length s))

pub bytes-number : (n v : ℕ) → v < 2 ^ (8 * n) → number_at (bytes_of n v) 0 (8 * n) ≡ v
unfolding bytes_of
bytes-number zero v h = omega (arith, number-none [] 0)
bytes-number (suc n) v h =
    let s = bytes_of n (v / 256) in
    let l : length s ≡ n = length-bytes n (v / 256) in
    let e : 8 * suc n ≡ 8 * n + 8 = omega arith in
    let last : get_or (s ++ (v % 256 ∷ [])) n 0 ≡ v % 256 = get_or_at s (v % 256) [] 0 n l in
    let small : get_or (s ++ (v % 256 ∷ [])) n 0 < 256 = rw last (mod-lt v (omega arith)) in
    let f = bytes-number n (v / 256) (shr_lt (8 * n) 8 (rw e at h)) in
    rw (e, number-split, number-front s (v % 256 ∷ []) 0 (8 * n) (omega arith), f, byte-number (s ++ (v % 256 ∷ [])) n small, last) (omega arith)

pub bytes-of-number : (s : List ℕ) (n : ℕ) → Bytes s → n ≤ length s → bytes_of n (number_at s 0 (8 * n)) ≡ take n s
unfolding bytes_of
bytes-of-number s zero b h = refl
bytes-of-number s (suc n) b h =
    let e : 8 * suc n ≡ 8 * n + 8 = omega arith in
    let x = get_or s n 0 in
    let k : number_at s 0 (8 * suc n) ≡ number_at s 0 (8 * n) * 2 ^ 8 + x = rw (e, number-split, byte-number s n (b n h)) in
    rw (k, high (number_at s 0 (8 * n)) 8 (b n h), low (number_at s 0 (8 * n)) 8 (b n h), bytes-of-number s n b (omega arith)) (sym (take-suc s n 0 h))

-- ---- packed bits

filled : (n w r v : ℕ) → 8 * n ≡ w + r → v < 2 ^ w → (number_at (bytes_of n (v * 2 ^ r)) 0 w ≡ v) × (number_at (bytes_of n (v * 2 ^ r)) w r ≡ 0)
filled n w r v e h =
    let s = bytes_of n (v * 2 ^ r) in
    let k : number_at s 0 (w + r) ≡ v * 2 ^ r = ap (number_at s 0) (sym e) ∙ bytes-number n (v * 2 ^ r) (rw e (shl_lt w r h)) in
    let j : number_at s 0 w * 2 ^ r + number_at s w r ≡ v * 2 ^ r + 0 = sym (number-split s w r) ∙ k ∙ omega arith in
    parts r (number_small s w r) (pow_pos r) j

module _ (w : ℕ) where
  pub length-packed : (v : ℕ) → length (packed w v) ≡ (w + 7) / 8
  unfolding packed
  length-packed v = length-bytes ((w + 7) / 8) _

  pub packed-small : (v : ℕ) → Bytes (packed w v)
  unfolding packed
  packed-small v = bytes_small ((w + 7) / 8) _

  -- the first w bits spell the number, and the others are zero
  pub packed-spells : (v : ℕ) → v < 2 ^ w → (number_at (packed w v) 0 w ≡ v) × (number_at (packed w v) w (8 * ((w + 7) / 8) - w) ≡ 0)
  unfolding packed
  packed-spells v h = filled ((w + 7) / 8) w (8 * ((w + 7) / 8) - w) v (omega arith) h

  -- a sheet of which only the first w bits may be other than zero is these bits packed
  pub packed-is : (s : List ℕ) → Bytes s → length s ≡ (w + 7) / 8 → number_at s w (8 * length s - w) ≡ 0 → s ≡ packed w (number_at s 0 w)
  unfolding packed
  packed-is s b l z =
      let n = length s in
      let r = 8 * n - w in
      let e : 8 * n ≡ w + r = omega arith in
      let k : number_at s 0 (8 * n) ≡ number_at s 0 w * 2 ^ r = ap (number_at s 0) e ∙ number-split s w r ∙ rw z (omega arith) in
      sym (take-length s) ∙ sym (bytes-of-number s n b (omega arith)) ∙ rw (k, ← l)
