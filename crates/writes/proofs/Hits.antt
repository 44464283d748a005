-- Which byte of which point's bytes a byte of the buffer is.
use Rattle.std.specs.Prelude.{◌≡◌, ◌≤◌, ◌+◌, ◌-◌, ◌*◌, ◌%◌, ◌/◌}
use Rattle.common.specs.Logic.{◌∙◌, sym, ap, true, ℕ, add-mul, div-add-mod', arith, lt-ltb, le-leb, leb-true, ltb-true, leb, ltb}
use lib.Arith.{digits_div, digits_mod}
use Rattle.common.proofs.Lists.{and_left, and_right}
use Rattle.writes.specs.Claims.{Hits}
use Rattle.writes.specs.Writes.{Write, begins, starting_at, point_of, byte_of, is_in, write_from}
use Rattle.writes.specs.declared.Strided.{Strided}

module _ (w : Write) (n : ℕ) where
  module _ (spaced : w.size ≤ w.place.stride) {k i b : ℕ} (h : Hits w n k i b) where
    pub hit-point : point_of w k ≡ i
    hit-point =
        let e : k - w.place.base ≡ i * w.place.stride + b = omega (arith, h.place) in
        ap (λ (x : ℕ). x / w.place.stride) e ∙ digits_div i {m = w.place.stride} {r = b} (omega (arith, h.byte))

    pub hit-place : byte_of w k ≡ b
    hit-place =
        let e : k - w.place.base ≡ i * w.place.stride + b = omega (arith, h.place) in
        ap (λ (x : ℕ). x % w.place.stride) e ∙ digits_mod i {m = w.place.stride} {r = b} (omega (arith, h.byte))

    pub hit-is : is_in w n k ≡ true
    unfolding is_in
    hit-is =
        simp (
          le-leb w.place.base k (omega (arith, h.place)),
          lt-ltb (point_of w k) n (omega (arith, hit-point, h.point)),
          lt-ltb (byte_of w k) w.size (omega (arith, hit-place, h.byte)),
        )

  -- two points of one write whose bytes hold the byte are one
  pub one-point : w.size ≤ w.place.stride → {k i b e d : ℕ} → Hits w n k i b → Hits w n k e d → i ≡ e
  one-point s g h = sym (hit-point s g) ∙ hit-point s h

  pub is-hit : (k : ℕ) → is_in w n k ≡ true → Hits w n k (point_of w k) (byte_of w k)
  unfolding is_in
  is-hit k e =
      let r = and_right (leb w.place.base k) _ e in
      record {
        point = ltb-true _ _ (and_left (ltb (point_of w k) n) _ r);
        byte = ltb-true _ _ (and_right (ltb (point_of w k) n) _ r);
        place = omega (arith, leb-true w.place.base k (and_left (leb w.place.base k) _ e), div-add-mod' (k - w.place.base) w.place.stride);
      }

-- ---- the points from d on

-- the point i of them is the point d + i of all
pub starts-at : (a : Strided) (d i : ℕ) → begins (starting_at d a) i ≡ begins a (d + i)
starts-at a d i = omega (arith, add-mul d i a.stride)

module _ (w : Write) (d : ℕ) where
  pub later-hit : {n k i b : ℕ} → Hits (write_from d w) n k i b → Hits w (d + n) k (d + i) b
  later-hit {n} {k} {i} {b} h =
      record { point = omega (arith, h.point); byte = h.byte; place = omega (arith, h.place, starts-at w.place d i) }

  pub hit_later : {n k i b : ℕ} → d ≤ i → Hits w (d + n) k i b → Hits (write_from d w) n k (i - d) b
  hit_later {n} {k} {i} {b} l h =
      let e : d + (i - d) ≡ i = omega arith in
      let p : begins w.place (d + (i - d)) ≡ begins w.place i = ap (begins w.place) e in
      record { point = omega (arith, h.point); byte = h.byte; place = omega (arith, h.place, starts-at w.place d (i - d), p) }
