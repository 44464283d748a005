-- Where all checks pass, the pairs fit: each has a cast and lies within both points, and no two share a byte of the target.
use Rattle.std.specs.Prelude.{◌≡◌, ◌≤◌, ◌<◌, ◌+◌, ◌*◌}
use Rattle.common.specs.Logic.{◌∙◌, sym, ap, subst, true, List, ⊎_elim, ℕ, arith, leb-true, leb, length}
use Rattle.common.specs.Lists.{all}
use Rattle.common.proofs.Lists.{and_left, and_right, order, all-at, pairwise-at}
use Rattle.datatype.specs.Datatype.{size_of}
use Rattle.layout.specs.Layout.{end_of, HasByte, Layout, is_sound}
use Rattle.layout.proofs.Bytes.{byte-shares}
use Rattle.writes.specs.Claims.{Hits}
use Rattle.writes.proofs.Mapped.{disjoint_map}
use Rattle.strided.specs.Steps.{no_cast, cast_at, RunFits, CastsFit}
use Rattle.strided.specs.Strided.{as_write}
use Rattle.strided.specs.declared.StridedCast.{StridedCast}
use Rattle.raw_point_converter.specs.Pairs.{single, pair_of_two, pairs, has_cast, ends_within}
use Rattle.raw_point_converter.proofs.Disjoint.{comes, cast_target, disjoint_targets, pairs-unshared}

-- ---- one point

-- a byte that it casts is one of the attribute that it writes
pub hit-byte : (src : List ℕ) (c : StridedCast) (k : ℕ) {i b : ℕ} → Hits (as_write src c) 1 k i b → HasByte (cast_target c) k
unfolding end_of
hit-byte src c k {i} {b} h =
    let z : i ≡ 0 = omega (arith, h.point) in
    let e : k ≡ c.target.base + 0 * c.target.stride + b = h.place ∙ ap (λ (x : ℕ). c.target.base + x * c.target.stride + b) z in
    (omega (arith, e), omega (arith, e, h.byte))

one-fits : (a b : ℕ) (c : StridedCast) → has_cast c ≡ true → ends_within a b c ≡ true → RunFits c 1 a b
unfolding has_cast ends_within
one-fits a b c h w =
    let s = leb-true _ _ (and_left (leb (c.source.base + size_of c.from) a) (leb (c.target.base + size_of c.to) b) w) in
    let t = leb-true _ _ (and_right (leb (c.source.base + size_of c.from) a) (leb (c.target.base + size_of c.to) b) w) in
    record { pair = h; source = λ i l. first c.source.base (size_of c.from) a i c.source.stride l s; target = λ i l. first c.target.base (size_of c.to) b i c.target.stride l t }
  where
    first : (x y n i stride : ℕ) → i < 1 → x + y ≤ n → x + i * stride + y ≤ n
    first x y n i stride l h = let z : i ≡ 0 = omega arith in subst (λ (j : ℕ). x + j * stride + y ≤ n) (sym z) (omega arith)

-- ---- all pairs

module _ (l m : Layout) (a b : ℕ) (x : is_sound l ≡ true) (y : is_sound m ≡ true) (c : all has_cast (pairs l m) ≡ true) (w : all (ends_within a b) (pairs l m) ≡ true) where
  spaced : (q : ℕ) → q < length (pairs l m) → size_of (cast_at (pairs l m) q).to ≤ (cast_at (pairs l m) q).target.stride
  unfolding pairs pair_of_two single
  spaced q h = rw (comes m.attributes l.attributes q h).is (omega arith)

  fits : (q : ℕ) → q < length (pairs l m) → RunFits (cast_at (pairs l m) q) 1 a b
  fits q h = one-fits a b _ (all-at has_cast (pairs l m) q no_cast c h) (all-at (ends_within a b) (pairs l m) q no_cast w h)

  unshared-two : (q r k : ℕ) → q < r → r < length (pairs l m) → HasByte (cast_target (cast_at (pairs l m) q)) k → HasByte (cast_target (cast_at (pairs l m) r)) k → ⊥
  unfolding disjoint_targets
  unshared-two q r k lt h g e = byte-shares _ _ k g e (pairwise-at disjoint_targets (pairs l m) q r no_cast (pairs-unshared l m x y) lt h)

  pub pairs-fit : CastsFit (pairs l m) 1 a b
  unfolding end_of
  pairs-fit =
      record {
        disjoint = λ src.
            disjoint_map (as_write src) (pairs l m) no_cast 1 b spaced
            (λ q r k i o e d hq hr g h.
            let u = hit-byte src (cast_at (pairs l m) q) k g in
            let v = hit-byte src (cast_at (pairs l m) r) k h in
            ⊎_elim (λ p. ⊎_elim (λ s. omega arith) (λ s. absurd (unshared-two q r k s hr u v)) (order r q)) (λ p. absurd (unshared-two r q k p hq v u)) (order q r))
            (λ q k i o hq h. omega (arith, (hit-byte src (cast_at (pairs l m) q) k h).1, (fits q hq).target 0 (omega arith)));
        fits = fits;
      }
