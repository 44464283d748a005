-- Codes that are cast; and whether there is a copy or a cast, told by the codes.
use Rattle.std.specs.Prelude.{◌≡◌, ◌&&◌, ◌||◌, ◌⊎◌, ◌≤◌, ◌<◌}
use Rattle.common.specs.Logic.{◌∙◌, refl, true, false, not, ⊎_elim, ℕ, arith, lt-ltb, le-ltb, leb-true, lt-leb, ltb-true, eqb, leb, ltb}
use Rattle.common.proofs.Lists.{and_left, and_right, clash, decide, order}
use Rattle.datatype.specs.Datatype.{same_datatype, size_of}
use Rattle.datatype.specs.declared.datatype.Datatype.{Datatype}
use Rattle.datatype.proofs.Properties.{same_size}
use Rattle.pairs.specs.Pairs.{castable, is_known, pair_of, has_entry}
use Rattle.pairs.specs.declared.pair.Pair.{Pair}
use Rattle.pairs.specs.declared.pair.Pair.TheVariants.{Copy, Cast, Nothing}
use Rattle.pairs.proofs.PairRule.{sized, below-known}

-- the partner of a scalar is a scalar, that of a Vec3 a Vec3
module _ (from to : ℕ) (C : castable from to ≡ true) where
  either : ((ltb from 10 && ltb to 10) || ((leb 10 from && ltb from 15) && (leb 10 to && ltb to 15))) ≡ true
  either = and_right (not (eqb from to)) _ C

  pub scalar-pair : from < 10 → to < 10
  scalar-pair h = ⊎_elim (ltb-true to 10) (λ (e : ltb to 10 ≡ false). clash either (simp (lt-ltb from 10 h, e, lt-leb 10 from h))) (decide (ltb to 10))

  pub vec3-pair : 10 ≤ from → (from < 15) × (10 ≤ to) × (to < 15)
  vec3-pair h =
      let g : ((leb 10 from && ltb from 15) && (leb 10 to && ltb to 15)) ≡ true = rw (le-ltb from 10 h) at either in
      let a = and_left (leb 10 from && ltb from 15) (leb 10 to && ltb to 15) g in
      let b = and_right (leb 10 from && ltb from 15) (leb 10 to && ltb to 15) g in
      (ltb-true from 15 (and_right (leb 10 from) (ltb from 15) a), leb-true 10 to (and_left (leb 10 to) (ltb to 15) b), ltb-true to 15 (and_right (leb 10 to) (ltb to 15) b))

-- both are below 16
cast-below : (a b : ℕ) → castable a b ≡ true → (a < 16) × (b < 16)
cast-below a b C =
    ⊎_elim (λ (h : 10 ≤ a). let v = vec3-pair a b C h in (omega (arith, v.0), omega (arith, v.2))) (λ (h : a < 10). (omega arith, omega (arith, scalar-pair a b C h))) (order 10 a)

-- ---- there is a copy or a cast, told by the codes
module _ (f t : Datatype) where
  pub copy-has : {x : ℕ} → x ≡ size_of f → same_datatype f t ≡ true → not (eqb x 0) ≡ has_entry (pair_of f t)
  unfolding pair_of
  copy-has {x} X s = rw (s, sized f, sized t, ← same_size f t s, ← X) (⊎_elim (λ (e : not (eqb x 0) ≡ true). rw e) (λ (e : not (eqb x 0) ≡ false). rw e) (decide (not (eqb x 0))))

  pub cast-has : same_datatype f t ≡ false → castable f.code t.code ≡ has_entry (pair_of f t)
  unfolding pair_of
  cast-has s =
      ⊎_elim (λ (e : castable f.code t.code ≡ true). let h = cast-below f.code t.code e in rw (s, e, below-known f h.0, below-known t h.1))
      (λ (e : castable f.code t.code ≡ false). rw (s, e) (⊎_elim (λ (k : (is_known f && is_known t) ≡ true). rw k) (λ (k : (is_known f && is_known t) ≡ false). rw k) (decide (is_known f && is_known t))))
      (decide (castable f.code t.code))

-- a pair of a Custom that is not nothing is one of equal datatypes
pub custom-same : (f t : Datatype) → (pair_of f t ≡ Nothing → ⊥) → (f.code ≡ 17) ⊎ (t.code ≡ 17) → same_datatype f t ≡ true
custom-same f t n e =
    ⊎_elim (λ (s : same_datatype f t ≡ true). s)
    (λ (s : same_datatype f t ≡ false).
    let h = cast-below f.code t.code (cast-has f t s ∙ entry (pair_of f t) n) in
    ⊎_elim (λ (z : f.code ≡ 17). absurd (omega (arith, h.0))) (λ (z : t.code ≡ 17). absurd (omega (arith, h.1))) e)
    (decide (same_datatype f t))
  where
    entry : (p : Pair) → (p ≡ Nothing → ⊥) → has_entry p ≡ true
    entry Copy k = refl
    entry Cast k = refl
    entry Nothing k = absurd (k refl)
