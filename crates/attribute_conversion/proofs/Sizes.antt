-- The sizes of datatypes by code, and the cast of bytes by codes.
use Rattle.std.specs.Prelude.{◌≡◌, ◌&&◌, ◌||◌, ◌≤◌, ◌<◌, ◌*◌}
use Rattle.common.specs.Logic.{◌∙◌, sym, ap, refl, subst, true, Bool, false, cond, List, ⊎_elim, ℕ, arith, lt-ltb, le-ltb, eq-eqb, ne_eqb, eqb-true, lt-leb, eqb, leb, eqb→eq, length, take, drop}
use Rattle.common.proofs.Lists.{and_left, and_right, clash, decide, order}
use Rattle.datatype.specs.Datatype.{same_datatype, size_of, codes, unlisted}
use Rattle.datatype.specs.declared.datatype.Datatype.{Datatype}
use Rattle.datatype.specs.declared.datatype.Properties.{Properties}
use Rattle.datatype.proofs.Properties.{listed-size, same_size}
use Rattle.scalar_casts.specs.Scalars.{width_of}
use Rattle.attribute_conversion.specs.Attributes.{cast_number, cast_each, cast_bytes, cast_fits, cast_codes, CodesFit, components_of, component_of}
use Rattle.attribute_conversion.specs.Claims.{CastByComponent}
use Rattle.pairs.specs.Pairs.{castable, is_known, pair_of, has_entry}
use Rattle.pairs.specs.declared.pair.Pair.TheVariants.{Copy, Cast, Nothing}
use Rattle.attribute_conversion.proofs.Components.{length-each, each_at}
use Rattle.pairs.proofs.Castable.{scalar-pair, vec3-pair}
use Rattle.pairs.proofs.PairRule.{same_codes, has-entry, below-known}
use Rattle.pairs.proofs.Table.{at}

-- the size of a code below 16, from the scalars
plain_size : ℕ → ℕ
plain_size c = cond (eqb c 15) 4 (components_of c * width_of (component_of c))

-- one test at each of them
has_plain_size : ℕ → Properties → Bool
has_plain_size c p = leb 16 c || eqb p.size (plain_size c)

plain_size_lem : (d : Datatype) → d.code < 16 → size_of d ≡ plain_size d.code
unfolding codes plain_size has_plain_size
plain_size_lem d h =
    listed-size d (below-known d h)
    ∙ eqb→eq _ _ (rw (lt-leb 16 d.code h) at (at has_plain_size (codes d) unlisted tt d.code (omega arith)))

pub component-size : (d : Datatype) → d.code < 15 → size_of d ≡ components_of d.code * width_of (component_of d.code)
unfolding plain_size
component-size d h = plain_size_lem d (omega arith) ∙ rw (ne_eqb d.code 15 (λ e. omega arith))

-- codes that are cast: below 15, and of as many components
cast-both : (a b : ℕ) → castable a b ≡ true → (a < 15) × (b < 15) × (components_of a ≡ components_of b)
cast-both a b C =
    ⊎_elim (λ (h : 10 ≤ a). let v = vec3-pair a b C h in (v.0, v.2, simp (le-ltb a 10 h, le-ltb b 10 v.1)))
    (λ (h : a < 10). let s = scalar-pair a b C h in (omega arith, omega arith, simp (lt-ltb a 10 h, lt-ltb b 10 s)))
    (order 10 a)

-- ---- two datatypes whose pair is copy or cast
pub copied : (f t : Datatype) (s : List ℕ) → same_datatype f t ≡ true → cast_bytes f t s ≡ s
unfolding cast_bytes
copied f t s e = rw e

cast-differs : (f t : Datatype) → pair_of f t ≡ Cast → same_datatype f t ≡ false
unfolding pair_of
cast-differs f t C = go (same_datatype f t) (is_known f && is_known t) (castable f.code t.code) C
  where
    go : (s l k : Bool) → cond l (cond s Copy (cond k Cast Nothing)) Nothing ≡ Cast → s ≡ false
    go false l k e = refl
    go true true k e = absurd (let z : ◌≡◌ {A = ℕ} 0 1 = cc in omega arith)
    go true false k e = absurd (let z : ◌≡◌ {A = ℕ} 0 1 = cc in omega arith)

-- not the same, and not nothing: codes that are cast
module _ (f t : Datatype) (P : pair_of f t ≡ Nothing → ⊥) (D : same_datatype f t ≡ false) where
  pub cast-codes : castable f.code t.code ≡ true
  unfolding pair_of
  cast-codes = go (is_known f && is_known t) (castable f.code t.code) (λ e. P (rw D e))
    where
      go : (a k : Bool) → (cond a (cond k Cast Nothing) Nothing ≡ Nothing → ⊥) → k ≡ true
      go a true n = refl
      go true false n = absurd (n refl)
      go false false n = absurd (n refl)

  pub both : (f.code < 15) × (t.code < 15) × (components_of f.code ≡ components_of t.code)
  both = cast-both f.code t.code cast-codes

  pub target-size : size_of t ≡ components_of t.code * width_of (component_of t.code)
  target-size = component-size t both.1

  pub each-cast : (s : List ℕ) → cast_bytes f t s ≡ cast_each (components_of f.code) (component_of f.code) (component_of t.code) s
  unfolding cast_bytes
  each-cast s = rw D

  cast-length : (s : List ℕ) → length (cast_bytes f t s) ≡ size_of t
  cast-length s =
      rw (each-cast s) (length-each (components_of f.code) (component_of f.code) (component_of t.code) s
      ∙ ap (λ (n : ℕ). n * width_of (component_of t.code)) both.2 ∙ sym target-size)

  pub differ : f.code ≡ t.code → ⊥
  differ e = clash cast-codes (simp (eq-eqb f.code t.code e))

pub length-cast : (f t : Datatype) (s : List ℕ) → (pair_of f t ≡ Nothing → ⊥) → length s ≡ size_of f → length (cast_bytes f t s) ≡ size_of t
length-cast f t s P h = ⊎_elim (λ e. ap length (copied f t s e) ∙ h ∙ same_size f t e) (λ e. cast-length f t P e s) (decide (same_datatype f t))

-- by codes alone, as the code casts
pub by_codes : (f t : Datatype) (s : List ℕ) → (pair_of f t ≡ Nothing → ⊥) → cast_codes f.code t.code s ≡ cast_bytes f t s
unfolding cast_codes cast_bytes
by_codes f t s P =
    ⊎_elim (λ (e : same_datatype f t ≡ true). rw (e, eq-eqb f.code t.code (same_codes f t e)))
    (λ (e : same_datatype f t ≡ false). rw (e, ne_eqb f.code t.code (differ f t P e)))
    (decide (same_datatype f t))

pub codes-fit : (f t : Datatype) → (pair_of f t ≡ Nothing → ⊥) → CodesFit f.code t.code (size_of f) (size_of t)
codes-fit f t P =
    ⊎_elim
    (λ e. let c = same_codes f t e in record { same = λ q. sym (same_size f t e); source = λ n. absurd (n c); target = λ n. absurd (n c) })
    (λ e.
    record {
      same = λ q. absurd (differ f t P e q);
      source = λ n. component-size f (both f t P e).0;
      target = λ n. target-size f t P e ∙ ap (λ (k : ℕ). k * width_of (component_of t.code)) (sym (both f t P e).2);
    })
    (decide (same_datatype f t))

-- ---- component by component
pub by-component : (f t : Datatype) (s : List ℕ) → pair_of f t ≡ Cast → length s ≡ size_of f → CastByComponent f t s
unfolding cast_number
by-component f t s C h =
    let P : pair_of f t ≡ Nothing → ⊥ = λ e. let n : Cast ≡ Nothing = sym C ∙ e in let z : ◌≡◌ {A = ℕ} 0 1 = cc in omega arith in
    let D = cast-differs f t C in
    let n = (both f t P D).2 in
    record {
      as_many = n;
      size = length-cast f t s P h;
      each = λ i l.
          ap (λ (x : List ℕ). take (width_of (component_of t.code)) (drop (i * width_of (component_of t.code)) x)) (each-cast f t P D s)
          ∙ each_at (components_of f.code) (component_of f.code) (component_of t.code) s i (subst (λ (k : ℕ). i < k) (sym n) l);
    }

-- ---- what `fits` tests
module _ (f t : Datatype) (a b : ℕ) where
  pub by-entry : a ≡ size_of f → b ≡ size_of t → has_entry (pair_of f t) ≡ cast_fits f t a b
  unfolding cast_fits
  by-entry e g = simp (eq-eqb a (size_of f) e, eq-eqb b (size_of t) g)

  module _ (C : cast_fits f t a b ≡ true) where
    pub fits-entry : pair_of f t ≡ Nothing → ⊥
    unfolding cast_fits
    fits-entry = has-entry (and_right (eqb b (size_of t)) _ (and_right (eqb a (size_of f)) _ C))

    pub fits-target : b ≡ size_of t
    unfolding cast_fits
    fits-target = eqb-true b (size_of t) (and_left (eqb b (size_of t)) _ (and_right (eqb a (size_of f)) _ C))

    pub fits-codes : CodesFit f.code t.code a b
    unfolding cast_fits
    fits-codes =
        let p = eqb-true a (size_of f) (and_left (eqb a (size_of f)) _ C) in
        subst (λ (n : ℕ). CodesFit f.code t.code n b) (sym p) (subst (λ (n : ℕ). CodesFit f.code t.code (size_of f) n) (sym fits-target) (codes-fit f t fits-entry))

    pub fits-bytes : (s : List ℕ) → cast_codes f.code t.code s ≡ cast_bytes f t s
    fits-bytes s = by_codes f t s fits-entry
