-- What is lost is what differs: the numbers in an attribute's bytes, beside those in the bytes that the cast gives.
use Rattle.std.specs.Prelude.{◌≡◌, ◌||◌, ◌<◌, ◌^◌}
use Rattle.common.specs.Logic.{◌∙◌, sym, ap, refl, subst, true, Bool, false, cond, not, List, ⊎_elim, ℕ, arith, eqb, length}
use Rattle.common.specs.Lists.{all, tabulate}
use Rattle.common.proofs.Lists.{decide, all-at, tabulate-at, length-tabulate}
use Rattle.common.proofs.Sums.{sum_same, sum-zero}
use Rattle.datatype.specs.Datatype.{same_datatype, size_of}
use Rattle.datatype.specs.declared.datatype.Datatype.{Datatype}
use Rattle.kept_casts.specs.Kept.{value_in, same_number}
use Rattle.kept_casts.proofs.Kept.{same_self}
use Rattle.numbers.specs.Casts.{cast_of}
use Rattle.numbers.proofs.Fitting.{cast_fits_lem}
use Rattle.pairs.specs.Pairs.{castable, pair_of}
use Rattle.pairs.specs.declared.pair.Pair.TheVariants.{Nothing}
use Rattle.pairs.proofs.PairRule.{same_codes}
use Rattle.scalar_casts.specs.Scalars.{code_of, kind_of, width_of, cast_scalar, keeps_number}
use Rattle.scalar_casts.specs.declared.scalar.Scalar.{Scalar}
use Rattle.scalar_casts.proofs.Scalars.{kind-bits}
use Rattle.attribute_conversion.specs.Attributes.{cast_number, cast_bytes, component, components_of, component_of}
use Rattle.attribute_conversion.specs.Bytes.{le_value, le_bytes}
use Rattle.attribute_conversion.specs.Claims.{number_at, differs_at, differing, LostInClaim}
use Rattle.attribute_conversion.specs.Lost.{lost_number, lost_component, lost_in}
use Rattle.attribute_conversion.proofs.Components.{byte_pow, each_at}
use Rattle.attribute_conversion.proofs.LittleEndian.{read_back}
use Rattle.attribute_conversion.proofs.Sizes.{copied, cast-codes, both, each-cast}

-- scalars of components that are cast are different ones: one test over all codes
other_scalar : ℕ → ℕ → Bool
other_scalar a b = not (castable a b) || not (eqb (code_of (component_of a)) (code_of (component_of b)))

other_scalars : ℕ → Bool
other_scalars a = all (other_scalar a) (tabulate (λ (n : ℕ). n) 15)

all-other : all other_scalars (tabulate (λ (n : ℕ). n) 15) ≡ true
unfolding all tabulate other_scalars other_scalar
all-other = refl

below_at : (p : ℕ → Bool) (n i : ℕ) → all p (tabulate (λ (k : ℕ). k) n) ≡ true → i < n → p i ≡ true
below_at p n i A h =
    rw (tabulate-at (λ (k : ℕ). k) n i 0 h) at (all-at p (tabulate (λ (k : ℕ). k) n) i 0 A (omega (arith, length-tabulate (λ (k : ℕ). k) n)))

scalars-differ : (a b : ℕ) → a < 15 → b < 15 → castable a b ≡ true → eqb (code_of (component_of a)) (code_of (component_of b)) ≡ false
unfolding other_scalars other_scalar
scalars-differ a b A B C = go _ (rw C at (below_at (other_scalar a) 15 b (below_at other_scalars 15 a all-other A) B))
  where
    go : (c : Bool) → (not true || not c) ≡ true → c ≡ false
    go true h = absurd (let z : ◌≡◌ {A = ℕ} 0 1 = cc in omega arith)
    go false h = refl

-- the number of a scalar that is cast to another fits its bytes, and is read from them
module _ (f t : Scalar) (D : eqb (code_of f) (code_of t) ≡ false) (x : ℕ) where
  cast-back : le_value (le_bytes (width_of t) (cast_scalar f t x)) ≡ cast_scalar f t x
  unfolding cast_scalar
  cast-back =
      read_back (width_of t) _
      (subst (λ (n : ℕ). cond (eqb (code_of f) (code_of t)) x (cast_of (kind_of f) (kind_of t) x) < n) (ap (λ (w : ℕ). 2 ^ w) (kind-bits t) ∙ sym (byte_pow (width_of t)))
      (rw D (cast_fits_lem (kind_of f) (kind_of t) x)))

module _ (f t : Datatype) (s : List ℕ) (P : pair_of f t ≡ Nothing → ⊥) where
  cast-differs : same_datatype f t ≡ false → length s ≡ size_of f → (i : ℕ) → i < components_of f.code
      → lost_component (component_of f.code) (component_of t.code) s i ≡ differs_at f t s (cast_bytes f t s) i
  unfolding lost_component lost_number keeps_number differs_at cast_number
  cast-differs D h i l =
      let a = component_of f.code in
      let b = component_of t.code in
      let x = le_value (component (width_of a) i s) in
      let n = both f t P D in
      let e : le_value (component (width_of b) i (cast_bytes f t s)) ≡ cast_scalar a b x =
      ap le_value (ap (component (width_of b) i) (each-cast f t P D s) ∙ each_at (components_of f.code) a b s i l)
      ∙ cast-back a b (scalars-differ f.code t.code n.0 n.1 (cast-codes f t P D)) x in
      ap (λ (y : ℕ). cond (same_number (value_in (kind_of a) x) (value_in (kind_of b) y)) 0 1) (sym e)

  copy-same : same_datatype f t ≡ true → (i : ℕ) → differs_at f t s (cast_bytes f t s) i ≡ 0
  unfolding differs_at
  copy-same e i =
      let c = same_codes f t e in
      ap (λ (r : List ℕ). cond (same_number (number_at f s i) (number_at t r i)) 0 1) (copied f t s e)
      ∙ ap (λ (d : ℕ). cond (same_number (number_at f s i) (value_in (kind_of (component_of d)) (le_value (component (width_of (component_of d)) i s)))) 0 1) (sym c)
      ∙ ap (λ (b : Bool). cond b 0 1) (same_self (number_at f s i))

pub lost-in-claim : LostInClaim
unfolding lost_in differing
lost-in-claim =
    record {
      differing = λ f t s P h.
          ⊎_elim (λ (e : same_datatype f t ≡ true). rw e (sym (sum-zero (differs_at f t s (cast_bytes f t s)) (components_of f.code) (copy-same f t s P e))))
          (λ (e : same_datatype f t ≡ false). rw e (sum_same _ _ (components_of f.code) (cast-differs f t s P e h)))
          (decide (same_datatype f t));
      copied = λ f t s e. rw e;
    }
