-- Where the points of a cast fit: what the code's tests say of it, and what it gives.
use Rattle.std.specs.Prelude.{◌≡◌, ◌≤◌, ◌<◌, ◌+◌, ◌-◌, ◌*◌, ◌/◌}
use Rattle.common.specs.Logic.{◌∙◌, sym, ap, refl, true, Bool, false, ℕ, mul-le-mul_right, add-mul, le-div_iff_mul-le, div-lt_iff_lt-mul, mul-zero, arith, eq-eqb, ne_eqb, le-leb, eqb-true, leb-true, lt-leb, eqb-false, leb-false, eqb, leb}
use Rattle.common.proofs.Lists.{and_left, and_right}
use Rattle.datatype.specs.Datatype.{size_of}
use Rattle.strided.specs.Steps.{RunFits}
use Rattle.writes.specs.Writes.{begins}
use Rattle.strided.specs.Strided.{within, strided_fits, points_from}
use Rattle.writes.specs.declared.Strided.{Strided}
use Rattle.strided.specs.declared.StridedCast.{StridedCast}

-- ---- all points lie within

-- what `lies_within` tests: there is a last point, and its end is told from the room after the base, without a sum that could wrap
module _ (p : Strided) (size n len : ℕ) where
  pub no-point : n ≡ 0 → true ≡ within p size n len
  unfolding within
  no-point e = simp (eq-eqb n 0 e)

  module _ (N : n ≡ 0 → ⊥) where
    pub outside : len < begins p (n - 1) + size → false ≡ within p size n len
    unfolding within
    outside h = simp (ne_eqb n 0 N, lt-leb (begins p (n - 1) + size) len h)

    inside : begins p (n - 1) + size ≤ len → true ≡ within p size n len
    unfolding within
    inside h = simp (ne_eqb n 0 N, le-leb (begins p (n - 1) + size) len h)

    module _ (S : size ≤ len) (B : p.base ≤ len - size) where
      pub one_place : p.stride ≡ 0 → true ≡ within p size n len
      one_place z = inside (omega (arith, ap (λ (x : ℕ). (n - 1) * x) z ∙ mul-zero (n - 1)))

      pub by-room : (p.stride ≡ 0 → ⊥) → leb (n - 1) ((len - size - p.base) / p.stride) ≡ within p size n len
      by-room z = go (leb (n - 1) ((len - size - p.base) / p.stride)) refl
        where
          some : (k : ℕ) → (k ≡ 0 → ⊥) → 0 < k
          some k h = omega arith

          go : (b : Bool) → leb (n - 1) ((len - size - p.base) / p.stride) ≡ b → b ≡ within p size n len
          go true e = inside (omega (arith, (le-div_iff_mul-le {k = p.stride} {x = n - 1} {y = len - size - p.base} (some p.stride z)).0 (leb-true (n - 1) ((len - size - p.base) / p.stride) e)))
          go false e = outside (omega (arith, (div-lt_iff_lt-mul {k = p.stride} {x = len - size - p.base} {y = n - 1} (some p.stride z)).0 (leb-false (n - 1) ((len - size - p.base) / p.stride) e)))

  pub all-within : within p size n len ≡ true → (i : ℕ) → i < n → begins p i + size ≤ len
  unfolding within
  all-within h i l =
      let z : eqb n 0 ≡ false = ne_eqb n 0 (λ e. omega arith) in
      omega (arith, leb-true (begins p (n - 1) + size) len (rw z at h), mul-le-mul_right p.stride (before i n l))
    where
      before : (i n : ℕ) → i < n → i ≤ n - 1
      before i n h = omega arith

  -- where the last point lies within, if there is one
  pub is_within : ((i : ℕ) → i < n → begins p i + size ≤ len) → true ≡ within p size n len
  is_within h = go (eqb n 0) refl
    where
      go : (b : Bool) → eqb n 0 ≡ b → true ≡ within p size n len
      go true e = no-point (eqb-true n 0 e)
      go false e = inside (eqb-false n 0 e) (h (n - 1) (omega (arith, eqb-false n 0 e)))

-- ---- what a cast that fits gives

pub fits-spaced : (c : StridedCast) (n a b : ℕ) → strided_fits c n a b ≡ true → size_of c.to ≤ c.target.stride
unfolding strided_fits
fits-spaced c n a b h = leb-true _ _ (and_left (leb (size_of c.to) c.target.stride) _ h)

pub run_fits : (c : StridedCast) (n a b : ℕ) → strided_fits c n a b ≡ true → RunFits c n a b
unfolding strided_fits
run_fits c n a b h =
    let r = and_right (leb (size_of c.to) c.target.stride) _ h in
    let w = and_right (within c.source (size_of c.from) n a) _ r in
    record {
      pair = and_right (within c.target (size_of c.to) n b) _ w;
      source = all-within c.source (size_of c.from) n a (and_left (within c.source (size_of c.from) n a) _ r);
      target = all-within c.target (size_of c.to) n b (and_left (within c.target (size_of c.to) n b) _ w);
    }

-- and from what it follows
pub fits-where : (c : StridedCast) (n a b : ℕ) → size_of c.to ≤ c.target.stride → RunFits c n a b → true ≡ strided_fits c n a b
unfolding strided_fits
fits-where c n a b S F =
    sym F.pair
    ∙ simp (le-leb (size_of c.to) c.target.stride S, sym (is_within c.source (size_of c.from) n a F.source), sym (is_within c.target (size_of c.to) n b F.target))

-- without the first d points
pub later-fits : (c : StridedCast) (d n a b : ℕ) → RunFits c (d + n) a b → RunFits (points_from d c) n a b
later-fits c d n a b F =
    record {
      pair = F.pair;
      source = λ i h. omega (arith, F.source (d + i) (omega arith), add-mul d i c.source.stride);
      target = λ i h. omega (arith, F.target (d + i) (omega arith), add-mul d i c.target.stride);
    }

pub fewer-fit : (c : StridedCast) (m n a b : ℕ) → m ≤ n → RunFits c n a b → RunFits c m a b
fewer-fit c m n a b l F = record { pair = F.pair; source = λ i h. F.source i (omega arith); target = λ i h. F.target i (omega arith) }
