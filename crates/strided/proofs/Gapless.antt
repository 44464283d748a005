-- Equal datatypes that lie one after another on both sides, without a gap: the attributes of all points are copied at once.
use Rattle.std.specs.Prelude.{◌≡◌, ◌≤◌, ◌<◌, ◌+◌, ◌-◌, ◌*◌}
use Rattle.common.specs.Logic.{◌∙◌, sym, ap, ap₂, true, List, ℕ, suc, zero, zero-mul, suc-mul, arith, eqb-true, eqb, length, take, drop, length-take, length-drop}
use borrow.Rule.Slice.PartMut.{put_mid}
use lib.Seq.{sets, take-add, drop-drop}
use Rattle.common.proofs.Lists.{and_left, and_right}
use Rattle.common.proofs.Stores.{sets-append, part_length, put-sets}
use Rattle.datatype.specs.Datatype.{same_datatype, size_of}
use Rattle.attribute_conversion.proofs.Claims.{copied}
use Rattle.datatype.proofs.Properties.{same_size}
use Rattle.writes.specs.Writes.{begins}
use Rattle.strided.specs.Steps.{stored, is_gapless, RunFits}
use Rattle.strided.specs.Strided.{value_of}
use Rattle.strided.specs.declared.StridedCast.{StridedCast}
use Rattle.strided.proofs.Fits.{fewer-fit}

-- the points but the last, and the last
with-last : (n s : ℕ) → 0 < n → n * s ≡ (n - 1) * s + s
with-last n s h = let e : n ≡ suc (n - 1) = omega arith in ap (λ (k : ℕ). k * s) e ∙ suc-mul (n - 1) s

module _ (c : StridedCast) (h : is_gapless c ≡ true) where
  pub same-datatypes : same_datatype c.from c.to ≡ true
  unfolding is_gapless
  same-datatypes = and_left (same_datatype c.from c.to) _ h

  strides : (eqb c.source.stride (size_of c.from) ≡ true) × (eqb c.target.stride (size_of c.from) ≡ true)
  unfolding is_gapless
  strides =
      let k = and_right (same_datatype c.from c.to) _ h in
      (and_left (eqb c.source.stride (size_of c.from)) _ k, and_right (eqb c.source.stride (size_of c.from)) _ k)

  pub source-stride : c.source.stride ≡ size_of c.from
  source-stride = eqb-true _ _ strides.0

  pub target-stride : c.target.stride ≡ size_of c.from
  target-stride = eqb-true _ _ strides.1

  module _ (src : List ℕ) where
    -- the bytes of the source from the first point on
    abbrev rest : List ℕ
    rest = drop c.source.base src

    abbrev size : ℕ
    size = size_of c.from

    value-is : (i : ℕ) → value_of c src i ≡ take size (drop (i * size) rest)
    unfolding value_of
    value-is i =
        copied c.from c.to _ same-datatypes
        ∙ ap (λ (l : List ℕ). take size l) (ap (λ (k : ℕ). drop (c.source.base + i * k) src) source-stride ∙ sym (drop-drop (i * size) c.source.base src))

    gapless-length : (n : ℕ) → c.source.base + n * size ≤ length src → length (take (n * size) rest) ≡ n * size
    gapless-length n l = simp (length-take, length-drop) (omega arith)

    pub stored-gapless : (n : ℕ) (t : List ℕ) → RunFits c n (length src) (length t) → stored c src n t ≡ sets t c.target.base (take (n * size) rest)
    unfolding stored
    stored-gapless zero t F = rw zero-mul
    stored-gapless (suc n) t F =
        let b = c.target.base in
        let a = take (n * size) rest in
        let r : c.source.base + n * size ≤ length src = omega (arith, F.source n (omega arith), ap (λ (k : ℕ). n * k) source-stride) in
        let p : begins c.target n ≡ b + length a = ap (λ (k : ℕ). b + n * k) target-stride ∙ ap (λ (k : ℕ). b + k) (sym (gapless-length n r)) in
        ap (λ (l : List ℕ). sets l (begins c.target n) (value_of c src n)) (stored-gapless n t (fewer-fit c n (suc n) (length src) (length t) (omega arith) F))
        ∙ ap₂ (λ (k : ℕ) (v : List ℕ). sets (sets t b a) k v) p (value-is n)
        ∙ sets-append t b a (take size (drop (n * size) rest))
        ∙ ap (λ (l : List ℕ). sets t b l) (sym (take-add (n * size) size rest) ∙ ap (λ (k : ℕ). take k rest) (sym (suc-mul n size)))

  -- the attributes of all points lie within the bytes, where there is a point
  module _ (n a b : ℕ) (F : RunFits c n a b) (some : 0 < n) where
    pub source-room : c.source.base + n * c.source.stride ≤ a
    source-room = omega (arith, F.source (n - 1) (omega arith), source-stride, with-last n c.source.stride some)

    pub target_room : c.target.base + n * c.source.stride ≤ b
    target_room =
        let e : c.target.stride ≡ c.source.stride = target-stride ∙ sym source-stride in
        omega (arith, F.target (n - 1) (omega arith), same_size c.from c.to same-datatypes, source-stride, with-last n c.source.stride some, ap (λ (k : ℕ). (n - 1) * k) e)

  -- what the copy of them leaves
  pub gapless-copied : (src t last : List ℕ) (n : ℕ) → RunFits c n (length src) (length t) → 0 < n
      → let a = c.source.base in let b = c.target.base in let w = n * c.source.stride in let word = take (a + w - a) (drop a src) in
      last ≡ word
      → put_mid b (b + w - b) t last ≡ stored c src n t
  gapless-copied src t last n F some h =
      let a = c.source.base in
      let b = c.target.base in
      let w = n * c.source.stride in
      let word = take (a + w - a) (drop a src) in
      let l : length word ≡ w = part_length a w src (source-room n _ _ F some) in
      let e : last ≡ word = h in
      let z : a + w - a ≡ n * size_of c.from = omega (arith, ap (λ (k : ℕ). n * k) source-stride) in
      put-sets b w t last (ap length e ∙ l) (target_room n _ _ F some)
      ∙ ap (λ (l : List ℕ). sets t b l) (e ∙ ap (λ (k : ℕ). take k (drop a src)) z)
      ∙ sym (stored-gapless src n t F)
