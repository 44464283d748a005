-- The laws of `converted`, from those of writes.
use Rattle.std.specs.Prelude.{◌≡◌, ◌∷◌, ◌++◌, ◌+◌}
use Rattle.common.specs.Logic.{ap, refl, subst, ap₂, List, [], map, map-append, ℕ, length, take, drop}
use Rattle.datatype.specs.Datatype.{size_of}
use Rattle.attribute_conversion.specs.Attributes.{cast_bytes}
use Rattle.writes.specs.Claims.{DisjointWrites}
use Rattle.writes.specs.Writes.{starting_at, Write, write_from}
use Rattle.writes.proofs.Hits.{starts-at}
use Rattle.writes.proofs.Whole.{no_write_lem, no-point as none_written, then-write, then-points as more-points, length-written}
use Rattle.strided.specs.Strided.{value_of, as_write, converted, points_from}
use Rattle.strided.specs.declared.StridedCast.{StridedCast}

-- ---- the points from d on

module _ (src : List ℕ) (d : ℕ) where
  later-value : (c : StridedCast) (i : ℕ) → value_of (points_from d c) src i ≡ value_of c src (d + i)
  unfolding value_of
  later-value c i = ap (λ (m : ℕ). cast_bytes c.from c.to (take (size_of c.from) (drop m src))) (starts-at c.source d i)

  write-later : (c : StridedCast) → as_write src (points_from d c) ≡ write_from d (as_write src c)
  write-later c =
      ap (λ (f : ℕ → List ℕ). record { place = starting_at d c.target; size = size_of c.to; value = f })
      (λ e. λ i. later-value c i e)

  pub writes_later : (cs : List StridedCast) → map (as_write src) (map (points_from d) cs) ≡ map (write_from d) (map (as_write src) cs)
  writes_later [] = refl
  writes_later (c ∷ cs) = ap₂ (λ (w : Write) (ws : List Write). w ∷ ws) (write-later c) (writes_later cs)

-- ---- the laws that the loops cite

-- no cast, or no point
pub no-cast : (src : List ℕ) (n : ℕ) (t : List ℕ) → t ≡ converted [] src n t
unfolding converted
no-cast src n t = no_write_lem n t

pub no-point : (cs : List StridedCast) (src : List ℕ) (n : ℕ) (t : List ℕ) → DisjointWrites (map (as_write src) cs) n (length t) → t ≡ converted cs src 0 t
unfolding converted
no-point cs src n t A = none_written (map (as_write src) cs) n t A

-- the casts cs and then c
pub then-cast : (cs : List StridedCast) (c : StridedCast) (src : List ℕ) (n : ℕ) (t : List ℕ) → DisjointWrites (map (as_write src) (cs ++ (c ∷ []))) n (length t)
    → converted (c ∷ []) src n (converted cs src n t) ≡ converted (cs ++ (c ∷ [])) src n t
unfolding converted
then-cast cs c src n t A =
    let e = map-append (as_write src) cs (c ∷ []) in
    rw e (then-write (map (as_write src) cs) (as_write src c) n t (subst (λ (ws : List Write). DisjointWrites ws n (length t)) e A))

-- d points and then n more
pub then-points : (cs : List StridedCast) (src : List ℕ) (d n : ℕ) (t : List ℕ) → DisjointWrites (map (as_write src) cs) (d + n) (length t)
    → converted (map (points_from d) cs) src n (converted cs src d t) ≡ converted cs src (d + n) t
unfolding converted
then-points cs src d n t A = rw (writes_later src d cs) (more-points (map (as_write src) cs) d n t A)

pub length-converted : (cs : List StridedCast) (src : List ℕ) (n : ℕ) (t : List ℕ) → length (converted cs src n t) ≡ length t
unfolding converted
length-converted cs src n t = length-written (map (as_write src) cs) n t
