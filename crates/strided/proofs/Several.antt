-- Casts that fit, one after the other: what the first of them leave, and one more.
use Rattle.std.specs.Prelude.{◌≡◌, ◌∷◌, ◌++◌, ◌≤◌, ◌<◌, ◌+◌, ◌-◌}
use Rattle.common.specs.Logic.{◌∙◌, sym, ap, subst, true, Bool, cond, List, [], map, map-append, ⊎_elim, ℕ, eq-or-lt_of_le, arith, length, get_or, length-append, length-map, get_or-append}
use lib.Seq.{get_or-append_seam}
use Rattle.common.specs.Lists.{first}
use Rattle.common.proofs.Lists.{first-none, first-at, first_more, first-split, length-first, map_at}
use Rattle.datatype.specs.Datatype.{size_of}
use Rattle.writes.specs.Claims.{no_write, DisjointWrites}
use Rattle.writes.specs.Writes.{Write}
use Rattle.writes.proofs.Whole.{disjoint-early, disjoint-before, disjoint-later}
use Rattle.strided.specs.Steps.{no_cast, cast_at, RunFits, CastsFit}
use Rattle.strided.specs.Strided.{as_write, converted, strided_fits, points_from}
use Rattle.strided.specs.declared.StridedCast.{StridedCast}
use Rattle.strided.proofs.Fits.{fits-where, later-fits, fewer-fit}
use Rattle.strided.proofs.AsWrites.{writes_later, no-cast, then-cast, length-converted}

-- casts are first where others follow them
module _ (cs ds : List StridedCast) (n a b : ℕ) (F : CastsFit (cs ++ ds) n a b) where
  fit-early : CastsFit cs n a b
  fit-early =
      record {
        disjoint = λ src. disjoint-early (map (as_write src) cs) (map (as_write src) ds) n b (subst (λ (ws : List Write). DisjointWrites ws n b) (map-append (as_write src) cs ds) (F.disjoint src));
        fits = λ j h. subst (λ (c : StridedCast). RunFits c n a b) (get_or-append cs ds no_cast j h) (F.fits j (omega (arith, length-append cs ds)));
      }

module _ (xs : List StridedCast) (count n a b : ℕ) (F : CastsFit (first no_cast xs count) n a b) where
  -- the first k of the casts
  pub fit-first : (k : ℕ) → k ≤ count → CastsFit (first no_cast xs k) n a b
  fit-first k l =
      ⊎_elim (λ e. subst (λ (m : ℕ). CastsFit (first no_cast xs m) n a b) (sym e) F)
      (λ h. let r = first-split no_cast xs k count h in fit-early (first no_cast xs k) _ n a b (subst (λ (cs : List StridedCast). CastsFit cs n a b) r.1 F))
      (eq-or-lt_of_le l)

  pub fit_at : (k : ℕ) → k < count → RunFits (get_or xs k no_cast) n a b
  fit_at k h = subst (λ (c : StridedCast). RunFits c n a b) (first-at no_cast xs k count no_cast h) (F.fits k (omega (arith, length-first no_cast xs count)))

-- the first m of the points
pub fit-fewer : (cs : List StridedCast) (m n a b : ℕ) → m ≤ n → CastsFit cs n a b → CastsFit cs m a b
fit-fewer cs m n a b l F =
    let e : n ≡ m + (n - m) = omega arith in
    record {
      disjoint = λ src. disjoint-before (map (as_write src) cs) m (n - m) b (subst (λ (k : ℕ). DisjointWrites (map (as_write src) cs) k b) e (F.disjoint src));
      fits = λ j h. fewer-fit (cast_at cs j) m n a b l (F.fits j h);
    }

-- the points after the first d
pub fit-later : (cs : List StridedCast) (d n a b : ℕ) → CastsFit cs (d + n) a b → CastsFit (map (points_from d) cs) n a b
fit-later cs d n a b F =
    record {
      disjoint = λ src. subst (λ (ws : List Write). DisjointWrites ws n b) (sym (writes_later src d cs)) (disjoint-later (map (as_write src) cs) d n b (F.disjoint src));
      fits = λ j h.
          let l : j < length cs = omega (arith, length-map cs (points_from d)) in
          rw (map_at (points_from d) cs j no_cast no_cast l) (later-fits (cast_at cs j) d n a b (F.fits j l));
    }

-- the points of each cast do not overlap, whatever the source, so it fits
module _ (cs : List StridedCast) (n a b : ℕ) (F : CastsFit cs n a b) (j : ℕ) (h : j < length cs) where
  pub spaced-at : size_of (cast_at cs j).to ≤ (cast_at cs j).target.stride
  spaced-at =
      subst (λ (w : Write). w.size ≤ w.place.stride) (map_at (as_write []) cs j no_cast no_write h) ((F.disjoint []).spaced j (omega (arith, length-map cs (as_write []))))

  pub fits-at : true ≡ strided_fits (cast_at cs j) n a b
  fits-at = fits-where (cast_at cs j) n a b spaced-at (F.fits j h)

-- one cast more
pub cast-more : (cs : List StridedCast) (c : StridedCast) (n : ℕ) (src t : List ℕ) {now exit : List ℕ} {r : Bool} → CastsFit (cs ++ (c ∷ [])) n (length src) (length t)
    → now ≡ converted cs src n t → r ≡ strided_fits c n (length src) (length now) → exit ≡ cond r (converted (c ∷ []) src n now) now
    → exit ≡ converted (cs ++ (c ∷ [])) src n t
cast-more cs c n src t {now} {exit} {r} F en er ee =
    let last : cast_at (cs ++ (c ∷ [])) (length cs) ≡ c = get_or-append_seam cs c [] no_cast in
    let listed : length cs < length (cs ++ (c ∷ [])) = omega (arith, length-append cs (c ∷ [])) in
    let fits = subst (λ (x : StridedCast). true ≡ strided_fits x n (length src) (length t)) last (fits-at (cs ++ (c ∷ [])) n (length src) (length t) F (length cs) listed) in
    let el : length now ≡ length t = ap length en ∙ length-converted cs src n t in
    let y : r ≡ true = er ∙ ap (strided_fits c n (length src)) el ∙ sym fits in
    ee
    ∙ ap (λ (b : Bool). cond b (converted (c ∷ []) src n now) now) y
    ∙ ap (converted (c ∷ []) src n) en
    ∙ then-cast cs c src n t (F.disjoint src)

-- a loop's start, and its turn
pub none_yet : (xs : List StridedCast) (src : List ℕ) (n : ℕ) (t : List ℕ) → t ≡ converted (first no_cast xs 0) src n t
none_yet xs src n t = rw (first-none no_cast xs) (no-cast src n t)

pub next-cast : (xs : List StridedCast) (count n : ℕ) (src t : List ℕ) (k : ℕ) {now exit : List ℕ} {r : Bool} → CastsFit (first no_cast xs count) n (length src) (length t) → k < count
    → now ≡ converted (first no_cast xs k) src n t → r ≡ strided_fits (get_or xs k no_cast) n (length src) (length now) → exit ≡ cond r (converted (get_or xs k no_cast ∷ []) src n now) now
    → exit ≡ converted (first no_cast xs (k + 1)) src n t
next-cast xs count n src t k F h en er ee =
    let more = first_more no_cast xs k in
    let G = subst (λ (l : List StridedCast). CastsFit l n (length src) (length t)) more (fit-first xs count n (length src) (length t) F (k + 1) (omega arith)) in
    cast-more (first no_cast xs k) (get_or xs k no_cast) n src t G en er ee ∙ ap (λ (l : List StridedCast). converted l src n t) (sym more)
