-- The list of casts that stands for a plan's mappings, and the blocks in which it is passed over.
use Rattle.std.specs.Prelude.{◌≡◌, ◌∷◌, ◌++◌, ◌≤◌, ◌<◌, ◌+◌, ◌*◌}
use Rattle.common.specs.Logic.{◌∙◌, sym, ap, refl, subst, ap₂, true, List, [], map, map-append, ℕ, arith, ltb-true, ltb, length, get_or, set, length-map}
use Rattle.std.proofs.lemmas.List.{take_all}
use Rattle.common.specs.Lists.{first}
use Rattle.common.proofs.Lists.{and_left, and_right, all-at, first_more, first-set, first-take, map_at}
use Rattle.layout.specs.Layout.{Attribute, absent, Layout}
use Rattle.layout.specs.Records.{definition_of, attribute_of, missing, listed, layout_of}
use Rattle.layout.proofs.Listed.{length-listed, listed_at}
use Rattle.datatype.specs.Datatype.{size_of}
use Rattle.datatype.specs.declared.datatype.Datatype.{Datatype}
use Rattle.layout.specs.declared.point_layout.PointAttributeMember.{PointAttributeMember}
use Rattle.layout.specs.declared.point_layout.PointLayout.{PointLayout}
use Rattle.writes.specs.Writes.{starting_at}
use Rattle.writes.specs.declared.Strided.{Strided}
use Rattle.point_buffer.specs.Places.{datatype_at, located}
use Rattle.point_buffer.specs.Records.{layout_in, before_in}
use Rattle.point_buffer.specs.declared.PointRange.{PointRange}
use Rattle.point_buffer.specs.declared.Storage.{Storage}
use Rattle.point_buffer.specs.declared.Storage.TheVariants.{Interleaved, Columns}
use Rattle.point_buffer.proofs.Sums.{in_array, length-in-array, before_small, before_at}
use Rattle.strided.specs.Steps.{no_cast, cast_at, CastsFit}
use Rattle.strided.specs.Strided.{converted, strided_fits, points_from}
use Rattle.strided.specs.declared.StridedCast.{StridedCast}
use Rattle.strided.proofs.Several.{fit-first, fit-fewer, fit-later, fits-at, cast-more}
use Rattle.strided.proofs.AsWrites.{then-points}
use Rattle.buffer_conversion.specs.Casts.{mapping_cast, member_place, HasSizes, casts}
use Rattle.plans.specs.Plan.{is_listed, is_sound_plan}
use Rattle.plans.specs.Records.{no_mapping, mapped, plan_of}
use Rattle.plans.specs.declared.plan.Mapping.{Mapping}
use Rattle.plans.specs.declared.plan.Plan.{Plan as PlanRecord}
use Rattle.plans.proofs.Facts.{mapping-here, mappings-count, plan-counts}
use Rattle.plans.proofs.Mappings.{plan-has}

-- ---- an attribute of a side

-- its datatype
listed-datatype : (l : PointLayout) (j : ℕ) → j < l.count → (get_or l.attributes j missing).attribute_definition.datatype ≡ datatype_at (layout_of l) j
unfolding layout_of attribute_of definition_of
listed-datatype l j h = ap (λ (a : Attribute). a.definition.datatype) (sym (listed_at l.attributes j l.count absent h))

-- where it lies
place_is : (l : PointLayout) (s : Storage) (count j before : ℕ) → j < l.count → before ≡ before_in (layout_of l) s j
    → member_place (get_or l.attributes j missing) l.size before s count ≡ located (layout_of l) s count j
unfolding member_place located before_in layout_of attribute_of definition_of
place_is l Interleaved count j before h e = rw (listed_at l.attributes j l.count absent h)
place_is l Columns count j before h e =
    ap₂ (λ (b : ℕ) (a : Attribute). record { base = count * b; stride = size_of a.definition.datatype }) e (sym (listed_at l.attributes j l.count absent h))

-- what the code computes of it
module _ (a : PointAttributeMember) (size before count start : ℕ) {s : Storage} where
  pub interleaved-place : s ≡ Interleaved → (record { base = a.offset + start * size; stride = size }) ≡ starting_at start (member_place a size before s count)
  unfolding member_place
  interleaved-place e = rw e

  pub column-place : {stride : ℕ} → s ≡ Columns → stride ≡ size_of a.attribute_definition.datatype
      → (record { base = count * before + start * stride; stride = stride }) ≡ starting_at start (member_place a size before s count)
  unfolding member_place
  column-place e f = rw (e, f)

module _ (l : PointLayout) (few : l.count ≤ 32) {s : Storage} {xs : List ℕ} (S : HasSizes l s xs) (j : ℕ) (h : j < l.count) where
  -- the sizes before it, in the array
  before-is : get_or xs j 0 ≡ before_in (layout_of l) s j
  before-is = before_at l s xs j (omega arith) S.are ∙ ap (λ (m : Layout). before_in m s j) (in_array l few)

  pub before-few : get_or xs j 0 ≤ 32 * 65535
  before-few = omega (arith, before_at l s xs j (omega arith) S.are, before_small (layout_in l) s j (omega (arith, length-in-array l)), S.small)

  place-listed : (count start : ℕ) → starting_at start (member_place (get_or l.attributes j missing) l.size (get_or xs j 0) s count) ≡ starting_at start (located (layout_of l) s count j)
  place-listed count start = ap (starting_at start) (place_is l s count j (get_or xs j 0) h before-is)

-- ---- one mapping of the record

module _ (p : PlanRecord) (x : Mapping) (h : is_listed (plan_of p).source (plan_of p).target x ≡ true) where
  pub source-place : x.source < p.source.count
  unfolding is_listed plan_of layout_of
  source-place =
      let l = length-listed p.source.attributes p.source.count in
      let m = listed p.source.attributes p.source.count in
      omega (arith, ltb-true x.source (length m) (and_left (ltb x.source (length m)) _ h), l)

  pub target-place : x.target < p.target.count
  unfolding is_listed plan_of layout_of
  target-place =
      let l = length-listed p.target.attributes p.target.count in
      let m = listed p.target.attributes p.target.count in
      omega (arith, ltb-true x.target (length m) (and_right (ltb x.source (length (listed p.source.attributes p.source.count))) (ltb x.target (length m)) h), l)

  -- its cast, by the sizes before its two places
  pub member_is : is_sound_plan (plan_of p) ≡ true → (from to : PointRange) {reads writes : List ℕ} {r w : Strided} → HasSizes p.source from.storage reads → HasSizes p.target to.storage writes
      → r ≡ starting_at from.start (member_place (get_or p.source.attributes x.source missing) p.source.size (get_or reads x.source 0) from.storage from.count)
      → w ≡ starting_at to.start (member_place (get_or p.target.attributes x.target missing) p.target.size (get_or writes x.target 0) to.storage to.count)
      → (record { from = (get_or p.source.attributes x.source missing).attribute_definition.datatype; to = (get_or p.target.attributes x.target missing).attribute_definition.datatype; source = r; target = w })
      ≡ mapping_cast (plan_of p) from to x
  unfolding mapping_cast plan_of
  member_is s from to {r = r} {w = w} R W er ew =
      let n = plan-counts p s in
      ap₂ (λ (c d : Datatype). record { from = c; to = d; source = r; target = w }) (listed-datatype p.source x.source source-place) (listed-datatype p.target x.target target-place)
      ∙ ap₂ (λ (y z : Strided). record { from = datatype_at (layout_of p.source) x.source; to = datatype_at (layout_of p.target) x.target; source = y; target = z })
      (er ∙ place-listed p.source n.1 R x.source source-place from.count from.start)
      (ew ∙ place-listed p.target n.2 W x.target target-place to.count to.start)

-- ---- the list that grows

-- a listed mapping of a sound plan
pub mapping-listed : (p : PlanRecord) (k : ℕ) → is_sound_plan (plan_of p) ≡ true → k < p.count → is_listed (plan_of p).source (plan_of p).target (get_or p.mappings k no_mapping) ≡ true
mapping-listed p k s h =
    rw (← mapping-here p k h) (all-at (is_listed (plan_of p).source (plan_of p).target) (plan_of p).mappings k no_mapping (plan-has (plan_of p) s).listed (omega (arith, mappings-count p)))

-- its two places, which lie within the arrays
pub places-listed : (p : PlanRecord) (k : ℕ) → is_sound_plan (plan_of p) ≡ true → k < p.count → ((get_or p.mappings k no_mapping).source < 32) × ((get_or p.mappings k no_mapping).target < 32)
places-listed p k s h =
    let n = plan-counts p s in
    let l = mapping-listed p k s h in
    (omega (arith, n, source-place p (get_or p.mappings k no_mapping) l), omega (arith, n, target-place p (get_or p.mappings k no_mapping) l))

pub none-listed : (p : PlanRecord) (from to : PointRange) (list : List StridedCast) → first no_cast list 0 ≡ map (mapping_cast (plan_of p) from to) (mapped p.mappings 0)
unfolding first mapped
none-listed p from to list = refl

pub one-listed : (p : PlanRecord) (from to : PointRange) (k : ℕ) (list : List StridedCast) (c : StridedCast) → k < length list → first no_cast list k ≡ map (mapping_cast (plan_of p) from to) (mapped p.mappings k)
    → c ≡ mapping_cast (plan_of p) from to (get_or p.mappings k no_mapping) → first no_cast (set list k c) (k + 1) ≡ map (mapping_cast (plan_of p) from to) (mapped p.mappings (k + 1))
unfolding mapped
one-listed p from to k list c h e g =
    first-set no_cast list k c h
    ∙ rw (e, g, first_more no_mapping p.mappings k)
    (sym (map-append (mapping_cast (plan_of p) from to) (first no_mapping p.mappings k) (get_or p.mappings k no_mapping ∷ [])))

pub all_listed : (p : PlanRecord) (from to : PointRange) → map (mapping_cast (plan_of p) from to) (mapped p.mappings p.count) ≡ casts (plan_of p) from to
unfolding casts plan_of
all_listed p from to = refl

-- ---- blocks

-- one of the casts fits those points that come after the first d
pub fits-later : (cs : List StridedCast) (d n a b k : ℕ) (c : StridedCast) → CastsFit cs (d + n) a b → k < length cs → c ≡ points_from d (get_or cs k no_cast) → strided_fits c n a b ≡ true
fits-later cs d n a b k c F l e =
    let m : k < length (map (points_from d) cs) = omega (arith, l, length-map cs (points_from d)) in
    let z : cast_at (map (points_from d) cs) k ≡ c = map_at (points_from d) cs k no_cast no_cast l ∙ sym e in
    sym (subst (λ (x : StridedCast). true ≡ strided_fits x n a b) z (fits-at (map (points_from d) cs) n a b (fit-later cs d n a b F) k m))

-- one cast more of a block: the points after the first d
pub next-cast : (xs : List StridedCast) (d n : ℕ) (src t now exit : List ℕ) (k : ℕ) (c : StridedCast) → CastsFit xs (d + n) (length src) (length t) → k < length xs
    → now ≡ converted (map (points_from d) (first no_cast xs k)) src n t
    → c ≡ points_from d (get_or xs k no_cast) → strided_fits c n (length src) (length now) ≡ true → exit ≡ converted (c ∷ []) src n now
    → exit ≡ converted (map (points_from d) (first no_cast xs (k + 1))) src n t
next-cast xs d n src t now exit k c F h en ec er ee =
    let more : map (points_from d) (first no_cast xs (k + 1)) ≡ map (points_from d) (first no_cast xs k) ++ (c ∷ []) =
    ap (map (points_from d)) (first_more no_cast xs k) ∙ map-append (points_from d) (first no_cast xs k) (get_or xs k no_cast ∷ [])
    ∙ ap (λ (x : StridedCast). map (points_from d) (first no_cast xs k) ++ (x ∷ [])) (sym ec) in
    let all : first no_cast xs (length xs) ≡ xs = first-take no_cast xs (length xs) (omega arith) ∙ take_all (length xs) xs (omega arith) in
    let F' : CastsFit (first no_cast xs (length xs)) (d + n) (length src) (length t) = subst (λ (l : List StridedCast). CastsFit l (d + n) (length src) (length t)) (sym all) F in
    let G = fit-later (first no_cast xs (k + 1)) d n (length src) (length t) (fit-first xs (length xs) (d + n) (length src) (length t) F' (k + 1) (omega arith)) in
    cast-more (map (points_from d) (first no_cast xs k)) c n src t (subst (λ (l : List StridedCast). CastsFit l n (length src) (length t)) more G) en (sym er) ee
    ∙ ap (λ (l : List StridedCast). converted l src n t) (sym more)

-- one block more
pub next-block : (cs : List StridedCast) (src t now exit : List ℕ) (d k n : ℕ) → CastsFit cs n (length src) (length t) → d + k ≤ n
    → now ≡ converted cs src d t → exit ≡ converted (map (points_from d) cs) src k now → exit ≡ converted cs src (d + k) t
next-block cs src t now exit d k n F l en ee =
    ee ∙ ap (converted (map (points_from d) cs) src k) en ∙ then-points cs src d k t ((fit-fewer cs (d + k) n (length src) (length t) l F).disjoint src)
