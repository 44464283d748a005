-- Default placement is the Reference's: each accepted Default call keeps `AsReference`.
use Rattle.std.specs.Prelude.{◌≡◌, ◌∷◌, ◌++◌, ◌≤◌, ◌<◌, ◌+◌, ◌%◌, ◌/◌}
use Rattle.common.specs.Logic.{◌∙◌, sym, refl, subst, List, [], map, map-append, ⊎_elim, ℕ, suc, zero, max, mod-lt, add-mul, div-add-mod', arith, eqb-true, eqb-false, eqb}
use Rattle.common.specs.Refusal.{Outcome, got, refused, left_by}
use Rattle.common.proofs.Lists.{decide}
use Rattle.datatype.specs.Arithmetic.{align_to}
use Rattle.datatype.specs.Datatype.{align_of, read_align}
use Rattle.datatype.proofs.Alignment.{align-at, align-max, align-mono, power-positive}
use Rattle.layout.specs.Calls.{called, after}
use Rattle.layout.specs.Claims.{field_of, start_of, fields_of, AsReference, default_call, DefaultClaim}
use Rattle.layout.specs.Layout.{Definition, Attribute, end_of, Layout}
use Rattle.layout.specs.Makers.{empty_layout, end_after, last_end, field_alignment, layout_alignment, placed, extended}
use Rattle.layout.specs.Reference.{Field, padding_needed, field_offset, offsets_from, end_from, alignment_of, size_of_all}
use Rattle.layout.specs.declared.point_layout.FieldAlignment.TheVariants.{Default}
use Rattle.layout.proofs.Calls.{add-got, Passed, add-passed}

-- ---- the Reference's padding is what `align_to` adds

align-padding : (x a : ℕ) → 0 < a → align_to x a ≡ x + padding_needed x a
unfolding padding_needed
align-padding x zero h = absurd (omega arith)
align-padding x (suc k) h =
    let q : ℕ = x / suc k in
    let d = div-add-mod' x (suc k) in
    let v : x % suc k < suc k = mod-lt x h in
    let w = add-mul q 1 (suc k) in
    ⊎_elim
    (λ e. let z = eqb-true (x % suc k) 0 e in rw e (align-at x k q (omega arith) (omega arith) ∙ omega arith))
    (λ e. let z = eqb-false (x % suc k) 0 e in rw e (align-at x k (q + 1) (omega arith) (omega arith) ∙ omega arith))
    (decide (eqb (x % suc k) 0))

-- 0, which pads nothing, is read as 1
align-read : (x a : ℕ) → align_to x a ≡ x + padding_needed x (max 1 a)
unfolding align_to padding_needed
align-read x zero = let e : x % 1 ≡ 0 = let h : x % 1 < 1 = mod-lt x (omega arith) in omega arith in rw e (omega arith)
align-read x (suc k) = let e : max 1 (suc k) ≡ suc k = omega arith in rw e (align-padding x (suc k) (omega arith))

-- ---- one field more

module _ (f : Field) where
  offsets-snoc : (o : ℕ) (fs : List Field) → offsets_from o (fs ++ (f ∷ [])) ≡ offsets_from o fs ++ (field_offset (end_from o fs) f ∷ [])
  unfolding offsets_from end_from
  offsets-snoc o [] = refl
  offsets-snoc o (g ∷ fs) = rw (offsets-snoc (field_offset o g + g.size) fs)

  end_snoc : (o : ℕ) (fs : List Field) → end_from o (fs ++ (f ∷ [])) ≡ field_offset (end_from o fs) f + f.size
  unfolding end_from
  end_snoc o [] = refl
  end_snoc o (g ∷ fs) = end_snoc (field_offset o g + g.size) fs

  alignment-snoc : (fs : List Field) → alignment_of (fs ++ (f ∷ [])) ≡ max (alignment_of fs) f.alignment
  unfolding alignment_of
  alignment-snoc [] = omega arith
  alignment-snoc (g ∷ fs) = rw (alignment-snoc fs) (omega arith)

-- where the offsets are the Reference's, so is the end of the last attribute
last-end : (o : ℕ) (xs : List Attribute) → map start_of xs ≡ offsets_from o (map field_of xs) → end_after o xs ≡ end_from o (map field_of xs)
unfolding end_after end_from offsets_from end_of start_of field_of
last-end o [] h = refl
last-end o (x ∷ xs) h =
    let start : x.offset ≡ field_offset o (field_of x) = cc in
    let rest : map start_of xs ≡ offsets_from (field_offset o (field_of x) + (field_of x).size) (map field_of xs) = cc in
    rw start (last-end (field_offset o (field_of x) + (field_of x).size) xs rest)

-- ---- an accepted Default call

-- its attribute, and the layout that it gives
abbrev added : Layout → Definition → Attribute
added l d = placed l.attributes d Default

abbrev longer : Layout → Definition → Layout
longer l d = extended l d Default

module _ (l : Layout) (d : Definition) (r : AsReference l) (p : Passed l d Default) where
  offset-as : (added l d).offset ≡ field_offset (end_from 0 (fields_of l)) (field_of (added l d))
  unfolding placed field_alignment last_end field_offset field_of fields_of read_align
  offset-as = rw (last-end 0 l.attributes r.offsets) (align-read _ _)

  fields-joined : fields_of (longer l d) ≡ fields_of l ++ (field_of (added l d) ∷ [])
  unfolding extended fields_of
  fields-joined = map-append field_of l.attributes (added l d ∷ [])

  offsets-as : map start_of (longer l d).attributes ≡ offsets_from 0 (fields_of (longer l d))
  unfolding extended start_of
  offsets-as =
      cc (map-append start_of l.attributes (added l d ∷ []), offset-as, fields-joined, offsets-snoc (field_of (added l d)) 0 (fields_of l))

  alignment-as : (longer l d).alignment ≡ alignment_of (fields_of (longer l d))
  unfolding extended layout_alignment field_of placed read_align
  alignment-as =
      let h = power-positive l.alignment p.sound.power in
      let e : max l.alignment (align_of d.datatype) ≡ max l.alignment (max 1 (align_of d.datatype)) = omega arith in
      cc (e, r.alignment, fields-joined, alignment-snoc (field_of (added l d)) (fields_of l))

  end-as : end_of (added l d) ≡ end_from 0 (fields_of (longer l d))
  unfolding end_of field_of
  end-as = cc (offset-as, fields-joined, end_snoc (field_of (added l d)) 0 (fields_of l))

  -- the old size is the old end, aligned
  size-was : l.size ≡ align_to (end_from 0 (fields_of l)) l.alignment
  unfolding size_of_all
  size-was = r.size ∙ rw (← r.alignment) (sym (align-padding _ _ (power-positive _ p.sound.power)))

  -- so it is within the new end, aligned
  size-within : l.size ≤ align_to (end_of (added l d)) (longer l d).alignment
  unfolding extended layout_alignment end_of field_offset
  size-within = rw size-was (align-mono _ _ _ _ p.sound.power p.fits.power (omega (arith, offset-as)) (omega arith))

  size-as : (longer l d).size ≡ size_of_all (fields_of (longer l d))
  unfolding extended size_of_all
  size-as =
      let e = end_of (added l d) in
      let a = (longer l d).alignment in
      let h = power-positive a p.fits.power in
      cc (align-max e l.size a h size-within, align-padding e a h, end-as, alignment-as)

  longer-as : AsReference (longer l d)
  longer-as = record { offsets = offsets-as; size = size-as; alignment = alignment-as }

-- ---- a list of Default calls

next-as : (l : Layout) (d : Definition) (o : Outcome Layout) → called l (default_call d) ≡ o → AsReference l → AsReference (left_by l o)
unfolding left_by default_call
next-as l d (got l') e r = let g = add-got l d Default l' e in subst AsReference g.1 (longer-as l d r (add-passed l d Default g.0))
next-as l d (refused n) e r = r

after-as : (l : Layout) (ds : List Definition) → AsReference l → AsReference (after l (map default_call ds))
unfolding after
after-as l [] r = r
after-as l (d ∷ ds) r = after-as (left_by l (called l (default_call d))) ds (next-as l d (called l (default_call d)) refl r)

pub default-claim : DefaultClaim
unfolding empty_layout fields_of offsets_from end_from alignment_of size_of_all padding_needed
default-claim ds = after-as empty_layout ds (record { offsets = refl; size = refl; alignment = refl })
