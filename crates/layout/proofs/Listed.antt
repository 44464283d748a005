-- Lists of attributes as the code holds them: an array and how many of its members count.
use Rattle.std.specs.Prelude.{◌≡◌, slice_get, ◌&&◌, ◌∷◌, ◌++◌, ◌<◌, ◌+◌, ◌-◌}
use Rattle.common.specs.Logic.{◌∙◌, sym, ap, refl, ⊎_elim, Bool, cond, List, [], map, map-append, None, Some, ℕ, suc, arith, ltb, length, get_or, take, set, length-map}
use native.Mathlib.Numerals.{add-one}
use lib.Seq.{get_or_at, take-length, take-suc}
use Rattle.std.specs.List.{list_all, position_from, position_or_len}
use Rattle.std.proofs.lemmas.Option.{get_or_from_slice_get, slice_get_cases}
use Rattle.std.proofs.lemmas.Iterator.Adapters.{position_from-zero}
use Rattle.common.specs.Lists.{all, first, place_from}
use Rattle.common.proofs.Lists.{length-first, first-none, first_more, first-split, first-set}
use Rattle.layout.specs.Layout.{Attribute, end_of}
use Rattle.layout.specs.Makers.{end_after, last_end}
use Rattle.layout.specs.Records.{attribute_of, missing, listed}
use Rattle.layout.specs.declared.point_layout.PointAttributeMember.{PointAttributeMember}

pub listed-none : (ms : List PointAttributeMember) → listed ms 0 ≡ []
unfolding listed
listed-none ms = ap (map attribute_of) (first-none missing ms)

-- one more
pub listed_more : (ms : List PointAttributeMember) (k : ℕ) → listed ms (k + 1) ≡ listed ms k ++ (attribute_of (get_or ms k missing) ∷ [])
unfolding listed
listed_more ms k = ap (map attribute_of) (first_more missing ms k) ∙ map-append attribute_of (first missing ms k) (get_or ms k missing ∷ [])

pub length-listed : (ms : List PointAttributeMember) (k : ℕ) → length (listed ms k) ≡ k
unfolding listed
length-listed ms k = length-map (first missing ms k) attribute_of ∙ length-first missing ms k

-- the attributes from the i-th on
pub listed-split : (ms : List PointAttributeMember) (i k : ℕ) → i < k → (rest : List Attribute) × (listed ms k ≡ listed ms i ++ (attribute_of (get_or ms i missing) ∷ rest))
unfolding listed
listed-split ms i k h =
    let r = first-split missing ms i k h in
    (map attribute_of r.0, ap (map attribute_of) r.1 ∙ map-append attribute_of (first missing ms i) (get_or ms i missing ∷ r.0))

pub listed_at : (ms : List PointAttributeMember) (i k : ℕ) (d : Attribute) → i < k → get_or (listed ms k) i d ≡ attribute_of (get_or ms i missing)
listed_at ms i k d h =
    let r = listed-split ms i k h in
    rw r.1 (get_or_at (listed ms i) (attribute_of (get_or ms i missing)) r.0 d i (length-listed ms i))

-- a member stored past those that count joins their end
pub listed-set : (ms : List PointAttributeMember) (k : ℕ) (m : PointAttributeMember) → k < length ms → listed (set ms k m) (k + 1) ≡ listed ms k ++ (attribute_of m ∷ [])
unfolding listed
listed-set ms k m h = ap (map attribute_of) (first-set missing ms k m h) ∙ map-append attribute_of (first missing ms k) (m ∷ [])

-- ---- the end of the last-listed attribute

pub last_snoc : (xs : List Attribute) (a : Attribute) (e : ℕ) → end_after e (xs ++ (a ∷ [])) ≡ end_of a
unfolding end_after
last_snoc [] a e = refl
last_snoc (x ∷ xs) a e = last_snoc xs a (end_of x)

-- ---- a slice of members, as a loop over it goes

-- the attributes of the first i members
abbrev pub upto : List PointAttributeMember → ℕ → List Attribute
upto ms i = map attribute_of (take i ms)

-- a loop's turn
pub upto_more : (ms : List PointAttributeMember) (i : ℕ) → i < length ms → upto ms (i + 1) ≡ upto ms i ++ (attribute_of (get_or ms i missing) ∷ [])
upto_more ms i h = ap (map attribute_of) (rw add-one (take-suc ms i missing h)) ∙ map-append attribute_of (take i ms) (get_or ms i missing ∷ [])

-- and its end
pub upto-all : (ms : List PointAttributeMember) (i : ℕ) → i ≡ length ms → upto ms i ≡ map attribute_of ms
upto-all ms i e = ap (upto ms) e ∙ ap (map attribute_of) (take-length ms)

-- the end of the last one, or 0
module _ (ms : List PointAttributeMember) where
  pub last-some : (m : PointAttributeMember) → Some m ≡ slice_get ms (length ms - 1) → end_of (attribute_of m) ≡ last_end (map attribute_of ms)
  unfolding last_end
  last-some m h =
      ⊎_elim
      (λ w.
      let e : get_or ms (length ms - 1) missing ≡ m = get_or_from_slice_get ms (length ms - 1) m missing (sym h) in
      let k : length ms - 1 + 1 ≡ length ms = omega (arith, w.1) in
      sym (ap (end_after 0) (sym (upto-all ms (length ms - 1 + 1) k) ∙ upto_more ms (length ms - 1) w.1) ∙ last_snoc (upto ms (length ms - 1)) _ 0 ∙ ap (λ (x : PointAttributeMember). end_of (attribute_of x)) e))
      (λ w. absurd (let y : Some m ≡ None = h ∙ w.1 in let z : ◌≡◌ {A = ℕ} 0 1 = cc in omega arith)) (slice_get_cases ms (length ms - 1)).1

  pub last-none : None ≡ slice_get ms (length ms - 1) → 0 ≡ last_end (map attribute_of ms)
  unfolding last_end end_after
  last-none h =
      ⊎_elim (λ w. absurd (let y : None ≡ Some w.0 = h ∙ w.2 in let z : ◌≡◌ {A = ℕ} 0 1 = cc in omega arith))
      (λ w. let k : 0 ≡ length ms = omega (arith, w.0) in ap (end_after 0) (upto-all ms 0 k)) (slice_get_cases ms (length ms - 1)).1

module _ {A B : Type 0} (p : B → Bool) (f : A → B) where
  -- a test of each
  pub all-map : (xs : List A) → list_all (λ x. p (f x)) xs ≡ all p (map f xs)
  unfolding all
  all-map [] = refl
  all-map (x ∷ xs) = ap (λ (b : Bool). p (f x) && b) (all-map xs)

  -- the place of the first that passes it
  position-map : (n : ℕ) (xs : List A) → position_from (λ x. p (f x)) n xs ≡ place_from n p (map f xs)
  unfolding place_from
  position-map n [] = refl
  position-map n (x ∷ xs) = let e : n + 1 ≡ suc n = omega arith in ap (cond (p (f x)) (Some n)) (position-map (n + 1) xs ∙ ap (λ (k : ℕ). place_from k p (map f xs)) e)

  pub place-map : (xs : List A) → cond (ltb (position_or_len (λ x. p (f x)) xs) (length xs)) (Some (position_or_len (λ x. p (f x)) xs)) None ≡ place_from 0 p (map f xs)
  place-map xs = position_from-zero (λ x. p (f x)) xs ∙ position-map 0 xs
