-- Laws of reading by a format: one after the other, k of them, up to the sheet's end.
use Rattle.std.specs.Prelude.{◌≡◌, ◌&&◌, ◌∷◌, ◌++◌, ◌≤◌, ◌<◌, ◌+◌}
use Rattle.common.specs.Logic.{◌∙◌, sym, ap, refl, subst, true, Bool, false, cond, not, List, [], ⊎_elim, ℕ, suc, zero, not-suc-le-zero, le_of_suc-le-suc, not-false, leb-true, leb, length, get_or}
use mathlib.Core.Path.{fun_ext}
use native.Mathlib.Numerals.{add-one}
use Rattle.common.specs.Refusal.{line, Outcome, got, refused, answer, outcome, check, and_then}
use Rattle.common.proofs.Lists.{and_left, and_right, decide}
use Rattle.common.proofs.Refusals.{passes-cons, check-got, check-holds, check-passes, then-got, then-refused, got-then, then-assoc}
use Rattle.format.specs.Bits.{Read, read, field, zero_fill}
use Rattle.format.specs.Format.{Format, end, refuse, next, ◌>>=◌, bits, bits_from, times, read_by, to_end, rest_by}
use Rattle.format.proofs.Fields.{never, FieldGot, field-got}

-- ---- one after the other

pub read-end : {X : Type 0} (x : X) (s : List ℕ) (p : ℕ) → read_by (end x) s p ≡ got (read x p)
unfolding read_by
read-end x s p = refl

pub end_read : {X : Type 0} (x : X) (s : List ℕ) (p : ℕ) {r : Read X} → read_by (end x) s p ≡ got r → read x p ≡ r
unfolding read_by
end_read x s p h = cc

pub read-bind : {X Y : Type 0} (f : Format X) (g : X → Format Y) (s : List ℕ) (p : ℕ) → read_by (f >>= g) s p ≡ and_then (read_by f s p) (λ r. read_by (g r.value) s r.next)
unfolding read_by ◌>>=◌ and_then
read-bind (end x) g s p = refl
read-bind (refuse n) g s p = refl
read-bind (next w f) g s p =
    ap (and_then (field w s p)) (fun_ext (λ v. read-bind (f v.value) g s v.next)) ∙ sym (then-assoc (field w s p) _ _)

module _ {X Y : Type 0} (f : Format X) (g : X → Format Y) (s : List ℕ) (p : ℕ) where
  pub read-then : {r : Read X} → read_by f s p ≡ got r → read_by (f >>= g) s p ≡ read_by (g r.value) s r.next
  read-then h = read-bind f g s p ∙ then-got _ h

  pub read-stops : {n : ℕ} → read_by f s p ≡ refused n → read_by (f >>= g) s p ≡ refused n
  read-stops h = read-bind f g s p ∙ then-refused _ h

  -- what was got was got of both
  pub read-both : {y : Read Y} → read_by (f >>= g) s p ≡ got y → (r : Read X) × (read_by f s p ≡ got r) × (read_by (g r.value) s r.next ≡ got y)
  read-both h = got-then _ (read_by f s p) (sym (read-bind f g s p) ∙ h)

-- ---- one field

module _ (w : ℕ) (s : List ℕ) (p : ℕ) where
  pub read-bits : read_by (bits w) s p ≡ field w s p
  unfolding read_by bits and_then
  read-bits = same (field w s p)
    where
      same : (o : Outcome (Read ℕ)) → and_then o (λ v. got (read v.value v.next)) ≡ o
      same (got r) = refl
      same (refused n) = refl

  pub bits-got : {v q : ℕ} → got (read v q) ≡ field w s p → read_by (bits w) s p ≡ got (read v q)
  bits-got h = read-bits ∙ sym h

  pub bits-refused : {n : ℕ} → refused n ≡ field w s p → read_by (bits w) s p ≡ refused n
  bits-refused h = read-bits ∙ sym h

  module _ (n low high : ℕ) where
    -- a field that was read
    pub record FromGot (v q : ℕ) : Type 0 where
      pub read : FieldGot w s p v q
      pub low-le : low ≤ v
      pub le-high : v ≤ high

    pub from-got : {v q : ℕ} → got (read v q) ≡ read_by (bits_from n low high w) s p → FromGot v q
    unfolding read_by bits_from
    from-got {v} {q} h = let g = got-then _ (field w s p) (sym h) in found g.0 g.1 g.2
      where
        found : (r : Read ℕ) → field w s p ≡ got r → read_by (cond (leb low r.value && leb r.value high) (end r.value) (refuse n)) s r.next ≡ got (read v q) → FromGot v q
        found r e k =
            ⊎_elim
            (λ b.
            let t : got r ≡ got (read v q) = rw b at k in
            let i : r ≡ read v q = cc in
            let j : r.value ≡ v = ap (λ (r : Read ℕ). r.value) i in
            record {
              read = field-got w s p (sym (e ∙ t));
              low-le = leb-true low v (rw j at (and_left (leb low r.value) (leb r.value high) b));
              le-high = leb-true v high (rw j at (and_right (leb low r.value) (leb r.value high) b));
            })
            (λ b. let t : refused n ≡ got (read v q) = rw b at k in never refl t) (decide (leb low r.value && leb r.value high))

-- ---- k of them

module _ {X : Type 0} (f : Format X) (s : List ℕ) where
  pub times_none : (p : ℕ) → read_by (times f 0) s p ≡ got (read [] p)
  unfolding read_by times
  times_none p = refl

  -- the first, and those after it
  times-first : (k p : ℕ) → read_by (times f (suc k)) s p ≡ and_then (read_by f s p) (λ x. and_then (read_by (times f k) s x.next) (λ xs. got (read (x.value ∷ xs.value) xs.next)))
  unfolding times
  times-first k p = simp (read-bind, read-end)

  record TimesGot (k p : ℕ) (xs : Read (List X)) : Type 0 where
    head : Read X
    tail : Read (List X)
    first : read_by f s p ≡ got head
    rest : read_by (times f k) s head.next ≡ got tail
    both : read (head.value ∷ tail.value) tail.next ≡ xs

  times-got : (k p : ℕ) {xs : Read (List X)} → read_by (times f (suc k)) s p ≡ got xs → TimesGot k p xs
  times-got k p {xs} h =
      let g = got-then _ (read_by f s p) (sym (times-first k p) ∙ h) in
      let m = got-then _ (read_by (times f k) s g.0.next) g.2 in
      record { head = g.0; tail = m.0; first = g.1; rest = m.1; both = (cc) }

  pub times-cons : (i p : ℕ) {x : Read X} {xs : Read (List X)} → read_by f s p ≡ got x → read_by (times f i) s x.next ≡ got xs → read_by (times f (suc i)) s p ≡ got (read (x.value ∷ xs.value) xs.next)
  times-cons i p h e = times-first i p ∙ then-got _ h ∙ then-got _ e

  none_read : (p : ℕ) {xs : Read (List X)} → read_by (times f 0) s p ≡ got xs → read [] p ≡ xs
  none_read p h = let q = times_none p in cc

  times-suc : (i p : ℕ) {xs : Read (List X)} {x : Read X} → read_by (times f i) s p ≡ got xs → read_by f s xs.next ≡ got x → read_by (times f (suc i)) s p ≡ got (read (xs.value ++ (x.value ∷ [])) x.next)
  times-suc zero p {xs} {x} h e =
      let q = none_read p h in
      let k : read_by f s p ≡ got x = rw (← q) at e in
      rw (← q) (times-cons zero p k (times_none x.next))
  times-suc (suc i) p {xs} {x} h e =
      let g = times-got i p h in
      let k : read_by f s g.tail.next ≡ got x = rw (← g.both) at e in
      times-cons (suc i) p g.first (times-suc i g.head.next g.rest k) ∙ ap (λ (ys : Read (List X)). got (read (ys.value ++ (x.value ∷ [])) x.next)) g.both

  -- one more at the end
  pub times_more : (i p : ℕ) {xs : Read (List X)} {x : Read X} → read_by (times f i) s p ≡ got xs → read_by f s xs.next ≡ got x → read_by (times f (i + 1)) s p ≡ got (read (xs.value ++ (x.value ∷ [])) x.next)
  times_more i p h e = rw add-one (times-suc i p h e)

  -- a refusal after the first i stops all
  pub times-stops : (i k p : ℕ) {n : ℕ} {xs : Read (List X)} → i < k → read_by (times f i) s p ≡ got xs → read_by f s xs.next ≡ refused n → read_by (times f k) s p ≡ refused n
  times-stops i zero p l h e = absurd (not-suc-le-zero l)
  times-stops zero (suc k) p {n} {xs} l h e =
      let q = none_read p h in
      let m : read_by f s p ≡ refused n = rw (← q) at e in
      times-first k p ∙ then-refused _ m
  times-stops (suc i) (suc k) p {n} {xs} l h e =
      let g = times-got i p h in
      let m : read_by f s g.tail.next ≡ refused n = rw (← g.both) at e in
      times-first k p ∙ then-got _ g.first ∙ then-refused _ (times-stops i k g.head.next (le_of_suc-le-suc l) g.rest m)

  pub times-length : (k p : ℕ) {xs : Read (List X)} → read_by (times f k) s p ≡ got xs → length xs.value ≡ k
  times-length zero p h = ap (λ (ys : Read (List X)). length ys.value) (sym (none_read p h))
  times-length (suc k) p h =
      let g = times-got k p h in
      ap (λ (ys : Read (List X)). length ys.value) (sym g.both) ∙ ap suc (times-length k g.head.next g.rest)

  -- what holds of each that is read
  pub times-each : (P : X → Type 0) → ((p : ℕ) (x : Read X) → read_by f s p ≡ got x → P x.value) → (k p : ℕ) {xs : Read (List X)} → read_by (times f k) s p ≡ got xs → (i : ℕ) (d : X) → i < length xs.value → P (get_or xs.value i d)
  times-each P e zero p h i d l = absurd (not-suc-le-zero (rw (← none_read p h) at l))
  times-each P e (suc k) p h i d l =
      let g = times-got k p h in
      subst (λ (ys : Read (List X)). i < length ys.value → P (get_or ys.value i d)) g.both (each i g.head g.tail (e p g.head g.first) (λ j. times-each P e k g.head.next g.rest j d)) l
    where
      each : (i : ℕ) (x : Read X) (ys : Read (List X)) → P x.value → ((j : ℕ) → j < length ys.value → P (get_or ys.value j d)) → i < length (x.value ∷ ys.value) → P (get_or (x.value ∷ ys.value) i d)
      each zero x ys a b l = a
      each (suc j) x ys a b l = b j (le_of_suc-le-suc l)

-- ---- up to the sheet's end

module _ {X : Type 0} (f : Format X) (s : List ℕ) (p : ℕ) where
  pub end-stops : {n : ℕ} → read_by f s p ≡ refused n → to_end f s p ≡ refused n
  unfolding to_end
  end-stops h = then-refused _ h

  pub end-other : {x : Read X} {t : Bool} → read_by f s p ≡ got x → t ≡ zero_fill s x.next → t ≡ false → to_end f s p ≡ refused 7
  unfolding to_end
  end-other h z e = then-got _ h ∙ check-holds 7 _ (rw (← z, e))

  pub end-here : {x : Read X} {t : Bool} → read_by f s p ≡ got x → t ≡ zero_fill s x.next → t ≡ true → to_end f s p ≡ got x
  unfolding to_end
  end-here h z e = then-got _ h ∙ check-passes 7 _ (rw (← z, e))

  pub end-got : {x : Read X} → to_end f s p ≡ got x → (read_by f s p ≡ got x) × (zero_fill s x.next ≡ true)
  unfolding to_end
  end-got h =
      let g = got-then _ (read_by f s p) h in
      let c = check-got _ _ _ g.2 in
      (g.1 ∙ ap got c.1, rw (← c.1) (not-false (zero_fill s g.0.next) (passes-cons _ _ _ c.0).0))

  pub rest-stops : {n : ℕ} → to_end f s p ≡ refused n → rest_by f s p ≡ refused n
  unfolding rest_by
  rest-stops h = then-refused _ h

  pub rest-is : {r : Read X} → to_end f s p ≡ got r → rest_by f s p ≡ got r.value
  unfolding rest_by
  rest-is h = then-got _ h

module _ {X Y : Type 0} (f : Format X) (g : X → Format Y) (s : List ℕ) (p : ℕ) where
  rest-bind : rest_by (f >>= g) s p ≡ and_then (read_by f s p) (λ r. rest_by (g r.value) s r.next)
  unfolding rest_by to_end
  rest-bind = simp (read-bind, then-assoc)

  pub rest_then : {r : Read X} → read_by f s p ≡ got r → rest_by (f >>= g) s p ≡ rest_by (g r.value) s r.next
  rest_then h = rest-bind ∙ then-got _ h

  pub rest-refused : {n : ℕ} → read_by f s p ≡ refused n → rest_by (f >>= g) s p ≡ refused n
  rest-refused h = rest-bind ∙ then-refused _ h

-- what the last part says, put in other words
pub rest-map : {X Y : Type 0} (f : Format X) (h : X → Y) (s : List ℕ) (p : ℕ) → rest_by (f >>= (λ x. end (h x))) s p ≡ and_then (to_end f s p) (λ r. got (h r.value))
unfolding rest_by to_end and_then check answer outcome
rest-map {X} {Y} f h s p = simp (read-bind, then-assoc, read-end) (ap (and_then (read_by f s p)) (fun_ext (λ x. tested x (zero_fill s x.next))))
  where
    tested : (x : Read X) (b : Bool) → and_then (check (line 7 (not b) ∷ []) (read (h x.value) x.next)) (λ r. got r.value) ≡ and_then (check (line 7 (not b) ∷ []) x) (λ r. got (h r.value))
    tested x true = refl
    tested x false = refl
