-- Laws of `specs.Reader`: one field, one after the other, and what the code has of it.
use Rattle.std.specs.Prelude.{◌≡◌, ◌&&◌, ◌≤◌, ◌<◌, ◌+◌, ◌*◌, ◌^◌, Result, Err}
use Rattle.common.specs.Logic.{◌∙◌, sym, ap, refl, true, false, cond, List, ℕ, arith, leb, length, Bool}
use Rattle.common.specs.Refusal.{Outcome, got, refused, and_then}
use Rattle.common.specs.declared.Refusal.{Refusal}
use Rattle.std.specs.Result.{IsErrAnd}
use Rattle.std.proofs.lemmas.Result.{err_from_is_err_and}
use Rattle.common.proofs.Refusals.{then-got, then-refused, got-then, then-assoc}
use Rattle.format.specs.Bits.{Read, read, number_at, zero_fill}
use Rattle.format.specs.Format.{Format, end, refuse, ◌>>=◌, bits, bits_from, read_by, rest_by, start_by}
use Rattle.format.proofs.Fields.{field-ends, field-inside, field-got}
use Rattle.format.proofs.Reading.{read-bind, read-bits, bits-got, bits-refused, from-got, end-stops, end-other, end-here, rest-stops, rest-is}
use Rattle.layout_sheets.specs.Place.{Place}
use Rattle.layout_sheets.specs.Reader.{Left, left, reads, coded}

-- ---- one field

abbrev pub after : Place → ℕ → Place
after p n = record { sheet = p.sheet; at = p.at + n }

module _ {X : Type 0} (f : Format X) (p : Place) where
  pub reads-got : {x : X} {q : ℕ} → read_by f p.sheet p.at ≡ got (read x q) → got (left x (record { sheet = p.sheet; at = q })) ≡ reads f p
  unfolding reads
  reads-got h = sym (then-got _ h)

  pub got-at : {x : X} {q : Place} → read_by f p.sheet p.at ≡ got (read x q.at) → q.sheet ≡ p.sheet → got (left x q) ≡ reads f p
  got-at {x} {q} h e = ap (λ (s : List ℕ). got (left x (record { sheet = s; at = q.at }))) e ∙ reads-got h

  pub reads-refused : {n : ℕ} → read_by f p.sheet p.at ≡ refused n → refused n ≡ reads f p
  unfolding reads
  reads-refused h = sym (then-refused _ h)

  -- what was read
  pub got-reads : {x : X} {q : Place} → got (left x q) ≡ reads f p → (read_by f p.sheet p.at ≡ got (read x q.at)) × (q.sheet ≡ p.sheet)
  unfolding reads
  got-reads {x} {q} h =
      let g = got-then _ (read_by f p.sheet p.at) (sym h) in
      let e : left g.0.value (record { sheet = p.sheet; at = g.0.next }) ≡ left x q = cc in
      (g.1 ∙ ap (λ (l : Left X). got (read l.value l.place.at)) e, sym (ap (λ (l : Left X). l.place.sheet) e))

  pub refused-reads : {n : ℕ} → refused n ≡ reads f p → read_by f p.sheet p.at ≡ refused n
  unfolding reads and_then
  refused-reads {n} h = go (read_by f p.sheet p.at) h
    where
      go : (o : Outcome (Read X)) → refused n ≡ and_then o (λ r. got (left r.value (record { sheet = p.sheet; at = r.next }))) → o ≡ refused n
      go (got r) e = absurd (let z : ◌≡◌ {A = ℕ} 0 1 = cc in omega arith)
      go (refused m) e = cc

module _ (w : ℕ) (p : Place) where
  pub bits-end : 8 * length p.sheet < p.at + w → refused 2 ≡ reads (bits w) p
  bits-end h = reads-refused (bits w) p (bits-refused w p.sheet p.at (field-ends w p.sheet p.at h))

  pub bits-read : p.at + w ≤ 8 * length p.sheet → got (left (number_at p.sheet p.at w) (after p w)) ≡ reads (bits w) p
  bits-read h = reads-got (bits w) p (bits-got w p.sheet p.at (field-inside w p.sheet p.at h))

  pub bits-small : {v : ℕ} {q : Place} → got (left v q) ≡ reads (bits w) p → v < 2 ^ w
  bits-small h = (field-got w p.sheet p.at (sym (sym (read-bits w p.sheet p.at) ∙ (got-reads (bits w) p h).0))).small

  pub bits-at : (v q : ℕ) → v ≡ number_at p.sheet p.at w → q ≡ p.at + w → p.at + w ≤ 8 * length p.sheet → got (left v (record { sheet = p.sheet; at = q })) ≡ reads (bits w) p
  bits-at v q e m h = rw (e, m) (bits-read h)

-- ---- one after the other

module _ {X Y : Type 0} (f : Format X) (g : X → Format Y) (p : Place) where
  pub reads-bind : reads (f >>= g) p ≡ and_then (reads f p) (λ l. reads (g l.value) l.place)
  unfolding reads and_then
  reads-bind =
      ap (λ (o : Outcome (Read Y)). and_then o (λ r. got (left r.value (record { sheet = p.sheet; at = r.next })))) (read-bind f g p.sheet p.at)
      ∙ then-assoc (read_by f p.sheet p.at) _ _
      ∙ go (read_by f p.sheet p.at)
    where
      go : (o : Outcome (Read X)) → and_then o (λ x. and_then (read_by (g x.value) p.sheet x.next) (λ r. got (left r.value (record { sheet = p.sheet; at = r.next })))) ≡ and_then (and_then o (λ r. got (left r.value (record { sheet = p.sheet; at = r.next })))) (λ l. reads (g l.value) l.place)
      go (got r) = refl
      go (refused n) = refl

  pub reads-then : {x : X} {q : Place} {o : Outcome (Left Y)} → got (left x q) ≡ reads f p → o ≡ reads (g x) q → o ≡ reads (f >>= g) p
  reads-then h k = k ∙ sym (reads-bind ∙ then-got _ (sym h))

  pub reads-stops : {n : ℕ} → refused n ≡ reads f p → refused n ≡ reads (f >>= g) p
  reads-stops h = sym (reads-bind ∙ then-refused _ (sym h))

pub end-read : {X : Type 0} (x : X) (p : Place) → got (left x p) ≡ reads (end x) p
unfolding reads read_by and_then
end-read x p = refl

-- ---- the exit of a `?`

pub failed : {X : Type 0} (r : Result X Refusal) (e : Refusal) → IsErrAnd r (λ x. x ≡ e) → r ≡ Err e
failed r e h = let q = err_from_is_err_and r h in q.1 ∙ ap (λ (x : Refusal). Err x) q.2

-- ---- a field whose value is tested

module _ (w n low high : ℕ) (p : Place) where
  tested : reads (bits_from n low high w) p ≡ and_then (reads (bits w) p) (λ l. reads (cond (leb low l.value && leb l.value high) (end l.value) (refuse n)) l.place)
  unfolding bits_from bits ◌>>=◌
  tested = reads-bind (bits w) (λ v. cond (leb low v && leb v high) (end v) (refuse n)) p

  pub from-small : {v : ℕ} {q : Place} → got (left v q) ≡ reads (bits_from n low high w) p → (low ≤ v) × (v ≤ high)
  from-small h = let g = from-got w p.sheet p.at n low high (sym (got-reads (bits_from n low high w) p h).0) in (g.low-le, g.le-high)

  pub from-stops : {m : ℕ} → refused m ≡ reads (bits w) p → refused m ≡ reads (bits_from n low high w) p
  from-stops h = sym (tested ∙ then-refused _ (sym h))

  pub from-here : {v : ℕ} {q : Place} → got (left v q) ≡ reads (bits w) p → (leb low v && leb v high) ≡ true → got (left v q) ≡ reads (bits_from n low high w) p
  unfolding reads read_by and_then
  from-here h t = sym (tested ∙ then-got _ (sym h) ∙ rw t)

  pub from-other : {v : ℕ} {q : Place} → got (left v q) ≡ reads (bits w) p → (leb low v && leb v high) ≡ false → refused n ≡ reads (bits_from n low high w) p
  unfolding reads read_by and_then
  from-other h t = sym (tested ∙ then-got _ (sym h) ∙ rw t)

-- ---- what the code has of it

module _ {X Y : Type 0} (h : X → Y) (f : Format X) (p : Place) where
  pub code-got : {x : X} {q : Place} → got (left x q) ≡ reads f p → got (left (h x) q) ≡ reads (coded h f) p
  unfolding coded
  code-got {x} {q} e = reads-then f (λ y. end (h y)) p e (end-read (h x) q)

  pub code-stops : {n : ℕ} → refused n ≡ reads f p → refused n ≡ reads (coded h f) p
  unfolding coded
  code-stops e = reads-stops f (λ y. end (h y)) p e

  coded-is : reads (coded h f) p ≡ and_then (reads f p) (λ l. got (left (h l.value) l.place))
  unfolding coded reads read_by and_then
  coded-is = reads-bind f (λ y. end (h y)) p

  pub uncoded : {y : Y} {q : Place} → got (left y q) ≡ reads (coded h f) p → (x : X) × (h x ≡ y) × (got (left x q) ≡ reads f p)
  uncoded {y} {q} e =
      let g = got-then _ (reads f p) (sym coded-is ∙ sym e) in
      let k : left (h g.0.value) g.0.place ≡ left y q = cc in
      (g.0.value, ap (λ (l : Left Y). l.value) k, ap (λ (r : Place). got (left g.0.value r)) (sym (ap (λ (l : Left Y). l.place) k)) ∙ sym g.1)

  pub uncoded-refused : {n : ℕ} → refused n ≡ reads (coded h f) p → refused n ≡ reads f p
  unfolding and_then
  uncoded-refused {n} e = go (reads f p) (e ∙ coded-is)
    where
      go : (o : Outcome (Left X)) → refused n ≡ and_then o (λ l. got (left (h l.value) l.place)) → refused n ≡ o
      go (got l) k = absurd (let z : ◌≡◌ {A = ℕ} 0 1 = cc in omega arith)
      go (refused m) k = let e : n ≡ m = cc in ap refused e

module _ {X Y Z : Type 0} (h : Y → Z) (f : Format X) (g : X → Format Y) (p : Place) where
  pub coded-stops : {n : ℕ} → refused n ≡ reads f p → refused n ≡ reads (coded h (f >>= g)) p
  coded-stops e = code-stops h (f >>= g) p (reads-stops f g p e)

-- ---- a whole sheet, and its start

abbrev pub start : List ℕ → Place
start s = record { sheet = s; at = 0 }

module _ {X : Type 0} (f : Format X) (s : List ℕ) where
  pub rest-cut : {n : ℕ} → refused n ≡ reads f (start s) → rest_by f s 0 ≡ refused n
  rest-cut h = rest-stops f s 0 (end-stops f s 0 (refused-reads f (start s) h))

  module _ {x : X} {q : Place} (h : got (left x q) ≡ reads f (start s)) {b : Bool} (z : b ≡ zero_fill q.sheet q.at) where
    fill_is : b ≡ zero_fill s q.at
    fill_is = z ∙ ap (λ (t : List ℕ). zero_fill t q.at) (got-reads f (start s) h).1

    pub rest-goes-on : b ≡ false → rest_by f s 0 ≡ refused 7
    rest-goes-on e = rest-stops f s 0 (end-other f s 0 (got-reads f (start s) h).0 fill_is e)

    pub rest-ends : b ≡ true → rest_by f s 0 ≡ got x
    rest-ends e = rest-is f s 0 (end-here f s 0 (got-reads f (start s) h).0 fill_is e)

  pub start-cut : {n : ℕ} → refused n ≡ reads f (start s) → start_by f s 0 ≡ refused n
  unfolding start_by
  start-cut h = then-refused _ (refused-reads f (start s) h)

  pub start-read : {x : X} {q : Place} → got (left x q) ≡ reads f (start s) → start_by f s 0 ≡ got x
  unfolding start_by
  start-read h = then-got _ (got-reads f (start s) h).0
