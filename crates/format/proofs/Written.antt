-- Formats whose values a function writes out: each value that can be said is said in one way.
use Rattle.std.specs.Prelude.{◌≡◌, ◌&&◌, ◌∷◌, ◌++◌, ◌↔◌, ◌≤◌, ◌<◌, ◌^◌}
use Rattle.common.specs.Logic.{◌∙◌, sym, ap, refl, ap₂, true, Bool, false, cond, List, [], append-nil, flat_map, ℕ, suc, zero, arith, le-leb, leb-true, leb, length}
use Rattle.common.proofs.Lists.{and_left, and_right, clash}
use Rattle.format.specs.Format.{Format, end, refuse, next, ◌>>=◌, bits, bits_from, times}
use Rattle.format.specs.Spelling.{Leads, stop, step}

-- each has it
abbrev pub Each : {X : Type 0} → (X → Type 0) → List X → Type 0
Each P [] = Unit {0}
Each P (x ∷ xs) = P x × Each P xs

-- the value lies from low to high
abbrev pub Inside : ℕ → ℕ → ℕ → Type 0
Inside low high v = (leb low v && leb v high) ≡ true

pub bounds : (a b m : ℕ) → Inside a b m → (a ≤ m) × (m ≤ b)
bounds a b m h = (leb-true a m (and_left (leb a m) (leb m b) h), leb-true m b (and_right (leb a m) (leb m b) h))

pub inside : (a b m : ℕ) → a ≤ m → m ≤ b → Inside a b m
inside a b m h k = rw (le-leb a m h, le-leb m b k)

-- ---- one after the other

pub leads-then : {X Y : Type 0} {f : Format X} (g : X → Format Y) {vs ws : List ℕ} {x : X} {h : Format Y} → Leads f vs (end x) → Leads (g x) ws h → Leads (f >>= g) (vs ++ ws) h
unfolding ◌>>=◌
leads-then g stop k = k
leads-then g (step h l) k = step h (leads-then g l k)

pub record Then {X Y : Type 0} (f : Format X) (g : X → Format Y) (vs : List ℕ) (y : Y) : Type 0 where
  pub value : X
  pub front : List ℕ
  pub back : List ℕ
  pub both : front ++ back ≡ vs
  pub first : Leads f front (end value)
  pub second : Leads (g value) back (end y)

-- a refusal is not led through
pub leads-nowhere : {P X : Type 0} {n : ℕ} {vs : List ℕ} {x : X} → Leads (refuse n) vs (end x) → P
leads-nowhere l = elim l [ ]

pub then-leads : {X Y : Type 0} (f : Format X) (g : X → Format Y) {vs : List ℕ} {y : Y} → Leads (f >>= g) vs (end y) → Then f g vs y
unfolding ◌>>=◌
then-leads (end x) g {vs} l = record { value = x; front = []; back = vs; both = refl; first = stop; second = l }
then-leads (refuse n) g l = leads-nowhere l
then-leads (next w f) g (step {v} h l) =
    let t = then-leads (f v) g l in
    record { value = t.value; front = v ∷ t.front; back = t.back; both = ap (λ (us : List ℕ). v ∷ us) t.both; first = step h t.first; second = t.second }

-- ---- written out

-- the values that lead to x are those written out of it, where it can be said
pub record Written {X : Type 0} (f : Format X) (Good : X → Type 0) (out : X → List ℕ) : Type 0 where
  pub own : {vs : List ℕ} {x : X} → Leads f vs (end x) → Good x × (vs ≡ out x)
  pub back : (x : X) → Good x → Leads f (out x) (end x)

module _ {X : Type 0} where
  pub written-end : (x : X) → Written (end x) (λ y. x ≡ y) (λ y. [])
  written-end x = record { own = own; back = λ y e. rw (← e) stop }
    where
      own : {vs : List ℕ} {y : X} → Leads (end x) vs (end y) → (x ≡ y) × (vs ≡ [])
      own stop = (refl, refl)

  pub written_next : {f : ℕ → Format X} {H : ℕ → X → Type 0} {b : ℕ → X → List ℕ} (w : ℕ) (from : X → ℕ)
      → ((v : ℕ) (x : X) → H v x → from x ≡ v) → ((v : ℕ) → Written (f v) (H v) (b v))
      → Written (next w f) (λ x. (from x < 2 ^ w) × H (from x) x) (λ x. from x ∷ b (from x) x)
  written_next {f} {H} {b} w from h i = record { own = own; back = λ x k. step k.0 ((i (from x)).back x k.1) }
    where
      own : {vs : List ℕ} {x : X} → Leads (next w f) vs (end x) → ((from x < 2 ^ w) × H (from x) x) × (vs ≡ from x ∷ b (from x) x)
      own {x = x} (step {v = v} s l) = let q = (i v).own l in rw (h v x q.0) ((s, q.0), rw q.1)

  pub written_either : {f g : Format X} {G H : X → Type 0} {a b : X → List ℕ} (t : Bool) → Written f G a → Written g H b
      → Written (cond t f g) (λ x. cond t (G x) (H x)) (λ x. cond t (a x) (b x))
  written_either true i j = i
  written_either false i j = j

  -- the same in other words
  pub written_as : {f : Format X} {G H : X → Type 0} {a b : X → List ℕ} → ((x : X) → G x ↔ H x) → ((x : X) → H x → a x ≡ b x) → Written f G a → Written f H b
  written_as e h i =
      record { own = λ {vs} {x} l. let p = i.own l in let k = (e x).0 p.0 in (k, p.1 ∙ h x k); back = λ x k. rw (← h x k) (i.back x ((e x).1 k)) }

pub written-bits : (w : ℕ) → Written (bits w) (λ v. v < 2 ^ w) (λ v. v ∷ [])
unfolding bits
written-bits w = written_as (λ v. (λ k. k.0, λ k. (k, refl))) (λ v k. refl) (written_next w (λ v. v) (λ v x e. sym e) written-end)

pub written_from : (n low high w : ℕ) → high < 2 ^ w → Written (bits_from n low high w) (Inside low high) (λ v. v ∷ [])
unfolding bits_from
written_from n low high w h =
    written_as (λ v. (λ k. k.1.0, λ k. (omega (arith, bounds low high v k), (k, refl)))) (λ v k. refl)
    (written_next w (λ v. v) (λ v x e. sym e.1) (λ v. tested (leb low v && leb v high) v))
  where
    tested : (t : Bool) (v : ℕ) → Written (cond t (end v) (refuse n)) (λ x. (t ≡ true) × (v ≡ x)) (λ x. [])
    tested true v = written_as (λ x. (λ k. (refl, k), λ k. k.1)) (λ x k. refl) (written-end v)
    tested false v = record { own = leads-nowhere; back = λ x e. clash e.0 refl }

pub written-bind : {X Y : Type 0} {f : Format X} {g : X → Format Y} {G : X → Type 0} {H : X → Y → Type 0} {a : X → List ℕ} {b : X → Y → List ℕ} (from : Y → X)
    → ((x : X) (y : Y) → G x → H x y → from y ≡ x) → Written f G a → ((x : X) → Written (g x) (H x) (b x))
    → Written (f >>= g) (λ y. G (from y) × H (from y) y) (λ y. a (from y) ++ b (from y) y)
written-bind {X} {Y} {f} {g} {G} {H} {a} {b} from h i j = record { own = own; back = λ y k. leads-then g (i.back (from y) k.0) ((j (from y)).back y k.1) }
  where
    own : {vs : List ℕ} {y : Y} → Leads (f >>= g) vs (end y) → (G (from y) × H (from y) y) × (vs ≡ a (from y) ++ b (from y) y)
    own {y = y} l =
        let t = then-leads f g l in
        let p = i.own t.first in
        let q = (j t.value).own t.second in
        let e = h t.value y p.0 q.0 in
        rw e ((p.0, q.0), sym t.both ∙ ap₂ ◌++◌ p.1 q.1)

module _ {X : Type 0} {f : Format X} {G : X → Type 0} {a : X → List ℕ} (i : Written f G a) where
  -- k that can be said
  abbrev Goods : ℕ → List X → Type 0
  Goods k xs = (length xs ≡ k) × Each G xs

  none_written : Written (times f zero) (Goods zero) (flat_map a)
  unfolding times flat_map
  none_written = record { own = own; back = back }
    where
      own : {vs : List ℕ} {xs : List X} → Leads (end []) vs (end xs) → Goods zero xs × (vs ≡ flat_map a xs)
      own stop = ((refl, tt), refl)

      back : (xs : List X) → Goods zero xs → Leads (end []) (flat_map a xs) (end xs)
      back [] h = stop
      back (x ∷ xs) h = absurd (omega (arith, h.0))

  one_more : (k : ℕ) → Written (times f k) (Goods k) (flat_map a) → Written (times f (suc k)) (Goods (suc k)) (flat_map a)
  unfolding times flat_map
  one_more k j = record { own = own; back = back }
    where
      own : {vs : List ℕ} {xs : List X} → Leads (times f (suc k)) vs (end xs) → Goods (suc k) xs × (vs ≡ flat_map a xs)
      own {vs} {xs} l =
          let t = then-leads f _ l in
          let u = then-leads (times f k) _ t.second in
          let p = i.own t.first in
          let q = j.own u.first in
          let r = (written-end (t.value ∷ u.value)).own u.second in
          let e : t.back ≡ flat_map a u.value = sym u.both ∙ ap (λ (ws : List ℕ). u.front ++ ws) r.1 ∙ append-nil u.front ∙ q.1 in
          rw (← r.0) ((ap suc q.0.0, (p.0, q.0.1)), sym t.both ∙ ap₂ ◌++◌ p.1 e)

      back : (xs : List X) → Goods (suc k) xs → Leads (times f (suc k)) (flat_map a xs) (end xs)
      back [] h = absurd (omega (arith, h.0))
      back (x ∷ xs) h =
          leads-then _ (i.back x h.1.0) (rw append-nil at (leads-then (λ ys. end (x ∷ ys)) (j.back xs (omega (arith, h.0), h.1.1)) stop))

  pub written-times : (k : ℕ) → Written (times f k) (Goods k) (flat_map a)
  written-times zero = none_written
  written-times (suc k) = one_more k (written-times k)
