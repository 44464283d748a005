-- Which numbers a call, lines, or the reading by a format may be refused with.
use Rattle.std.specs.Prelude.{◌≡◌, ◌&&◌, ◌∷◌, ◌≤◌}
use Rattle.common.specs.Logic.{◌∙◌, sym, subst, true, Bool, false, cond, List, [], ⊎_elim, ℕ, suc, zero, arith, leb}
use Rattle.common.specs.Lists.{all}
use Rattle.common.specs.Refusal.{Line, line, Outcome, got, refused, answer, check, and_then}
use Rattle.common.proofs.Lists.{decide}
use Rattle.common.proofs.Refusals.{numbered, answer-number, check-refused, check-holds, check-passes, refused-then}
use Rattle.format.specs.Bits.{field}
use Rattle.format.specs.Format.{Format, end, refuse, next, ◌>>=◌, bits, bits_from, times, read_by, to_end, rest_by}
use Rattle.format.proofs.Written.{bounds}

-- where it is refused, P holds of the number
abbrev pub Among : {X : Type 0} → (ℕ → Type 0) → Outcome X → Type 0
Among P o = (n : ℕ) → o ≡ refused n → P n

module _ (P : ℕ → Type 0) where
  module _ {X : Type 0} where
    pub among-got : (x : X) → Among P (got x)
    among-got x n h = absurd (let z : ◌≡◌ {A = ℕ} 0 1 = cc in omega arith)

    pub among-line : (m : ℕ) (b : Bool) (x : X) → P m → Among P (check (line m b ∷ []) x)
    among-line m b x a n e =
        ⊎_elim (λ t. let q : refused m ≡ refused n = sym (check-holds m x t) ∙ e in let k : m ≡ n = cc in subst P k a)
        (λ t. among-got x n (sym (check-passes m x t) ∙ e)) (decide b)

    -- what follows may count on the value that there is
    pub among-after : {Y : Type 0} (o : Outcome X) (f : X → Outcome Y) → Among P o → ((x : X) → o ≡ got x → Among P (f x)) → Among P (and_then o f)
    among-after o f a b n h = ⊎_elim (λ e. a n e) (λ g. b g.0 g.1 n g.2) (refused-then f o h)

    pub among-cond : (b : Bool) (o p : Outcome X) → Among P o → Among P p → Among P (cond b o p)
    among-cond true o p a c = a
    among-cond false o p a c = c

-- ---- numbered lines

-- the number is from a to b
abbrev pub Within : ℕ → ℕ → ℕ → Type 0
Within a b n = (a ≤ n) × (n ≤ b)

unfoldable pub is_within : ℕ → ℕ → ℕ → Bool
is_within a b n = leb a n && leb n b

module _ {X : Type 0} where
  -- lines whose numbers are from a to b
  pub lines : (a b : ℕ) (ls : List Line) (x : X) → all (numbered (is_within a b)) ls ≡ true → Among (Within a b) (check ls x)
  unfolding is_within
  lines a b ls x h n e = bounds a b n (answer-number (is_within a b) ls h (check-refused ls x e))

  -- after a line that does not hold
  pub after_line : (P : ℕ → Type 0) (m : ℕ) (b : Bool) (ls : List Line) (x : X) → b ≡ false → Among P (check ls x) → Among P (check (line m b ∷ ls) x)
  unfolding check answer
  after_line P m b ls x h a = rw h a

-- ---- formats

module _ (P : ℕ → Type 0) where
  -- the format's own refusals have it
  pub data Refuses {X : Type 0} : Format X → Type 0 where
    at-end : {x : X} → Refuses (end x)
    with_number : {n : ℕ} → P n → Refuses (refuse n)
    after-field : {w : ℕ} {f : ℕ → Format X} → ((v : ℕ) → Refuses (f v)) → Refuses (next w f)

  pub refuses-bits : (w : ℕ) → Refuses (bits w)
  unfolding bits
  refuses-bits w = after-field (λ v. at-end)

  pub refuses-either : {X : Type 0} (b : Bool) {f g : Format X} → Refuses f → Refuses g → Refuses (cond b f g)
  refuses-either true i j = i
  refuses-either false i j = j

  pub refuses-from : (n low high w : ℕ) → P n → Refuses (bits_from n low high w)
  unfolding bits_from
  refuses-from n low high w h = after-field (λ v. refuses-either (leb low v && leb v high) at-end (with_number h))

  pub refuses-bind : {X Y : Type 0} {f : Format X} {g : X → Format Y} → Refuses f → ((x : X) → Refuses (g x)) → Refuses (f >>= g)
  unfolding ◌>>=◌
  refuses-bind at-end j = j _
  refuses-bind (with_number h) j = with_number h
  refuses-bind (after-field i) j = after-field (λ v. refuses-bind (i v) j)

  pub refuses-times : {X : Type 0} {f : Format X} → Refuses f → (k : ℕ) → Refuses (times f k)
  unfolding times
  refuses-times i zero = at-end
  refuses-times i (suc k) = refuses-bind i (λ x. refuses-bind (refuses-times i k) (λ xs. at-end))

  module _ {X : Type 0} (two : P 2) where
    pub among-read : {f : Format X} → Refuses f → (s : List ℕ) (p : ℕ) → Among P (read_by f s p)
    unfolding read_by field
    among-read at-end s p = among-got P _
    among-read (with_number {n = m} h) s p = λ n e. let k : m ≡ n = cc in subst P k h
    among-read (after-field {w} i) s p = among-after P (field w s p) _ (among-line P 2 _ _ two) (λ v e. among-read (i v.value) s v.next)

    pub among-rest : P 7 → {f : Format X} → Refuses f → (s : List ℕ) (p : ℕ) → Among P (rest_by f s p)
    unfolding rest_by to_end
    among-rest seven {f} i s p =
        among-after P (to_end f s p) _ (among-after P (read_by f s p) _ (among-read i s p) (λ r e. among-line P 7 _ r seven)) (λ r e. among-got P r.value)
