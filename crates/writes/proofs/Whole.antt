-- What `written` says write by write, that nothing else says it, and how it grows by a write and by points.
use Rattle.std.specs.Prelude.{◌≡◌, ◌∷◌, ◌++◌, ◌⊎◌, ◌≤◌, ◌<◌, ◌+◌, ◌-◌}
use Rattle.common.specs.Logic.{◌∙◌, sym, ap, refl, subst, true, false, List, [], map, ⊎_elim, inl, inr, ℕ, suc, zero, suc-le-suc, not-suc-le-zero, le_of_suc-le-suc, arith, length, get_or, take, drop, length-append, length-take, length-map, length-drop, get_or-append, get_or-eq_default}
use lib.Seq.{ext_get_or, get_or-take, get_or-drop, get_or-append_seam}
use Rattle.common.proofs.Lists.{decide, order, clash, length-tabulate, tabulate-at, map_at}
use Rattle.writes.specs.Claims.{no_write, write_at, Hits, DisjointWrites, Written}
use Rattle.writes.specs.Writes.{Write, begins, point_of, byte_of, is_in, byte_after, written, write_from}
use Rattle.writes.proofs.Hits.{hit-is, one-point, hit-point, hit-place, is-hit, later-hit, hit_later}

pub length-written : (ws : List Write) (n : ℕ) (t : List ℕ) → length (written ws n t) ≡ length t
unfolding written
length-written ws n t = length-tabulate (byte_after ws n t) (length t)

pub written_at : (ws : List Write) (n : ℕ) (t : List ℕ) (k : ℕ) → k < length t → get_or (written ws n t) k 0 ≡ byte_after ws n t k
unfolding written
written_at ws n t k h = tabulate-at (byte_after ws n t) (length t) k 0 h

-- ---- the write in whose bytes a byte lies, if there is one

record Found (ws : List Write) (n : ℕ) (t : List ℕ) (k : ℕ) : Type 0 where
  at : ℕ
  listed : at < length ws
  hit : Hits (write_at ws at) n k (point_of (write_at ws at) k) (byte_of (write_at ws at) k)
  byte : byte_after ws n t k ≡ get_or ((write_at ws at).value (point_of (write_at ws at) k)) (byte_of (write_at ws at) k) 0

record Missed (ws : List Write) (n : ℕ) (t : List ℕ) (k : ℕ) : Type 0 where
  none : (j : ℕ) → j < length ws → is_in (write_at ws j) n k ≡ false
  byte : byte_after ws n t k ≡ get_or t k 0

module _ (n : ℕ) (t : List ℕ) (k : ℕ) where
  find : (ws : List Write) → Found ws n t k ⊎ Missed ws n t k
  unfolding byte_after
  find [] = inr (record { none = λ j h. absurd (not-suc-le-zero h); byte = refl })
  find (w ∷ ws) = ⊎_elim here (λ f. ⊎_elim (later f) (nowhere f) (find ws)) (decide (is_in w n k))
    where
      here : is_in w n k ≡ true → Found (w ∷ ws) n t k ⊎ Missed (w ∷ ws) n t k
      here e = inl (record { at = 0; listed = omega arith; hit = is-hit w n k e; byte = rw e })

      later : is_in w n k ≡ false → Found ws n t k → Found (w ∷ ws) n t k ⊎ Missed (w ∷ ws) n t k
      later f r = inl (record { at = suc r.at; listed = suc-le-suc r.listed; hit = r.hit; byte = rw f r.byte })

      none_of : is_in w n k ≡ false → Missed ws n t k → (j : ℕ) → j < suc (length ws) → is_in (write_at (w ∷ ws) j) n k ≡ false
      none_of f r zero h = f
      none_of f r (suc j) h = r.none j (le_of_suc-le-suc h)

      nowhere : is_in w n k ≡ false → Missed ws n t k → Found (w ∷ ws) n t k ⊎ Missed (w ∷ ws) n t k
      nowhere f r = inr (record { none = none_of f r; byte = rw f r.byte })

module _ (ws : List Write) (n : ℕ) (t : List ℕ) (A : DisjointWrites ws n (length t)) where
  same : (k j i b : ℕ) → j < length ws → Hits (write_at ws j) n k i b → Found ws n t k → byte_after ws n t k ≡ get_or ((write_at ws j).value i) b 0
  same k j i b hj h r =
      let e = A.unshared r.at j k _ _ i b r.listed hj r.hit h in
      let s = A.spaced j hj in
      r.byte
      ∙ ap (λ (x : ℕ). get_or ((write_at ws x).value (point_of (write_at ws x) k)) (byte_of (write_at ws x) k) 0) e
      ∙ rw (hit-point (write_at ws j) n s h, hit-place (write_at ws j) n s h)

  pub claimed : Written ws n t (written ws n t)
  claimed =
      let long = length-written ws n t in
      record {
        same_length = long;
        holds = λ j k i b hj h.
            written_at ws n t k (A.inside j k i b hj h)
            ∙ ⊎_elim (same k j i b hj h) (λ r. clash (hit-is (write_at ws j) n (A.spaced j hj) h) (r.none j hj)) (find n t k ws);
        kept = λ k out.
            ⊎_elim (λ (l : length t ≤ k). get_or-eq_default (written ws n t) 0 (omega arith) ∙ sym (get_or-eq_default t 0 l))
            (λ l. written_at ws n t k l ∙ ⊎_elim (λ r. absurd (out r.at _ _ r.listed r.hit)) (λ r. r.byte) (find n t k ws))
            (order (length t) k);
      }

  -- nothing else is
  pub unique : (r : List ℕ) → Written ws n t r → r ≡ written ws n t
  unique r C =
      ext_get_or 0 r (written ws n t) (C.same_length ∙ sym claimed.same_length)
      (λ k l. ⊎_elim (λ f. C.holds f.at k _ _ f.listed f.hit ∙ sym (claimed.holds f.at k _ _ f.listed f.hit))
      (λ m. let out : (j i b : ℕ) → j < length ws → Hits (write_at ws j) n k i b → ⊥ = λ j i b hj h. clash (hit-is (write_at ws j) n (A.spaced j hj) h) (m.none j hj) in C.kept k out ∙ sym (claimed.kept k out))
      (find n t k ws))

  -- each point's bytes hold its value
  pub value-holds : (j i : ℕ) → j < length ws → i < n → length ((write_at ws j).value i) ≡ (write_at ws j).size
      → take (write_at ws j).size (drop (begins (write_at ws j).place i) (written ws n t)) ≡ (write_at ws j).value i
  value-holds j i hj hi len =
      let w = write_at ws j in
      let bytes = drop (begins w.place i) (written ws n t) in
      let whole : length (take w.size bytes) ≡ w.size =
      simp (length-take, length-drop)
      (⊎_elim (λ z. omega arith) (λ z. omega (arith, claimed.same_length, A.inside j (begins w.place i + (w.size - 1)) i (w.size - 1) hj (record { point = hi; byte = omega arith; place = refl }))) (order w.size 0)) in
      ext_get_or 0 (take w.size bytes) (w.value i) (whole ∙ sym len)
      (λ b hb.
      let hs : b < w.size = omega (arith, whole) in
      get_or-take w.size bytes b 0 hs ∙ get_or-drop (begins w.place i) (written ws n t) b 0 ∙ claimed.holds j _ i b hj (record { point = hi; byte = hs; place = refl }))

-- ---- the first of some writes
module _ (ws vs : List Write) (n : ℕ) where
  early : (j : ℕ) → j < length ws → write_at (ws ++ vs) j ≡ write_at ws j
  early j h = get_or-append ws vs no_write j h

  pub disjoint-early : (len : ℕ) → DisjointWrites (ws ++ vs) n len → DisjointWrites ws n len
  disjoint-early len A =
      let more = length-append ws vs in
      record {
        spaced = λ j h. rw (← early j h) (A.spaced j (omega arith));
        unshared = λ j l k i b e d hj hl g h.
            A.unshared j l k i b e d (omega arith) (omega arith) (subst (λ (x : Write). Hits x n k i b) (sym (early j hj)) g) (subst (λ (x : Write). Hits x n k e d) (sym (early l hl)) h);
        inside = λ j k i b hj h. A.inside j k i b (omega arith) (subst (λ (x : Write). Hits x n k i b) (sym (early j hj)) h);
      }

-- ---- one write more
module _ (w : Write) (n : ℕ) (t : List ℕ) (k : ℕ) where
  after-miss : (ws : List Write) → is_in w n k ≡ false → byte_after (ws ++ (w ∷ [])) n t k ≡ byte_after ws n t k
  unfolding byte_after
  after-miss [] e = rw e
  after-miss (v ∷ ws) e = rw (after-miss ws e)

  after-hit : (ws : List Write) → is_in w n k ≡ true → ((j : ℕ) → j < length ws → is_in (write_at ws j) n k ≡ false)
      → byte_after (ws ++ (w ∷ [])) n t k ≡ get_or (w.value (point_of w k)) (byte_of w k) 0
  unfolding byte_after
  after-hit [] e none = rw e
  after-hit (v ∷ ws) e none = rw (none 0 (omega arith)) (after-hit ws e (λ j h. none (suc j) (suc-le-suc h)))

-- no other write has a byte of the last
others : (ws : List Write) (w : Write) (n len k : ℕ) → DisjointWrites (ws ++ (w ∷ [])) n len → is_in w n k ≡ true → (j : ℕ) → j < length ws → is_in (write_at ws j) n k ≡ false
others ws w n len k A e j h =
    let more = length-append ws (w ∷ []) in
    ⊎_elim
    (λ (i : is_in (write_at ws j) n k ≡ true).
    let v = write_at ws j in
    let g = subst (λ (x : Write). Hits x n k (point_of v k) (byte_of v k)) (sym (early ws (w ∷ []) n j h)) (is-hit v n k i) in
    let l = subst (λ (x : Write). Hits x n k (point_of w k) (byte_of w k)) (sym (get_or-append_seam ws w [] no_write)) (is-hit w n k e) in
    absurd (omega (arith, A.unshared j (length ws) k _ _ _ _ (omega arith) (omega arith) g l)))
    (λ i. i)
    (decide (is_in (write_at ws j) n k))

-- ---- more points
module _ (ws : List Write) (d n : ℕ) where
  abbrev later : List Write
  later = map (write_from d) ws

  length-later : length later ≡ length ws
  length-later = length-map ws (write_from d)

  at-later : (j : ℕ) → j < length ws → write_at later j ≡ write_from d (write_at ws j)
  at-later j h = map_at (write_from d) ws j no_write no_write h

  back : (j k i b : ℕ) → j < length ws → Hits (write_at later j) n k i b → Hits (write_at ws j) (d + n) k (d + i) b
  back j k i b hj h = later-hit (write_at ws j) d (subst (λ (x : Write). Hits x n k i b) (at-later j hj) h)

  forth : (j k i b : ℕ) → j < length ws → d ≤ i → Hits (write_at ws j) (d + n) k i b → Hits (write_at later j) n k (i - d) b
  forth j k i b hj l h = subst (λ (x : Write). Hits x n k (i - d) b) (sym (at-later j hj)) (hit_later (write_at ws j) d l h)

  -- the points before d
  fewer : {w : Write} {k i b : ℕ} → Hits w d k i b → Hits w (d + n) k i b
  fewer {w} {k} {i} {b} h = record { point = omega (arith, h.point); byte = h.byte; place = h.place }

  module _ (len : ℕ) (A : DisjointWrites ws (d + n) len) where
    pub disjoint-before : DisjointWrites ws d len
    disjoint-before =
        record {
          spaced = A.spaced;
          unshared = λ j l k i b e f hj hl g h. A.unshared j l k i b e f hj hl (fewer g) (fewer h);
          inside = λ j k i b hj h. A.inside j k i b hj (fewer h);
        }

    pub disjoint-later : DisjointWrites later n len
    disjoint-later =
        record {
          spaced = λ j h. let hj : j < length ws = omega (arith, length-later) in rw (at-later j hj) (A.spaced j hj);
          unshared = λ j l k i b e f gj gl g h.
              let hj : j < length ws = omega (arith, length-later) in
              let hl : l < length ws = omega (arith, length-later) in
              A.unshared j l k _ b _ f hj hl (back j k i b hj g) (back l k e f hl h);
          inside = λ j k i b gj h. let hj : j < length ws = omega (arith, length-later) in A.inside j k _ b hj (back j k i b hj h);
        }

  module _ (t r s : List ℕ) (A : DisjointWrites ws (d + n) (length t)) (R : Written ws d t r) (S : Written later n r s) where
    before-d : (j k i b : ℕ) → j < length ws → i < d → Hits (write_at ws j) (d + n) k i b → get_or s k 0 ≡ get_or ((write_at ws j).value i) b 0
    before-d j k i b hj l h =
        S.kept k (λ m e f hm g. not-later m e f (omega (arith, length-later)) g)
        ∙ R.holds j k i b hj (record { point = l; byte = h.byte; place = h.place })
      where
        not-later : (m e f : ℕ) → m < length ws → Hits (write_at later m) n k e f → ⊥
        not-later m e f hm g =
            let q = A.unshared j m k i b (d + e) f hj hm h (back m k e f hm g) in
            let g' = subst (λ (x : ℕ). Hits (write_at ws x) (d + n) k (d + e) f) (sym q) (back m k e f hm g) in
            omega (arith, one-point (write_at ws j) (d + n) (A.spaced j hj) h g', l)

    from-d : (j k i b : ℕ) → j < length ws → d ≤ i → Hits (write_at ws j) (d + n) k i b → get_or s k 0 ≡ get_or ((write_at ws j).value i) b 0
    from-d j k i b hj l h =
        let e : d + (i - d) ≡ i = omega arith in
        S.holds j k (i - d) b (omega (arith, length-later)) (forth j k i b hj l h)
        ∙ ap (λ (x : List ℕ). get_or x b 0) (ap (λ (x : Write). x.value (i - d)) (at-later j hj) ∙ ap (write_at ws j).value e)

    pub more-points : Written ws (d + n) t s
    more-points =
        record {
          same_length = S.same_length ∙ R.same_length;
          holds = λ j k i b hj h. ⊎_elim (λ l. from-d j k i b hj l h) (λ l. before-d j k i b hj l h) (order d i);
          kept = λ k out. S.kept k (λ j i b gj h. let hj : j < length ws = omega (arith, length-later) in out j (d + i) b hj (back j k i b hj h))
              ∙ R.kept k (λ j i b hj h. out j i b hj (fewer h));
        }

-- ---- the laws that the loops cite

-- no write, or no point
pub no_write_lem : (n : ℕ) (t : List ℕ) → t ≡ written [] n t
no_write_lem n t =
    unique [] n t
    (record { spaced = λ j h. absurd (not-suc-le-zero h); unshared = λ j l k i b e d h. absurd (not-suc-le-zero h); inside = λ j k i b h. absurd (not-suc-le-zero h) })
    t
    (record { same_length = refl; holds = λ j k i b h. absurd (not-suc-le-zero h); kept = λ k out. refl })

pub no-point : (ws : List Write) (n : ℕ) (t : List ℕ) → DisjointWrites ws n (length t) → t ≡ written ws 0 t
no-point ws n t A =
    unique ws 0 t (disjoint-before ws 0 n (length t) (subst (λ (m : ℕ). DisjointWrites ws m (length t)) (omega arith) A)) t
    (record { same_length = refl; holds = λ j k i b hj h. absurd (not-suc-le-zero h.point); kept = λ k out. refl })

-- the writes ws and then w
pub then-write : (ws : List Write) (w : Write) (n : ℕ) (t : List ℕ) → DisjointWrites (ws ++ (w ∷ [])) n (length t)
    → written (w ∷ []) n (written ws n t) ≡ written (ws ++ (w ∷ [])) n t
unfolding byte_after
then-write ws w n t A =
    let r = written ws n t in
    let l = length-written ws n t in
    let m = length-written (w ∷ []) n r in
    ext_get_or 0 _ _ (m ∙ l ∙ sym (length-written (ws ++ (w ∷ [])) n t))
    (λ k h.
    let hk : k < length t = omega arith in
    written_at (w ∷ []) n r k (omega arith)
    ∙ ⊎_elim (λ (e : is_in w n k ≡ true). rw e (sym (after-hit w n t k ws e (others ws w n (length t) k A e))))
    (λ (e : is_in w n k ≡ false). rw e (written_at ws n t k hk ∙ sym (after-miss w n t k ws e)))
    (decide (is_in w n k))
    ∙ sym (written_at (ws ++ (w ∷ [])) n t k hk))

-- d points and then n more
pub then-points : (ws : List Write) (d n : ℕ) (t : List ℕ) → DisjointWrites ws (d + n) (length t)
    → written (map (write_from d) ws) n (written ws d t) ≡ written ws (d + n) t
then-points ws d n t A =
    let r = claimed ws d t (disjoint-before ws d n (length t) A) in
    let s = claimed (map (write_from d) ws) n (written ws d t) (subst (DisjointWrites (map (write_from d) ws) n) (sym r.same_length) (disjoint-later ws d n (length t) A)) in
    unique ws (d + n) t A _ (more-points ws d n t _ _ A r s)
