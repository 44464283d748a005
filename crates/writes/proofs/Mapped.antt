-- The writes of a list, one for each element: what holds of each element's write holds of all of them.
use Rattle.std.specs.Prelude.{◌≡◌, ◌≤◌, ◌<◌}
use Rattle.common.specs.Logic.{◌∙◌, sym, ap, subst, List, map, ℕ, arith, length, get_or, take, drop, length-map}
use Rattle.common.proofs.Lists.{map_at}
use Rattle.writes.specs.Claims.{no_write, write_at, Hits, DisjointWrites, Written}
use Rattle.writes.specs.Writes.{Write, begins, written}
use Rattle.writes.proofs.Whole.{value-holds}

module _ {A : Type 0} (f : A → Write) (xs : List A) (d : A) where
  pub write-at : (j : ℕ) → j < length xs → write_at (map f xs) j ≡ f (get_or xs j d)
  write-at j h = map_at f xs j d no_write h

  pub disjoint_map : (n len : ℕ) → ((j : ℕ) → j < length xs → (f (get_or xs j d)).size ≤ (f (get_or xs j d)).place.stride)
      → ((j l k i b e c : ℕ) → j < length xs → l < length xs → Hits (f (get_or xs j d)) n k i b → Hits (f (get_or xs l d)) n k e c → j ≡ l)
      → ((j k i b : ℕ) → j < length xs → Hits (f (get_or xs j d)) n k i b → k < len) → DisjointWrites (map f xs) n len
  disjoint_map n len spaced unshared inside =
      let m = length-map xs f in
      record {
        spaced = λ j h. let l : j < length xs = omega arith in rw (write-at j l) (spaced j l);
        unshared = λ j l k i b e c hj hl g h.
            let aj : j < length xs = omega arith in
            let al : l < length xs = omega arith in
            unshared j l k i b e c aj al (subst (λ (w : Write). Hits w n k i b) (write-at j aj) g) (subst (λ (w : Write). Hits w n k e c) (write-at l al) h);
        inside = λ j k i b hj h. let l : j < length xs = omega arith in inside j k i b l (subst (λ (w : Write). Hits w n k i b) (write-at j l) h);
      }

  module _ (n : ℕ) (t : List ℕ) (j : ℕ) (h : j < length xs) where
    -- each point's bytes hold its value
    pub value-of : DisjointWrites (map f xs) n (length t) → (i : ℕ) → i < n → length ((f (get_or xs j d)).value i) ≡ (f (get_or xs j d)).size
        → take (f (get_or xs j d)).size (drop (begins (f (get_or xs j d)).place i) (written (map f xs) n t)) ≡ (f (get_or xs j d)).value i
    value-of D i hi long =
        let m = length-map xs f in
        subst (λ (w : Write). take w.size (drop (begins w.place i) (written (map f xs) n t)) ≡ w.value i) (write-at j h)
        (value-holds (map f xs) n t D j i (omega arith) hi (rw (write-at j h) long))

  -- what each element's write says of a buffer
  pub record WrittenBy (n : ℕ) (t r : List ℕ) : Type 0 where
    pub same_length : length r ≡ length t
    pub holds : (j k i b : ℕ) → j < length xs → Hits (f (get_or xs j d)) n k i b → get_or r k 0 ≡ get_or ((f (get_or xs j d)).value i) b 0
    pub kept : (k : ℕ) → ((j i b : ℕ) → j < length xs → Hits (f (get_or xs j d)) n k i b → ⊥) → get_or r k 0 ≡ get_or t k 0

  pub by-each : (n : ℕ) (t r : List ℕ) → Written (map f xs) n t r → WrittenBy n t r
  by-each n t r W =
      let m = length-map xs f in
      record {
        same_length = W.same_length;
        holds = λ j k i b hj h.
            W.holds j k i b (omega arith) (subst (λ (w : Write). Hits w n k i b) (sym (write-at j hj)) h) ∙ ap (λ (w : Write). get_or (w.value i) b 0) (write-at j hj);
        kept = λ k out.
            W.kept k (λ j i b hj h. let l : j < length xs = omega arith in out j i b l (subst (λ (w : Write). Hits w n k i b) (write-at j l) h));
      }

  pub of-each : (n : ℕ) (t r : List ℕ) → WrittenBy n t r → Written (map f xs) n t r
  of-each n t r W =
      let m = length-map xs f in
      record {
        same_length = W.same_length;
        holds = λ j k i b hj h.
            let l : j < length xs = omega arith in
            W.holds j k i b l (subst (λ (w : Write). Hits w n k i b) (write-at j l) h) ∙ ap (λ (w : Write). get_or (w.value i) b 0) (sym (write-at j l));
        kept = λ k out.
            W.kept k (λ j i b hj h. out j i b (omega arith) (subst (λ (w : Write). Hits w n k i b) (sym (write-at j hj)) h));
      }
