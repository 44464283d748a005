-- Laws of the number of entries of a sheet: as many of them are read at most as are asked for.
use Rattle.std.specs.Prelude.{◌≡◌, ◌≤◌}
use Rattle.common.specs.Logic.{◌∙◌, sym, refl, List, ℕ, suc, min, arith, min-eq_left}
use Rattle.common.specs.Refusal.{Outcome, got, refused}
use Rattle.format.specs.Bits.{Read, number_at}
use Rattle.format.specs.Format.{Format, ◌>>=◌, bits_from, read_by, rest_by}
use Rattle.format.proofs.Reading.{read-then, read-stops, from-got, rest_then, rest-refused}

module _ {Y : Type 0} (g : ℕ → Format Y) (s : List ℕ) where
  -- 32 are all
  pub all-entries : rest_by (bits_from 3 0 32 6 >>= (λ k. g (min k 32))) s 0 ≡ rest_by (bits_from 3 0 32 6 >>= g) s 0
  all-entries = go (read_by (bits_from 3 0 32 6) s 0) refl
    where
      go : (o : Outcome (Read ℕ)) → read_by (bits_from 3 0 32 6) s 0 ≡ o → rest_by (bits_from 3 0 32 6 >>= (λ k. g (min k 32))) s 0 ≡ rest_by (bits_from 3 0 32 6 >>= g) s 0
      go (refused n) h = rest-refused (bits_from 3 0 32 6) _ s 0 h ∙ sym (rest-refused (bits_from 3 0 32 6) g s 0 h)
      go (got r) h =
          let e : min r.value 32 ≡ r.value = min-eq_left (from-got 6 s 0 3 0 32 (sym h)).le-high in
          rest_then (bits_from 3 0 32 6) _ s 0 h ∙ rw e (sym (rest_then (bits_from 3 0 32 6) g s 0 h))

  -- past their number, one more changes nothing
  pub same_entries : (j : ℕ) → number_at s 0 6 ≤ j → read_by (bits_from 3 0 32 6 >>= (λ k. g (min k (suc j)))) s 0 ≡ read_by (bits_from 3 0 32 6 >>= (λ k. g (min k j))) s 0
  same_entries j l = go (read_by (bits_from 3 0 32 6) s 0) refl
    where
      go : (o : Outcome (Read ℕ)) → read_by (bits_from 3 0 32 6) s 0 ≡ o → read_by (bits_from 3 0 32 6 >>= (λ k. g (min k (suc j)))) s 0 ≡ read_by (bits_from 3 0 32 6 >>= (λ k. g (min k j))) s 0
      go (refused n) h = read-stops (bits_from 3 0 32 6) _ s 0 h ∙ sym (read-stops (bits_from 3 0 32 6) _ s 0 h)
      go (got r) h =
          let k : r.value ≤ j = omega (arith, (from-got 6 s 0 3 0 32 (sym h)).read.value) in
          let e : min r.value (suc j) ≡ min r.value j = min-eq_left (omega arith) ∙ sym (min-eq_left k) in
          read-then (bits_from 3 0 32 6) _ s 0 h ∙ rw e (sym (read-then (bits_from 3 0 32 6) _ s 0 h))
