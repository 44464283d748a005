-- A loop that gathers records: what a format says k times, stored one after the other in an array.
use Rattle.std.specs.Prelude.{◌≡◌, ◌∷◌, ◌++◌, ◌<◌, ◌+◌}
use Rattle.common.specs.Logic.{◌∙◌, sym, ap, List, [], map, map-append, ℕ, length, set, replicate, length-map}
use Rattle.common.specs.Refusal.{got, refused}
use Rattle.format.specs.Bits.{read}
use Rattle.format.specs.Format.{Format, times, read_by}
use Rattle.format.proofs.Reading.{times_none, times_more, times-stops, times-length}
use Rattle.layout_sheets.specs.Place.{Place}
use Rattle.layout_sheets.specs.Reader.{left, reads, coded}
use Rattle.layout_sheets.specs.Records.{slots}
use Rattle.layout_sheets.proofs.Readers.{reads-got, got-at, reads-refused, got-reads, refused-reads, code-got, uncoded, uncoded-refused}
use Rattle.layout_sheets.proofs.Slots.{slots-none, slots_set}

module _ {X E : Type 0} (f : Format X) (held : X → E) (d : E) (n : ℕ) (p : Place) where
  -- i were read up to q, and lie in the array
  pub record Gathered (i : ℕ) (es : List E) (q : Place) : Type 0 where
    pub values : List X
    pub read : got (left values q) ≡ reads (times f i) p
    pub array : es ≡ slots d n (map held values)

  pub gather_none : Gathered 0 (replicate n d) p
  gather_none = record { values = []; read = reads-got (times f 0) p (times_none f p.sheet p.at); array = sym (slots-none d n) }

  pub gathered-length : {i : ℕ} {es : List E} {q : Place} → (g : Gathered i es q) → length g.values ≡ i
  gathered-length {i} g = times-length f p.sheet i p.at (got-reads (times f i) p g.read).0

  module _ (i : ℕ) (es : List E) {q : Place} (g : Gathered i es q) where
    pub gather-more : {e : E} {t : Place} → i < n → got (left e t) ≡ reads (coded held f) q → Gathered (i + 1) (set es i e) t
    gather-more {e} {t} l h =
        let x = uncoded held f q h in
        let m : length (map held g.values) ≡ i = length-map g.values held ∙ gathered-length g in
        let a = got-reads (times f i) p g.read in
        let b = got-reads f q x.2 in
        let c : read_by f p.sheet q.at ≡ got (read x.0 t.at) = sym (ap (λ (s : List ℕ). read_by f s q.at) a.1) ∙ b.0 in
        record {
          values = g.values ++ (x.0 ∷ []);
          read = got-at (times f (i + 1)) p (times_more f p.sheet i p.at a.0 c) (b.1 ∙ a.1);
          array =
              ap (λ (ys : List E). set ys i e) g.array
              ∙ ap (set (slots d n (map held g.values)) i) (sym x.1)
              ∙ slots_set d n (map held g.values) i (held x.0) m l
              ∙ ap (slots d n) (sym (map-append held g.values (x.0 ∷ [])));
        }

    pub gather-stops : (k : ℕ) {m : ℕ} → i < k → refused m ≡ reads (coded held f) q → refused m ≡ reads (times f k) p
    gather-stops k {m} l h =
        let a = got-reads (times f i) p g.read in
        let b : read_by f p.sheet q.at ≡ refused m = sym (ap (λ (s : List ℕ). read_by f s q.at) a.1) ∙ refused-reads f q (uncoded-refused held f q h) in
        reads-refused (times f k) p (times-stops f p.sheet i k p.at l a.0 b)

  pub gathered : (k : ℕ) {es : List E} {q : Place} → Gathered k es q → got (left es q) ≡ reads (coded (λ xs. slots d n (map held xs)) (times f k)) p
  gathered k g = rw g.array (code-got (λ xs. slots d n (map held xs)) (times f k) p g.read)
