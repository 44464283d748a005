-- Bytes: the test of sharing finds a byte that lies in both, and in a sound layout there is none.
use Rattle.std.specs.Prelude.{◌≡◌, ◌<◌}
use Rattle.common.specs.Logic.{◌∙◌, true, false, List, ⊎_elim, ℕ, min, max, arith, not-false, lt-ltb, le-leb, not-true, leb-true, ltb-true, length}
use Rattle.common.specs.Lists.{pairwise, at_most}
use Rattle.common.proofs.Lists.{clash, order, pairwise-at, pairwise-fails, all-at, all-at_most}
use Rattle.layout.specs.Claims.{Disjoint, Shares}
use Rattle.layout.specs.Layout.{Attribute, absent, at, end_of, HasByte, shares_byte, disjoint, Layout, is_sound}
use Rattle.layout.proofs.Soundness.{sound-has}

-- a byte in both, and the test
pub byte-shares : (a b : Attribute) (x : ℕ) → HasByte a x → HasByte b x → disjoint a b ≡ true → ⊥
unfolding disjoint shares_byte
byte-shares a b x p q h = clash (lt-ltb (max a.offset b.offset) (min (end_of a) (end_of b)) (omega (arith, p.0, p.1, q.0, q.1))) (not-true _ h)

pub shares-byte : (a b : Attribute) → disjoint a b ≡ false → HasByte a (max a.offset b.offset) × HasByte b (max a.offset b.offset)
unfolding disjoint shares_byte
shares-byte a b h = let l = ltb-true (max a.offset b.offset) (min (end_of a) (end_of b)) (not-false _ h) in ((omega arith, omega arith), (omega arith, omega arith))

pub unshared : (xs : List Attribute) → pairwise disjoint xs ≡ true → (i j b : ℕ) → i < length xs → j < length xs → (i ≡ j → ⊥) → HasByte (at xs i) b → HasByte (at xs j) b → ⊥
unshared xs h i j b p q n x y =
    ⊎_elim (λ l. byte-shares (at xs i) (at xs j) b x y (pairwise-at disjoint xs i j absent h (omega arith) q))
    (λ l. byte-shares (at xs j) (at xs i) b y x (pairwise-at disjoint xs j i absent h l p)) (order i j)

pub shared : (xs : List Attribute) → pairwise disjoint xs ≡ false → Shares xs
shared xs h =
    let f = pairwise-fails disjoint xs absent h in
    let s = shares-byte (at xs f.0) (at xs f.1) f.4 in
    record {
      one = f.0;
      other = f.1;
      one-listed = omega (arith, f.2, f.3);
      other-listed = f.3;
      two = λ e. omega (arith, f.2);
      byte = max (at xs f.0).offset (at xs f.1).offset;
      in_one = s.0;
      in-other = s.1;
    }

pub sound-disjoint : (l : Layout) → is_sound l ≡ true → Disjoint l
unfolding at_most
sound-disjoint l so =
    let s = sound-has l so in
    record {
      unshared = unshared l.attributes s.disjoint;
      within = λ i h. leb-true _ _ (all-at (at_most end_of l.size) l.attributes i absent (all-at_most end_of l.size l.attributes ∙ le-leb _ _ s.ends) h);
    }
