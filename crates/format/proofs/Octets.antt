-- Whole bytes: fields of 8 bits from a byte on are the bytes that lie there.
use Rattle.std.specs.Prelude.{◌≡◌, ◌∷◌, ◌≤◌, ◌<◌, ◌+◌, ◌-◌, ◌*◌}
use Rattle.common.specs.Logic.{◌∙◌, List, ℕ, suc, zero, arith, length, get_or, take, drop}
use lib.Seq.{drop-cons}
use Rattle.common.specs.Refusal.{got, refused}
use Rattle.format.specs.Bits.{Bytes, read}
use Rattle.format.specs.Format.{bits, times, read_by}
use Rattle.format.proofs.Fields.{field-inside, field-ends}
use Rattle.format.proofs.Packing.{byte-number}
use Rattle.format.proofs.Reading.{bits-got, bits-refused, times_none, times-cons, times-stops}

module _ (s : List ℕ) where
  octet : (a p : ℕ) → Bytes s → a < length s → p ≡ 8 * a → read_by (bits 8) s p ≡ got (read (get_or s a 0) (p + 8))
  octet a p b h e = bits-got 8 s p (rw (e, ← byte-number s a (b a h)) (field-inside 8 s (8 * a) (omega arith)))

  pub octets : (n a p q : ℕ) → Bytes s → a + n ≤ length s → p ≡ 8 * a → q ≡ 8 * (a + n) → read_by (times (bits 8) n) s p ≡ got (read (take n (drop a s)) q)
  octets zero a p q b h e f = let k : q ≡ p = omega arith in times_none (bits 8) s p ∙ rw k
  octets (suc n) a p q b h e f =
      let k : drop a s ≡ get_or s a 0 ∷ drop (suc a) s = drop-cons s a 0 (omega arith) in
      times-cons (bits 8) s n p (octet a p b (omega arith) e) (octets n (suc a) (p + 8) q b (omega arith) (omega arith) (omega arith)) ∙ rw k

  -- fewer bytes lie there
  pub octets-end : (n a p : ℕ) → Bytes s → a ≤ length s → length s < a + n → p ≡ 8 * a → read_by (times (bits 8) n) s p ≡ refused 2
  octets-end n a p b h l e =
      times-stops (bits 8) s (length s - a) n p (omega arith) (octets (length s - a) a p (8 * length s) b (omega arith) e (omega arith))
      (bits-refused 8 s (8 * length s) (field-ends 8 s (8 * length s) (omega arith)))
