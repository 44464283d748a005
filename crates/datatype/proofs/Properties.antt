-- What `datatype_of` says of a datatype: its size and alignment, and the lines 5 and 6; and which datatypes are the same.
use Rattle.std.specs.Prelude.{◌≡◌, ◌&&◌, ◌||◌, ◌∷◌, ◌⊎◌, ◌≤◌, ◌<◌, Result}
use Rattle.common.specs.Logic.{◌∙◌, sym, ap, refl, true, Bool, false, cond, List, [], map, inl, inr, ⊎_elim, ℕ, suc, zero, arith, lt-ltb, le-ltb, eq-eqb, ne_eqb, eqb-true, leb-true, ltb-true, ltb-false, eqb-false, eqb, leb, ltb, get_or, take, drop, get_or-append}
use Rattle.common.specs.Lists.{all, tabulate}
use Rattle.common.specs.declared.Refusal.{Refusal}
use Rattle.common.specs.Refusal.{answered, outcome_of, line, Outcome, got, refused, answer, outcome, check, left_by, passes, accepts}
use Rattle.common.specs.Refusal.{Answer}
use Rattle.common.specs.Refusal.{Accepted, Refused as Stopped}
use Rattle.common.proofs.Lists.{and_left, and_right, clash, decide, order, all-at, map_at, tabulate-at}
use Rattle.common.proofs.Refusals.{passes-cons, passes-accepted, accepts-passes, answered-check, check-got, check-refused}
use Rattle.datatype.specs.Claims.{ByteArrayClaim, CustomDatatypeClaim, DatatypeRefusalClaim, EqualCustoms, EqualCodes, SameDatatypeClaim}
use Rattle.datatype.specs.Datatype.{plain, byte_array, custom, with_code, known, unlisted, codes, datatype_lines, datatype_of, size_of, same_custom, same_datatype}
use Rattle.datatype.specs.declared.datatype.Datatype.{Datatype}
use Rattle.datatype.specs.declared.datatype.Properties.{Properties}
use Rattle.datatype.specs.declared.datatype.PointAttributeDataType.{PointAttributeDataType}
use Rattle.datatype.specs.declared.datatype.PointAttributeDataType.TheVariants.{U8, I8, U16, I16, U32, I32, U64, I64, F32, F64, Vec3u8, Vec3u16, Vec3f32, Vec3i32, Vec3f64, Vec4u8, ByteArray, Custom}

-- the answer of a result of `datatype_of` is that of its lines
pub lines-in : (d : Datatype) (r : Result Properties Refusal) → outcome_of r ≡ datatype_of d → answered r ≡ answer (datatype_lines d)
unfolding datatype_of
lines-in d r e = answered-check r (datatype_lines d) _ e

-- ---- a listed datatype

pub datatype-got : (d : Datatype) → passes (datatype_lines d) ≡ true → datatype_of d ≡ got (get_or (codes d) d.code unlisted)
unfolding datatype_of check outcome
datatype-got d h = ap (λ (a : Answer). outcome a (get_or (codes d) d.code unlisted)) (passes-accepted (datatype_lines d) h)

pub listed-size : (d : Datatype) → passes (datatype_lines d) ≡ true → size_of d ≡ (get_or (codes d) d.code unlisted).size
unfolding size_of left_by
listed-size d h = ap (λ (o : Outcome Properties). (left_by unlisted o).size) (datatype-got d h)

-- below 16 one computed test over the table; at 16 and 17 the size is n
has_bytes : Properties → Bool
has_bytes p = leb 1 p.size

below-sized : (d : Datatype) (c : ℕ) → c < 16 → 0 < (get_or (codes d) c unlisted).size
unfolding codes has_bytes all
below-sized d c h =
    rw (get_or-append (take 16 (codes d)) (drop 16 (codes d)) unlisted c h)
    (leb-true 1 _ (all-at has_bytes (take 16 (codes d)) c unlisted refl h))

above-sized : (d : Datatype) (c : ℕ) → d.code ≡ c → (get_or (codes d) c unlisted).size ≡ d.n → 0 < d.n → 0 < (get_or (codes d) d.code unlisted).size
above-sized d c e s h = omega (arith, ap (λ (k : ℕ). (get_or (codes d) k unlisted).size) e)

-- it has a byte
pub listed-sized : (d : Datatype) → passes (datatype_lines d) ≡ true → 0 < size_of d
unfolding datatype_lines codes
listed-sized d h =
    let lines = passes-cons 5 (ltb 17 d.code) _ h in
    let n : ((eqb d.code 16 || eqb d.code 17) && eqb d.n 0) ≡ false = (passes-cons 6 _ [] lines.1).0 in
    let most = ltb-false 17 d.code lines.0 in
    rw (listed-size d h)
    (⊎_elim (λ (l : d.code ≤ 15). below-sized d d.code (omega arith))
    (λ (l : 15 < d.code).
    ⊎_elim (λ u. above-sized d 16 (eqb-true d.code 16 u) refl (omega (arith, eqb-false d.n 0 (rw u at n))))
    (λ u.
    let z : d.code ≡ 17 = omega (arith, eqb-false d.code 16 u) in
    above-sized d 17 z refl (omega (arith, eqb-false d.n 0 (rw (ne_eqb d.code 16 (λ e. omega arith), eq-eqb d.code 17 z) at n))))
    (decide (eqb d.code 16)))
    (order d.code 15))

-- one that is not listed has none
pub unlisted-size : (d : Datatype) → passes (datatype_lines d) ≡ false → size_of d ≡ 0
unfolding size_of datatype_of check outcome left_by
unlisted-size d h = go (answer (datatype_lines d)) (accepts-passes (datatype_lines d) ∙ h)
  where
    go : (a : Answer) → accepts a ≡ false → (left_by unlisted (outcome a (get_or (codes d) d.code unlisted))).size ≡ 0
    go Accepted e = clash refl e
    go (Stopped n) e = refl

-- ---- the refusals 5 and 6

is-five : (b c : Bool) → answer (line 5 b ∷ line 6 c ∷ []) ≡ Stopped 5 → b ≡ true
unfolding answer
is-five true c h = refl
is-five false true h = absurd (let z : ◌≡◌ {A = ℕ} 6 5 = cc in omega arith)
is-five false false h = absurd (let z : ◌≡◌ {A = ℕ} 0 1 = cc in omega arith)

is-six : (b c : Bool) → answer (line 5 b ∷ line 6 c ∷ []) ≡ Stopped 6 → c ≡ true
unfolding answer
is-six true c h = absurd (let z : ◌≡◌ {A = ℕ} 5 6 = cc in omega arith)
is-six false true h = refl
is-six false false h = absurd (let z : ◌≡◌ {A = ℕ} 0 1 = cc in omega arith)

one_of : (a b : Bool) → (a || b) ≡ true → (a ≡ true) ⊎ (b ≡ true)
one_of true b h = inl refl
one_of false b h = inr h

module _ (d : Datatype) where
  above : datatype_of d ≡ refused 5 → 18 ≤ d.code
  unfolding datatype_of datatype_lines
  above h = ltb-true 17 d.code (is-five _ ((eqb d.code 16 || eqb d.code 17) && eqb d.n 0) (check-refused _ _ h))

  no_size : datatype_of d ≡ refused 6 → ((d.code ≡ 16) ⊎ (d.code ≡ 17)) × (d.n ≡ 0)
  unfolding datatype_of datatype_lines
  no_size h =
      let k = is-six (ltb 17 d.code) ((eqb d.code 16 || eqb d.code 17) && eqb d.n 0) (check-refused _ _ h) in
      let o = one_of (eqb d.code 16) (eqb d.code 17) (and_left _ (eqb d.n 0) k) in
      (⊎_elim (λ e. inl (eqb-true d.code 16 e)) (λ e. inr (eqb-true d.code 17 e)) o, eqb-true d.n 0 (and_right (eqb d.code 16 || eqb d.code 17) _ k))

pub datatype-refusal-claim : DatatypeRefusalClaim
unfolding datatype_of datatype_lines check answer outcome
datatype-refusal-claim =
    record {
      five = λ d. (above d, λ h. rw (lt-ltb 17 d.code h));
      six = λ d. (
        no_size d,
        λ h. rw (eq-eqb _ _ h.1) (⊎_elim (λ e. rw (eq-eqb d.code 16 e, le-ltb 17 d.code (omega arith))) (λ e. rw (ne_eqb d.code 16 (λ z. omega arith), eq-eqb d.code 17 e, le-ltb 17 d.code (omega arith))) h.0),
      );
    }

-- ---- byte arrays and Customs

-- one that is listed has a byte
bytes-in : (n : ℕ) → datatype_of (byte_array n) ≡ got (known (ByteArray n) n 1) → 0 < n
unfolding datatype_of datatype_lines check answer outcome
bytes-in zero h = absurd (let z : ◌≡◌ {A = ℕ} 0 1 = cc in omega arith)
bytes-in (suc n) h = omega arith

pub byte-array-claim : ByteArrayClaim
unfolding datatype_of datatype_lines check answer outcome codes
byte-array-claim n = (bytes-in n, λ h. rw (ne_eqb n 0 (λ e. omega arith)))

custom-in : (s a h l : ℕ) → datatype_of (custom s a h l) ≡ got (known (Custom s a h l) s a) → 0 < s
unfolding datatype_of datatype_lines check answer outcome
custom-in zero a h l e = absurd (let z : ◌≡◌ {A = ℕ} 0 1 = cc in omega arith)
custom-in (suc s) a h l e = omega arith

pub custom-datatype-claim : CustomDatatypeClaim
unfolding datatype_of datatype_lines check answer outcome codes
custom-datatype-claim s a h l = (custom-in s a h l, λ k. rw (ne_eqb s 0 (λ e. omega arith)))

-- ---- the same datatype

-- the code of a datatype, by which two of them are told apart
code_of : PointAttributeDataType → ℕ
code_of U8 = 0
code_of I8 = 1
code_of U16 = 2
code_of I16 = 3
code_of U32 = 4
code_of I32 = 5
code_of U64 = 6
code_of I64 = 7
code_of F32 = 8
code_of F64 = 9
code_of Vec3u8 = 10
code_of Vec3u16 = 11
code_of Vec3f32 = 12
code_of Vec3i32 = 13
code_of Vec3f64 = 14
code_of Vec4u8 = 15
code_of (ByteArray n) = 16
code_of (Custom s a h l) = 17

code_in : Properties → ℕ
code_in p = code_of p.datatype

itself : ℕ → ℕ
itself c = c

-- each entry of the table stands for a datatype of its own code: one computed test
codes-are : (d : Datatype) → map code_in (codes d) ≡ tabulate itself 18
unfolding codes code_in code_of tabulate itself
codes-are d = refl

module _ (a : Datatype) (p : Properties) (h : datatype_of a ≡ got p) where
  listed : a.code ≤ 17
  unfolding datatype_of datatype_lines
  listed = ltb-false 17 a.code (passes-cons _ _ _ (check-got _ _ _ h).0).0

  entry : get_or (codes a) a.code unlisted ≡ p
  unfolding datatype_of
  entry = (check-got _ _ _ h).1

  its-code : code_of p.datatype ≡ a.code
  unfolding code_in itself codes
  its-code =
      let l = listed in
      rw (← entry) (sym (map_at code_in (codes a) a.code unlisted 0 (omega arith)) ∙ ap (λ (cs : List ℕ). get_or cs a.code 0) (codes-are a) ∙ tabulate-at itself 18 a.code 0 (omega arith))

  its-length : a.code ≡ 16 → p.datatype ≡ ByteArray a.n
  unfolding codes
  its-length e = rw (← entry, e)

  its-custom : a.code ≡ 17 → p.datatype ≡ Custom a.n a.alignment a.name_high a.name_low
  unfolding codes
  its-custom e = rw (← entry, e)

-- a code below 16 has no numbers beside it
others : (c : ℕ) (a b : Datatype) → c < 16 → get_or (codes a) c unlisted ≡ get_or (codes b) c unlisted
unfolding codes
others c a b h = get_or-append (take 16 (codes a)) (drop 16 (codes a)) unlisted c h ∙ sym (get_or-append (take 16 (codes b)) (drop 16 (codes b)) unlisted c h)

customs-hold : (a b : Datatype) → EqualCustoms a b → same_custom a b ≡ true
unfolding same_custom
customs-hold a b e = rw (eq-eqb _ _ e.size, eq-eqb _ _ e.alignment, eq-eqb _ _ e.name-high, eq-eqb _ _ e.name-low)

pub customs-only : (a b : Datatype) → same_custom a b ≡ true → EqualCustoms a b
unfolding same_custom
customs-only a b h =
    let f = and_left (eqb a.n b.n && eqb a.alignment b.alignment) _ h in
    let g = and_right (eqb a.n b.n && eqb a.alignment b.alignment) _ h in
    record {
      size = eqb-true _ _ (and_left (eqb a.n b.n) _ f);
      alignment = eqb-true _ _ (and_right (eqb a.n b.n) _ f);
      name-high = eqb-true _ _ (and_left (eqb a.name_high b.name_high) _ g);
      name-low = eqb-true _ _ (and_right (eqb a.name_high b.name_high) _ g);
    }

same-holds : (a b : Datatype) → EqualCodes a b → same_datatype a b ≡ true
unfolding same_datatype
same-holds a b e =
    rw (eq-eqb _ _ e.code)
    (⊎_elim
    (λ t. rw t (eq-eqb _ _ (e.n (eqb-true _ _ t))))
    (λ t. rw t (⊎_elim (λ u. rw u (customs-hold a b (e.custom (eqb-true _ _ u)))) (λ u. rw u) (decide (eqb a.code 17))))
    (decide (eqb a.code 16)))

same-only : (a b : Datatype) → same_datatype a b ≡ true → EqualCodes a b
unfolding same_datatype
same-only a b h =
    let r : cond (eqb a.code 16) (eqb a.n b.n) (cond (eqb a.code 17) (same_custom a b) true) ≡ true = and_right (eqb a.code b.code) _ h in
    record {
      code = eqb-true _ _ (and_left (eqb a.code b.code) _ h);
      n = λ e. eqb-true _ _ (rw (eq-eqb a.code 16 e) at r);
      custom = λ e. customs-only a b (rw (ne_eqb a.code 16 (λ z. omega arith), eq-eqb a.code 17 e) at r);
    }

-- what a code does not have is not looked at
plain_of : (d : Datatype) → d.code < 16 → datatype_of d ≡ datatype_of (plain d.code)
unfolding datatype_of datatype_lines
plain_of d h = rw (ne_eqb d.code 16 (λ e. omega arith), ne_eqb d.code 17 (λ e. omega arith), others d.code d (plain d.code) h)

array_of : (d : Datatype) → d.code ≡ 16 → datatype_of d ≡ datatype_of (byte_array d.n)
unfolding datatype_of datatype_lines codes
array_of d e = ap (λ (c : ℕ). datatype_of (with_code d c)) e

above_of : (d : Datatype) → 17 < d.code → datatype_of d ≡ refused 5
above_of d h = (datatype-refusal-claim.five d).1 h

-- so the same datatypes have one size and one alignment
pub same_of : (a b : Datatype) → same_datatype a b ≡ true → datatype_of a ≡ datatype_of b
same_of a b h =
    let e = same-only a b h in
    let c = e.code in
    ⊎_elim (λ (l : a.code ≤ 15). plain_of a (omega arith) ∙ ap (λ (k : ℕ). datatype_of (plain k)) c ∙ sym (plain_of b (omega arith)))
    (λ (l : 15 < a.code).
    ⊎_elim (λ t. let z = eqb-true a.code 16 t in array_of a z ∙ ap (λ (n : ℕ). datatype_of (byte_array n)) (e.n z) ∙ sym (array_of b (sym c ∙ z)))
    (λ t.
    ⊎_elim (λ u. let k = e.custom (eqb-true a.code 17 u) in λ i. datatype_of (record { code = c i; n = k.size i; alignment = k.alignment i; name_high = k.name-high i; name_low = k.name-low i }))
    (λ u.
    let m : 17 < a.code = omega (arith, eqb-false a.code 16 t, eqb-false a.code 17 u) in
    above_of a m ∙ sym (above_of b (omega arith)))
    (decide (eqb a.code 17)))
    (decide (eqb a.code 16)))
    (order a.code 15)

pub same_size : (a b : Datatype) → same_datatype a b ≡ true → size_of a ≡ size_of b
unfolding size_of
same_size a b h = ap (λ (o : Outcome Properties). (left_by unlisted o).size) (same_of a b h)

same-one : (a b : Datatype) (p q : Properties) → datatype_of a ≡ got p → datatype_of b ≡ got q → same_datatype a b ≡ true → p.datatype ≡ q.datatype
same-one a b p q ha hb h = let g : got p ≡ got q = sym ha ∙ same_of a b h ∙ hb in let e : p ≡ q = cc in ap (λ (x : Properties). x.datatype) e

same-two : (a b : Datatype) (p q : Properties) → datatype_of a ≡ got p → datatype_of b ≡ got q → p.datatype ≡ q.datatype → same_datatype a b ≡ true
same-two a b p q ha hb e =
    let c : a.code ≡ b.code = sym (its-code a p ha) ∙ ap code_of e ∙ its-code b q hb in
    same-holds a b
    (record {
      code = c;
      n = λ z. let f : ByteArray a.n ≡ ByteArray b.n = sym (its-length a p ha z) ∙ e ∙ its-length b q hb (sym c ∙ z) in cc;
      custom = λ z. customs-equal (sym (its-custom a p ha z) ∙ e ∙ its-custom b q hb (sym c ∙ z));
    })
  where
    customs-equal : Custom a.n a.alignment a.name_high a.name_low ≡ Custom b.n b.alignment b.name_high b.name_low → EqualCustoms a b
    customs-equal f = record { size = cc; alignment = cc; name-high = cc; name-low = cc }

pub same-datatype-claim : SameDatatypeClaim
same-datatype-claim = record { holds = same-holds; only = same-only; one = same-one; two = same-two }

pub same_self : (d : Datatype) → same_datatype d d ≡ true
same_self d = same-holds d d (record { code = refl; n = λ e. refl; custom = λ e. record { size = refl; alignment = refl; name-high = refl; name-low = refl } })

-- either way round
pub same-turned : (a b : Datatype) → same_datatype a b ≡ true → same_datatype b a ≡ true
same-turned a b h =
    let e = same-only a b h in
    same-holds b a
    (record {
      code = sym e.code;
      n = λ z. sym (e.n (e.code ∙ z));
      custom = λ z. let k = e.custom (e.code ∙ z) in record { size = sym k.size; alignment = sym k.alignment; name-high = sym k.name-high; name-low = sym k.name-low };
    })
