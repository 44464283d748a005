-- What a reader has to believe of numbers and datatypes, each claim whole; the proofs are in proofs/.
use Rattle.std.specs.Prelude.{◌≡◌, ◌⊎◌, ◌↔◌, ◌≤◌, ◌<◌, ◌^◌, ◌%◌}
use Rattle.common.specs.Logic.{true, ℕ}
use Rattle.common.specs.Refusal.{got, refused}
use Rattle.datatype.specs.Arithmetic.{align_to, is_power_of_two}
use Rattle.datatype.specs.Datatype.{byte_array, custom, known, datatype_of, same_datatype}
use Rattle.datatype.specs.declared.datatype.Datatype.{Datatype}
use Rattle.datatype.specs.declared.datatype.Properties.{Properties}
use Rattle.datatype.specs.declared.datatype.PointAttributeDataType.TheVariants.{ByteArray, Custom}

-- ---- `align_to`

-- the least multiple of a that is not below x
pub record LeastMultiple (x a r : ℕ) : Type 0 where
  pub multiple : r % a ≡ 0
  pub not_below : x ≤ r
  pub least : (m : ℕ) → m % a ≡ 0 → x ≤ m → r ≤ m

-- 0 leaves the number unchanged
pub record AlignClaim : Type 0 where
  pub aligned : (x a : ℕ) → 0 < a → LeastMultiple x a (align_to x a)
  pub unchanged : (x : ℕ) → align_to x 0 ≡ x

-- ---- powers of two

-- the test holds exactly of the numbers 2 ^ k
pub record PowerClaim : Type 0 where
  pub holds : (k : ℕ) → is_power_of_two (2 ^ k) ≡ true
  pub only : (x : ℕ) → is_power_of_two x ≡ true → (k : ℕ) × (x ≡ 2 ^ k)

-- ---- byte arrays and Customs (document 02, points 4 and 9)

-- a ByteArray of any length but 0 is a datatype of that size, and its alignment is 1
abbrev pub ByteArrayClaim : Type 0
ByteArrayClaim = (n : ℕ) → (datatype_of (byte_array n) ≡ got (known (ByteArray n) n 1)) ↔ (0 < n)

-- a Custom of any size but 0, any alignment and any name is a datatype of that size and that alignment
abbrev pub CustomDatatypeClaim : Type 0
CustomDatatypeClaim = (s a h l : ℕ) → (datatype_of (custom s a h l) ≡ got (known (Custom s a h l) s a)) ↔ (0 < s)

-- 5 begins at 18; 6 is for a ByteArray or a Custom of size 0 only
pub record DatatypeRefusalClaim : Type 0 where
  pub five : (d : Datatype) → (datatype_of d ≡ refused 5) ↔ (18 ≤ d.code)
  pub six : (d : Datatype) → (datatype_of d ≡ refused 6) ↔ (((d.code ≡ 16) ⊎ (d.code ≡ 17)) × (d.n ≡ 0))

-- ---- equal datatypes

-- size, alignment and name all agree
pub record EqualCustoms (a b : Datatype) : Type 0 where
  pub size : a.n ≡ b.n
  pub alignment : a.alignment ≡ b.alignment
  pub name-high : a.name_high ≡ b.name_high
  pub name-low : a.name_low ≡ b.name_low

-- equal codes and, for ByteArray (code 16), equal n, for Custom (code 17), equal size, alignment and name
pub record EqualCodes (a b : Datatype) : Type 0 where
  pub code : a.code ≡ b.code
  pub n : a.code ≡ 16 → a.n ≡ b.n
  pub custom : a.code ≡ 17 → EqualCustoms a b

-- two datatypes are the same exactly then; and two that are listed (codes 0 to 17, no ByteArray or Custom of size 0: the lines 5 and 6 do not
-- hold) are the same exactly where they stand for one datatype of the Rust
pub record SameDatatypeClaim : Type 0 where
  pub holds : (a b : Datatype) → EqualCodes a b → same_datatype a b ≡ true
  pub only : (a b : Datatype) → same_datatype a b ≡ true → EqualCodes a b
  pub one : (a b : Datatype) (p q : Properties) → datatype_of a ≡ got p → datatype_of b ≡ got q → same_datatype a b ≡ true → p.datatype ≡ q.datatype
  pub two : (a b : Datatype) (p q : Properties) → datatype_of a ≡ got p → datatype_of b ≡ got q → p.datatype ≡ q.datatype → same_datatype a b ≡ true
