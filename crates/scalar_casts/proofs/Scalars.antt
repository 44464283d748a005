-- The ten scalars: their codes and kinds, and the cast by the two kinds.
use Rattle.std.specs.Prelude.{◌≡◌, ◌^◌, ◌%◌}
use Rattle.common.specs.Logic.{◌∙◌, sym, ap, refl, ap₂, ℕ, eq-eqb, ne_eqb, get_or}
use Rattle.numbers.specs.Casts.{Kind, kind_bits, cast_of}
use Rattle.scalar_casts.specs.Scalars.{code_of, scalars, kind_of, bits_of, cast_scalar}
use Rattle.scalar_casts.specs.declared.scalar.Scalar.{Scalar}
use Rattle.scalar_casts.specs.declared.scalar.Scalar.TheVariants.{U8, I8, U16, I16, U32, I32, U64, I64, F32, F64}

-- a law of the ten
pub each : (P : Scalar → Type 0) → P U8 → P I8 → P U16 → P I16 → P U32 → P I32 → P U64 → P I64 → P F32 → P F64 → (s : Scalar) → P s
each P u8 i8 u16 i16 u32 i32 u64 i64 f32 f64 U8 = u8
each P u8 i8 u16 i16 u32 i32 u64 i64 f32 f64 I8 = i8
each P u8 i8 u16 i16 u32 i32 u64 i64 f32 f64 U16 = u16
each P u8 i8 u16 i16 u32 i32 u64 i64 f32 f64 I16 = i16
each P u8 i8 u16 i16 u32 i32 u64 i64 f32 f64 U32 = u32
each P u8 i8 u16 i16 u32 i32 u64 i64 f32 f64 I32 = i32
each P u8 i8 u16 i16 u32 i32 u64 i64 f32 f64 U64 = u64
each P u8 i8 u16 i16 u32 i32 u64 i64 f32 f64 I64 = i64
each P u8 i8 u16 i16 u32 i32 u64 i64 f32 f64 F32 = f32
each P u8 i8 u16 i16 u32 i32 u64 i64 f32 f64 F64 = f64

code-back : (s : Scalar) → get_or scalars (code_of s) F64 ≡ s
code-back = each (λ (s : Scalar). get_or scalars (code_of s) F64 ≡ s) refl refl refl refl refl refl refl refl refl refl

-- equal codes are of equal scalars
pub same-scalar : (a b : Scalar) → code_of a ≡ code_of b → a ≡ b
same-scalar a b e = sym (code-back a) ∙ ap (λ (c : ℕ). get_or scalars c F64) e ∙ code-back b

pub kind-bits : (s : Scalar) → kind_bits (kind_of s) ≡ bits_of s
kind-bits = each (λ (s : Scalar). kind_bits (kind_of s) ≡ bits_of s) refl refl refl refl refl refl refl refl refl refl

-- ---- the cast of scalars: equal ones copy, the others go by their kinds
pub copied : (s : Scalar) (x : ℕ) → cast_scalar s s x ≡ x
unfolding cast_scalar
copied s x = each (λ (t : Scalar). cast_scalar t t x ≡ x) refl refl refl refl refl refl refl refl refl refl s

module _ (a b : Scalar) (x : ℕ) where
  pub same-is : {r : ℕ} {k : Kind} → a ≡ b → k ≡ kind_of a → r ≡ x % 2 ^ kind_bits k → r ≡ cast_scalar a b (x % 2 ^ bits_of a)
  unfolding cast_scalar
  same-is e K R =
      R ∙ ap (λ (k : Kind). x % 2 ^ kind_bits k) K ∙ ap (λ (w : ℕ). x % 2 ^ w) (kind-bits a) ∙ rw (eq-eqb (code_of a) (code_of b) (ap code_of e))

  pub cast_is : {r : ℕ} {k l : Kind} → (a ≡ b → ⊥) → k ≡ kind_of a → l ≡ kind_of b → r ≡ cast_of k l (x % 2 ^ kind_bits k) → r ≡ cast_scalar a b (x % 2 ^ bits_of a)
  unfolding cast_scalar
  cast_is n K L R =
      R ∙ ap₂ (λ (k l : Kind). cast_of k l (x % 2 ^ kind_bits k)) K L ∙ ap (λ (w : ℕ). cast_of (kind_of a) (kind_of b) (x % 2 ^ w)) (kind-bits a)
      ∙ rw (ne_eqb (code_of a) (code_of b) (λ e. n (same-scalar a b e)))
