-- The casts of a value that is known as a fraction a / c with a sign.
use Rattle.std.specs.Prelude.{◌≡◌, ◌<◌, ◌+◌, ◌*◌, ◌^◌, ◌%◌}
use Rattle.common.specs.Logic.{◌∙◌, sym, ap, refl, true, Bool, false, cond, ℕ, lt-ltb}
use Rattle.std.proofs.Common.{pow_pos}
use lib.Ieee.{Float, nan, inf, fin, Format, low, hid, ones, top, up, down, round, of_bits, to_bits, is_nan, nan_bits}
use lib.Ieee.Exact.{HasValue}
use lib.Ieee.Bits.{nan_bits_is, nan_bits_above}
use lib.Ieee.Fits.{down_pos}
use lib.Ieee.Scale.{round_same}
use Rattle.numbers.specs.Casts.{rounded, cast_nan, cast_float}
use Rattle.numbers.proofs.Round.{sign}

pub rounded-value : (f : Format) (v : Float) (s : Bool) (a c : ℕ) → 0 < c → HasValue v s a c → rounded f v ≡ round f s a c
unfolding rounded
rounded-value f nan s a c C h = absurd h
rounded-value f (inf t) s a c C h = absurd h
rounded-value f (fin t m e) s a c C h = round_same f t (m * up e) (down e) a c (down_pos e) C h.1 ∙ ap (λ (b : Bool). round f b a c) h.0

has_value : (v : Float) (s : Bool) (a c : ℕ) → HasValue v s a c → is_nan v ≡ false
unfolding is_nan
has_value nan s a c h = absurd h
has_value (inf t) s a c h = absurd h
has_value (fin t m e) s a c h = refl

-- ---- float to float, by what was read
module _ (g f : Format) (b : ℕ) where
  -- a float that is no NaN is rounded
  pub number : is_nan (of_bits g b) ≡ false → to_bits f (rounded f (of_bits g b)) ≡ cast_float g f b
  unfolding cast_float
  number e = ap (λ (t : Bool). cond t (cast_nan g f b) (to_bits f (rounded f (of_bits g b)))) (sym (nan_bits_is g b ∙ e))

  -- a NaN, told by lib.Ieee's test of its pattern
  pub cast-nan-bits : nan_bits g b ≡ true → cast_nan g f b ≡ cast_float g f b
  unfolding cast_float
  cast-nan-bits e = ap (λ (t : Bool). cond t (cast_nan g f b) (to_bits f (rounded f (of_bits g b)))) (sym e)

  -- a NaN, told by its pattern, which without the sign is above that of infinity
  pub cast-nan : ones g * hid g < b % top g → cast_nan g f b ≡ cast_float g f b
  cast-nan h = cast-nan-bits (nan_bits_above g b ∙ lt-ltb (ones g * hid g) (b % top g) h)

  pub cast-infinite : (s : Bool) → of_bits g b ≡ inf s → sign f s + ones f * hid f ≡ cast_float g f b
  unfolding rounded to_bits is_nan
  cast-infinite s e = ap (λ (v : Float). to_bits f (rounded f v)) (sym e) ∙ number (ap is_nan e)

  pub cast-finite : (s : Bool) (a l r : ℕ) → HasValue (of_bits g b) s a (2 ^ low g) → l ≡ low g → r ≡ to_bits f (round f s a (2 ^ l)) → r ≡ cast_float g f b
  cast-finite s a l r h L R =
      R ∙ ap (λ (x : ℕ). to_bits f (round f s a (2 ^ x))) L ∙ ap (to_bits f) (sym (rounded-value f (of_bits g b) s a (2 ^ low g) (pow_pos (low g)) h))
      ∙ number (has_value (of_bits g b) s a (2 ^ low g) h)
