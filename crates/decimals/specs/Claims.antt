-- What holds of decimals and of texts of them, beyond the contracts.
use Rattle.std.specs.Prelude.{◌≡◌, ◌∷◌, ◌++◌, ◌↔◌, ◌⊎◌, ◌≤◌, ◌<◌, ◌+◌, ◌^◌, pos, Float, None, Some, Result, Ok, Err}
use Rattle.common.specs.Logic.{true, Bool, false, not, List, [], map, ℕ, length, drop}
use Rattle.common.specs.Lists.{all}
use Rattle.std.specs.Float.{binary64}
use Rattle.std.specs.Float.Ieee.{neg, div, of_int}
use Rattle.std.specs.Float.Ieee.Exact.{HasValue}
use Rattle.decimals.specs.Decimals.{is_digit, number_from, value_of, decimal_of}
use Rattle.decimals.specs.Numbers.{wanted, separates, last_line, Word, with_word, words_from, words_of, zeros, numbers_of}
use Rattle.decimals.specs.declared.Form.{Form}
use Rattle.decimals.specs.declared.NumbersError.{NumbersError}
use Rattle.decimals.specs.declared.NumbersError.TheVariants.{BadWord, TooMany, TooFew}

-- ---- one rounding

-- `value_of` is m / 10 ^ k rounded by the one `round`. The machine comes to it so: the F64 of m and that of 10 ^ k stand exactly for them, and their
-- quotient is rounded
pub record RoundedOnce (m k : ℕ) : Type 0 where
  pub number : HasValue (of_int binary64 (pos m)) false m 1
  pub power : HasValue (of_int binary64 (pos (10 ^ k))) false (10 ^ k) 1
  pub plus : value_of false m k ≡ div binary64 (of_int binary64 (pos m)) (of_int binary64 (pos (10 ^ k)))
  pub minus : value_of true m k ≡ neg (div binary64 (of_int binary64 (pos m)) (of_int binary64 (pos (10 ^ k))))

-- ---- what is a decimal

-- a sign as it may be written: none, + or -
pub data Sign : Type 0 where
  unwritten plus minus : Sign

abbrev pub sign_text : Sign → List ℕ
sign_text unwritten = []
sign_text plus = 0x2b ∷ []
sign_text minus = 0x2d ∷ []

abbrev pub is_minus : Sign → Bool
is_minus unwritten = false
is_minus plus = false
is_minus minus = true

-- digits before and after a point, from 1 to 15 in all
pub record Digits (whole fraction : List ℕ) : Type 0 where
  pub digits : all is_digit (whole ++ fraction) ≡ true
  pub some : 1 ≤ length whole + length fraction
  pub few : length whole + length fraction ≤ 15

-- the text is a sign and digits, with a point among them or none, and this is its value
pub record Written (text : List ℕ) (v : Float) : Type 0 where
  pub sign : Sign
  pub whole : List ℕ
  pub fraction : List ℕ
  pub right : Digits whole fraction
  pub form : (text ≡ sign_text sign ++ (whole ++ 0x2e ∷ fraction)) ⊎ ((text ≡ sign_text sign ++ whole) × (fraction ≡ []))
  pub value : v ≡ value_of (is_minus sign) (number_from 0 (whole ++ fraction)) (length fraction)

pub record DecimalClaim : Type 0 where
  pub once : (whole fraction : List ℕ) → Digits whole fraction → RoundedOnce (number_from 0 (whole ++ fraction)) (length fraction)
  pub decimals : (text : List ℕ) (v : Float) → (decimal_of text ≡ Some v) ↔ Written text v

-- ---- texts of decimals

-- no byte of it separates words
abbrev pub Whole : Form → List ℕ → Type 0
Whole f w = all (λ (b : ℕ). not (separates f b)) w ≡ true

-- up to the end of a text, and up to a separator, there is one word
pub record WordsClaim (f : Form) : Type 0 where
  pub last : (n : ℕ) (w : List ℕ) → Whole f w → words_from f n [] w ≡ with_word f (last_line n w) w []
  pub next :
      (n b : ℕ) (w rest : List ℕ) → Whole f w → separates f b ≡ true
      → words_from f n [] (w ++ b ∷ rest) ≡ with_word f (last_line n w) w (words_from f (last_line n (w ++ b ∷ [])) [] rest)

-- each word is a decimal, and these are their values
abbrev pub Values : List Word → List Float → Type 0
Values ws vs = map (λ (w : Word). decimal_of w.bytes) ws ≡ map Some vs

abbrev pub refused : NumbersError → Result (List Float) NumbersError
refused e = Err e

-- a text is read, or refused by its first word that is wrong, or by its end
pub record NumbersClaim (f : Form) (text : List ℕ) : Type 0 where
  pub read : (vs : List Float) → Values (words_of f text) vs → length vs ≡ wanted f → numbers_of f text ≡ Ok (vs ++ drop (length vs) zeros)
  pub few : (vs : List Float) → Values (words_of f text) vs → length vs < wanted f → numbers_of f text ≡ refused (TooFew (last_line 1 text))
  pub many :
      (before after : List Word) (w : Word) (vs : List Float) (v : Float) → words_of f text ≡ before ++ w ∷ after → Values before vs → length vs ≡ wanted f
      → decimal_of w.bytes ≡ Some v → numbers_of f text ≡ refused (TooMany w.line)
  pub bad :
      (before after : List Word) (w : Word) (vs : List Float) → words_of f text ≡ before ++ w ∷ after → Values before vs → length vs ≤ wanted f
      → decimal_of w.bytes ≡ None → numbers_of f text ≡ refused (BadWord w.line)
