-- Decimals with their values' patterns, and texts of several with what is told of them.
use Rattle.std.specs.Prelude.{◌≡◌, ◌∷◌, ◌++◌, Float, Option, None, Some, Result, Ok, Err}
use Rattle.common.specs.Logic.{List, [], map, ℕ, take}
use Prim.Native.String.{String}
use Rattle.common.specs.Ascii.{ascii}
use Rattle.std.specs.Float.{binary64}
use Rattle.std.specs.Float.Ieee.{to_bits}
use Rattle.decimals.specs.Decimals.{decimal_of}
use Rattle.decimals.specs.Numbers.{wanted, zeros, numbers_of}
use Rattle.decimals.specs.declared.Form.{Form}
use Rattle.decimals.specs.declared.Form.TheVariants.{Pose, Shift}
use Rattle.decimals.specs.declared.NumbersError.{NumbersError}
use Rattle.decimals.specs.declared.NumbersError.TheVariants.{BadWord, TooMany, TooFew}

-- ---- one decimal

pub record Example : Type 0 where
  pub text : String
  pub pattern : Option ℕ

abbrev pattern_of : Option Float → Option ℕ
pattern_of (Some v) = Some (to_bits binary64 v)
pattern_of None = None

unfoldable pub found : Example → Option ℕ
found x = pattern_of (decimal_of (ascii x.text))

unfoldable pub told : Example → Option ℕ
told x = x.pattern

abbrev value : String → ℕ → Example
value t b = record { text = t; pattern = Some b }

abbrev wrong : String → Example
wrong t = record { text = t; pattern = None }

unfoldable pub examples : List Example
examples =
    value "0" 0
    ∷ value "-0" 0x8000000000000000
    ∷ value "+1" 0x3ff0000000000000
    ∷ value "5" 0x4014000000000000
    ∷ value "5." 0x4014000000000000
    ∷ value ".5" 0x3fe0000000000000
    ∷ value "-0.25" 0xbfd0000000000000
    ∷ value "0.1" 0x3fb999999999999a
    ∷ value "-.1" 0xbfb999999999999a
    ∷ value "00.10" 0x3fb999999999999a
    ∷ value "0.3" 0x3fd3333333333333
    ∷ value "2.718281828" 0x4005bf0a8b04919b
    ∷ value "123456789012345" 0x42dc12218377de40
    ∷ value "999999999999999" 0x430c6bf52633fff8
    ∷ value "-.000000000000001" 0xbcd203af9ee75616
    ∷ wrong "1234567890123456"
    ∷ wrong "0000000000000001"
    ∷ wrong ""
    ∷ wrong "."
    ∷ wrong "-"
    ∷ wrong "+."
    ∷ wrong "1e5"
    ∷ wrong "1.2.3"
    ∷ wrong "+-1"
    ∷ wrong "1-"
    ∷ wrong " 1"
    ∷ wrong "1,5"
    ∷ wrong "nan"
    ∷ []

-- ---- several

pub record TextExample : Type 0 where
  pub form : Form
  pub lines : List String
  pub refusal : Option NumbersError
  pub patterns : List ℕ

-- the lines, with a newline between each two
unfoldable pub joined : List String → List ℕ
joined [] = []
joined (l ∷ []) = ascii l
joined (l ∷ m ∷ ls) = ascii l ++ 0x0a ∷ joined (m ∷ ls)

abbrev refusal_of : Result (List Float) NumbersError → Option NumbersError
refusal_of (Ok vs) = None
refusal_of (Err e) = Some e

-- zeros where the text is refused
abbrev numbers_in : Result (List Float) NumbersError → List Float
numbers_in (Ok vs) = vs
numbers_in (Err e) = zeros

unfoldable pub answer_found : TextExample → Option NumbersError
answer_found x = refusal_of (numbers_of x.form (joined x.lines))

unfoldable pub answer_told : TextExample → Option NumbersError
answer_told x = x.refusal

-- the patterns of as many numbers as are wanted
unfoldable pub patterns_found : TextExample → List ℕ
patterns_found x = map (to_bits binary64) (take (wanted x.form) (numbers_in (numbers_of x.form (joined x.lines))))

unfoldable pub patterns_told : TextExample → List ℕ
patterns_told x = x.patterns

-- why a text is refused; none where it is read
abbrev Read : Option NumbersError
Read = None

abbrev shift : String → Option NumbersError → ℕ → ℕ → ℕ → TextExample
shift t a x y z = record { form = Shift; lines = t ∷ []; refusal = a; patterns = x ∷ y ∷ z ∷ [] }

abbrev zero_patterns : List ℕ
zero_patterns = 0 ∷ 0 ∷ 0 ∷ 0 ∷ 0 ∷ 0 ∷ 0 ∷ 0 ∷ 0 ∷ 0 ∷ 0 ∷ 0 ∷ []

abbrev pose : List String → Option NumbersError → List ℕ → TextExample
pose ls a ps = record { form = Pose; lines = ls; refusal = a; patterns = ps }

unfoldable pub text_examples : List TextExample
text_examples =
    shift "1,-0.25,.5" Read 0x3ff0000000000000 0xbfd0000000000000 0x3fe0000000000000
    ∷ shift "1,2" (Some (TooFew 1)) 0 0 0
    ∷ shift "1,2,3,4" (Some (TooMany 1)) 0 0 0
    ∷ shift "1,,3" (Some (BadWord 1)) 0 0 0
    ∷ shift "1,2,3," (Some (BadWord 1)) 0 0 0
    ∷ shift "1, 2,3" (Some (BadWord 1)) 0 0 0
    ∷ shift "" (Some (BadWord 1)) 0 0 0
    -- nine factors, row by row, and then three shifts
    ∷ pose ("1 0 0" ∷ "  0 1 0" ∷ "" ∷ "0 0 1 " ∷ "0.5 0 -0" ∷ "" ∷ []) Read (0x3ff0000000000000 ∷ 0 ∷ 0 ∷ 0 ∷ 0x3ff0000000000000 ∷ 0 ∷ 0 ∷ 0 ∷ 0x3ff0000000000000 ∷ 0x3fe0000000000000 ∷ 0 ∷ 0x8000000000000000 ∷ [])
    ∷ pose ("1 0 0" ∷ "0 1 0" ∷ "0 0 1" ∷ []) (Some (TooFew 3)) zero_patterns
    ∷ pose ("1 0 0" ∷ "0 1 0" ∷ "0 0 1" ∷ "" ∷ []) (Some (TooFew 4)) zero_patterns
    ∷ pose ("1 0 0" ∷ "0 1 0" ∷ "0 0 1" ∷ "0 0 0" ∷ "0" ∷ []) (Some (TooMany 5)) zero_patterns
    ∷ pose ("1 0 0" ∷ "0 1,0 0" ∷ "x" ∷ []) (Some (BadWord 2)) zero_patterns
    ∷ pose [] (Some (TooFew 1)) zero_patterns
    ∷ []

-- every example is as it says
pub record ExamplesHold : Type 0 where
  pub decimals : map found examples ≡ map told examples
  pub answers : map answer_found text_examples ≡ map answer_told text_examples
  pub numbers : map patterns_found text_examples ≡ map patterns_told text_examples
