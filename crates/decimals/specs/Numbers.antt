-- Texts of several decimals: their words, each with its line, and the numbers that are read of them.
use Rattle.std.specs.Prelude.{◌||◌, ◌∷◌, ◌++◌, ◌+◌, pos, Float, Option, None, Some, Result, Ok, Err}
use Rattle.common.specs.Logic.{true, Bool, false, cond, not, List, [], ℕ, eqb, ltb, length, set, replicate}
use Rattle.std.specs.Float.{fin}
use Rattle.decimals.specs.Decimals.{decimal_of}
use Rattle.decimals.specs.declared.Form.{Form}
use Rattle.decimals.specs.declared.Form.TheVariants.{Pose, Shift}
use Rattle.decimals.specs.declared.NumbersError.{NumbersError}
use Rattle.decimals.specs.declared.NumbersError.TheVariants.{BadWord, TooMany, TooFew}
use Rattle.decimals.specs.declared.Reading.{Reading}

-- ---- forms

-- how many decimals there are
abbrev pub wanted : Form → ℕ
wanted Pose = 12
wanted Shift = 3

-- which bytes stand between words: space, tab, newline and carriage return; a comma
abbrev pub separates : Form → ℕ → Bool
separates Pose b = eqb b 0x20 || (eqb b 0x09 || (eqb b 0x0a || eqb b 0x0d))
separates Shift b = eqb b 0x2c

-- ---- words

-- a newline ends a line
abbrev pub line_after : ℕ → ℕ → ℕ
line_after n b = cond (eqb b 0x0a) (n + 1) n

-- the line where a text ends that begins on line n
unfoldable pub last_line : ℕ → List ℕ → ℕ
last_line n [] = n
last_line n (b ∷ bs) = last_line (line_after n b) bs

-- a word, and the line where it ends
pub record Word : Type 0 where
  pub bytes : List ℕ
  pub line : ℕ

-- what stands between two separators is a word, unless it is nothing between two blanks
abbrev pub is_word : Form → ℕ → Bool
is_word Pose length = not (eqb length 0)
is_word Shift length = true

unfoldable pub with_word : Form → ℕ → List ℕ → List Word → List Word
with_word f n w ws = cond (is_word f (length w)) (record { bytes = w; line = n } ∷ ws) ws

-- the words of a text on line n, the first of which begins with w
unfoldable pub words_from : Form → ℕ → List ℕ → List ℕ → List Word
words_from f n w [] = with_word f n w []
words_from f n w (b ∷ bs) =
    cond (separates f b) (with_word f n w (words_from f (line_after n b) [] bs)) (words_from f (line_after n b) (w ++ (b ∷ [])) bs)

unfoldable pub words_of : Form → List ℕ → List Word
words_of f text = words_from f 1 [] text

-- ---- numbers

abbrev pub zeros : List Float
zeros = replicate 12 (fin false 0 (pos 0))

-- before the first word
abbrev pub none_read : Reading
none_read = record { count = 0; numbers = zeros }

-- a number more, on line n
abbrev pub with_number : Form → Reading → ℕ → Float → Result Reading NumbersError
with_number f r n v = cond (ltb r.count (wanted f)) (Ok (record { count = r.count + 1; numbers = set r.numbers r.count v })) (Err (TooMany n))

-- a word more that is read so
abbrev pub with_decimal : Form → Reading → ℕ → Option Float → Result Reading NumbersError
with_decimal f r n (Some v) = with_number f r n v
with_decimal f r n None = Err (BadWord n)

-- the first word that is refused is told
abbrev pub after_word : Form → Result Reading NumbersError → Word → Result Reading NumbersError
after_word f (Ok r) w = with_decimal f r w.line (decimal_of w.bytes)
after_word f (Err e) w = Err e

unfoldable pub after_words : Form → Result Reading NumbersError → List Word → Result Reading NumbersError
after_words f r [] = r
after_words f r (w ∷ ws) = after_words f (after_word f r w) ws

-- at the end of the text, on line n
abbrev pub at_end : Form → ℕ → Result Reading NumbersError → Result (List Float) NumbersError
at_end f n (Ok r) = cond (ltb r.count (wanted f)) (Err (TooFew n)) (Ok r.numbers)
at_end f n (Err e) = Err e

-- the numbers of a whole text, and zeros after them, or why it is refused
unfoldable pub numbers_of : Form → List ℕ → Result (List Float) NumbersError
numbers_of f text = at_end f (last_line 1 text) (after_words f (Ok none_read) (words_of f text))
