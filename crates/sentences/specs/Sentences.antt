-- Document 01, "Turned down", and what document 02 adds there: the sentence of each number, in ASCII. That of 16 is written out, and
-- those of 5 and 6 are document 02's. The header, the Rust crate and docs/REFUSALS.md have the same, which tests/documents checks against this
-- list.
use Rattle.std.specs.Prelude.{◌∷◌}
use Rattle.common.specs.Logic.{List, [], ℕ, get_or}
use Prim.Native.String.{String}
use Rattle.common.specs.Ascii.{ascii}

-- the n-th is that of n, counted from 0, which has none
unfoldable pub sentences : List String
sentences =
    ""
    ∷ "A layout or plan handed in is not sound."
    ∷ "A sheet ends inside a field."
    ∷ "There are more than 32 attributes or lines."
    ∷ "A name has over 31 bytes or a byte outside hex 20 to 7E."
    ∷ "A datatype code is above 17."
    ∷ "A ByteArray or a Custom has size 0, or a sheet gives a length below 256 in 16 bits."
    ∷ "Fill bits are not zero, or a byte follows."
    ∷ "A name already stands in the list."
    ∷ "Two attributes share a byte."
    ∷ "The layout's alignment is 0 or no power of two."
    ∷ "An end or the size passes 65,535."
    ∷ "`for_layouts` finds no source of that name."
    ∷ "A place is not in its list."
    ∷ "The pair has neither copy nor cast."
    ∷ "The source buffer is not count times point size long."
    ∷ "The target buffer is not count times point size long."
    ∷ "The ranges' lengths differ."
    ∷ "The source range's end passes the count, or the part of a view's point passes the view's lent bytes."
    ∷ "The target range's end passes the count."
    ∷ "A lent single point, source or target, ends before the end of a paired attribute."
    ∷ "A range starts after its end."
    ∷ "A column buffer is not count times the sum of attribute sizes long."
    ∷ []

unfoldable pub sentence : ℕ → List ℕ
sentence n = ascii (get_or sentences n "")
