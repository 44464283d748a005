-- The formats of layout sheets before document 02's points changed them: only for the claim that accepted sheets keep their meaning.
use Rattle.common.specs.Logic.{ℕ}
use Rattle.format.specs.Format.{Format, bits_from}
use Rattle.layout_sheets.specs.Sheet.{array_length, datatype_over, Contents, format_over}

-- a ByteArray has 8 bits n, not 0, else 6
unfoldable pub array_length01 : Format ℕ
array_length01 = bits_from 6 1 255 8

-- document 01's, and document 02's after its point 4: codes up to 16
unfoldable pub format01 : Format Contents
format01 = format_over (datatype_over 16 array_length01)

unfoldable pub format04 : Format Contents
format04 = format_over (datatype_over 16 array_length)
