-- The kind that the code's enum stands for.
use Rattle.numbers.specs.Casts.{Kind, unsigned, signed, float, format_of}
use Rattle.numbers.specs.Widths.{bits_in}
use Rattle.numbers.specs.declared.kind.Kind.{Kind as Coded}
use Rattle.numbers.specs.declared.kind.Kind.TheVariants.{Unsigned, Signed, Float}

abbrev pub kind_in : Coded → Kind
kind_in (Unsigned w) = unsigned (bits_in w)
kind_in (Signed w) = signed (bits_in w)
kind_in (Float f) = float (format_of f)
