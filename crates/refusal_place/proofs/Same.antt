-- Two refusals are equal where their numbers are.
use Rattle.std.specs.Prelude.{◌≡◌}
use Rattle.common.specs.Logic.{sym, refl, suc, eqb}
use denote.Enum.Bare.{sameb}
use lib.Dec.{eqb-suc-suc}
use denote.Enum.Declared.{tag_of}
use Rattle.common.specs.Refusal.{number_of}
use Rattle.common.specs.contracts.Refusal.{the_type}
use Rattle.common.specs.declared.Refusal.{Refusal}
use Rattle.common.specs.declared.Refusal.TheVariants.{Unsound, SheetEnds, TooMany, BadName, UnknownDatatype, BadSize, NotAtEnd, NameTaken, SharedByte, BadAlignment, TooLong, NoSource, NoSuchPlace, NoCast, SourceLength, TargetLength, RangeLengths, SourceRange, TargetRange, PointLength, BackwardRange, ColumnLength}

-- they are numbered in their order, from 1
in-order : (r : Refusal) → number_of r ≡ suc (tag_of the_type r)
in-order Unsound = refl
in-order SheetEnds = refl
in-order TooMany = refl
in-order BadName = refl
in-order UnknownDatatype = refl
in-order BadSize = refl
in-order NotAtEnd = refl
in-order NameTaken = refl
in-order SharedByte = refl
in-order BadAlignment = refl
in-order TooLong = refl
in-order NoSource = refl
in-order NoSuchPlace = refl
in-order NoCast = refl
in-order SourceLength = refl
in-order TargetLength = refl
in-order RangeLengths = refl
in-order SourceRange = refl
in-order TargetRange = refl
in-order PointLength = refl
in-order BackwardRange = refl
in-order ColumnLength = refl

pub same-number : (a b : Refusal) → sameb the_type a b ≡ eqb (number_of a) (number_of b)
same-number a b = rw (in-order a, in-order b) (sym (eqb-suc-suc (tag_of the_type a) (tag_of the_type b)))
