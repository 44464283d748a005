-- Document 01, "Turned down": a number is given where its line is the first to hold, in the order told.
use Rattle.std.specs.Prelude.{◌∷◌}
use Rattle.common.specs.Logic.{true, Bool, false, cond, not, List, [], ℕ}
use Rattle.common.specs.Lists.{all}
use Rattle.std.specs.Prelude.{Result, Ok, Err}
use Rattle.common.specs.declared.Refusal.{Refusal}
use Rattle.common.specs.declared.Refusal.TheVariants.{Unsound, SheetEnds, TooMany, BadName, UnknownDatatype, BadSize, NotAtEnd, NameTaken, SharedByte, BadAlignment, TooLong, NoSource, NoSuchPlace, NoCast, SourceLength, TargetLength, RangeLengths, SourceRange, TargetRange, PointLength, BackwardRange, ColumnLength}

-- accepted, or the number of the first line that holds
pub data Answer : Type 0 where
  Accepted : Answer
  Refused : ℕ → Answer

-- a numbered refusal, and whether it holds here
pub record Line : Type 0 where
  pub number : ℕ
  pub holds : Bool

abbrev pub line : ℕ → Bool → Line
line n b = record { number = n; holds = b }

-- the number of the first line that holds, where one does
unfoldable pub answer : List Line → Answer
answer [] = Accepted
answer (l ∷ ls) = cond l.holds (Refused l.number) (answer ls)

-- what a call gives: its value, or the number of a refusal
pub data Outcome (X : Type 0) : Type 0 where
  got : X → Outcome X
  refused : ℕ → Outcome X

module _ {X : Type 0} where
  unfoldable pub outcome : Answer → X → Outcome X
  outcome Accepted x = got x
  outcome (Refused n) x = refused n

  -- the value, where no line holds
  unfoldable pub check : List Line → X → Outcome X
  check ls x = outcome (answer ls) x

  -- the number of a refusal, or that there is a value
  unfoldable pub answer_of : Outcome X → Answer
  answer_of (got x) = Accepted
  answer_of (refused n) = Refused n

  -- what a call leaves: its value, or what was there before
  unfoldable pub left_by : X → Outcome X → X
  left_by before (got x) = x
  left_by before (refused n) = before

-- what follows where there is a value; a refusal stands
unfoldable pub and_then : {X Y : Type 0} → Outcome X → (X → Outcome Y) → Outcome Y
and_then (got x) f = f x
and_then (refused n) f = refused n

-- no line holds
unfoldable pub not_holding : Line → Bool
not_holding l = not l.holds

unfoldable pub passes : List Line → Bool
passes ls = all not_holding ls

-- an answer says that nothing was refused
abbrev pub accepts : Answer → Bool
accepts Accepted = true
accepts (Refused n) = false

-- the answer to one line
abbrev pub line_answer : ℕ → Bool → Answer
line_answer n b = cond b (Refused n) Accepted

-- the answer to some lines, and then to later ones
unfoldable pub or_else : Answer → Answer → Answer
or_else Accepted later = later
or_else (Refused n) later = Refused n

-- ---- what the code's refusals stand for

-- the number of a refusal
abbrev pub number_of : Refusal → ℕ
number_of Unsound = 1
number_of SheetEnds = 2
number_of TooMany = 3
number_of BadName = 4
number_of UnknownDatatype = 5
number_of BadSize = 6
number_of NotAtEnd = 7
number_of NameTaken = 8
number_of SharedByte = 9
number_of BadAlignment = 10
number_of TooLong = 11
number_of NoSource = 12
number_of NoSuchPlace = 13
number_of NoCast = 14
number_of SourceLength = 15
number_of TargetLength = 16
number_of RangeLengths = 17
number_of SourceRange = 18
number_of TargetRange = 19
number_of PointLength = 20
number_of BackwardRange = 21
number_of ColumnLength = 22

-- what a result of the code says
abbrev pub outcome_of : {X : Type 0} → Result X Refusal → Outcome X
outcome_of (Ok x) = got x
outcome_of (Err r) = refused (number_of r)

-- what it says where its value does not matter
abbrev pub answered : {X : Type 0} → Result X Refusal → Answer
answered (Ok x) = Accepted
answered (Err r) = Refused (number_of r)
