-- How the command nakvisk is used, by the words after its name:
--     plan SHEETS
--     convert [--source-columns] [--target-columns] [--fail-if-lost] SHEETS SOURCE TARGET
--     help [COMMAND], or --help in the place of help
--     COMMAND --help
--     --version
-- A COMMAND is plan, convert or help; -h is --help. Options come before operands, in any order and any number of times, and -- ends them. SHEETS
-- may be -, for standard input. All else is wrong usage.
use Rattle.std.specs.Prelude.{◌||◌, ◌∷◌, ◌+◌}
use Rattle.common.specs.Logic.{Bool, true, false, cond, List, [], ℕ, eqb, ltb, get_or}
use Prim.Native.String.{String}
use Rattle.common.specs.Ascii.{ascii}
use Rattle.common.specs.Lists.{same_bytes}
use Rattle.usage.specs.declared.Command.{Command}
use Rattle.usage.specs.declared.Command.TheVariants.{Plan as PlanName, Convert as ConvertName, Help as HelpName}
use Rattle.usage.specs.declared.Request.{Request}
use Rattle.usage.specs.declared.Task.{Task}
use Rattle.usage.specs.declared.Task.TheVariants.{Nothing, Plan, Convert, Help, HelpOfPlan, HelpOfConvert, HelpOfHelp, Version, Wrong}
use Rattle.usage.specs.declared.Word.{Word}
use Rattle.usage.specs.declared.Word.TheVariants.{Name, HelpOption, VersionOption, SourceColumns, TargetColumns, FailIfLost, OptionsEnd, StandardInput, UnknownOption, Other}

-- ---- one word

unfoldable pub is_text : String → List ℕ → Bool
is_text s w = same_bytes w (ascii s)

unfoldable pub begins_with_dash : List ℕ → Bool
begins_with_dash w = eqb (get_or w 0 0) 0x2d

-- what a word means that names no command
unfoldable pub option_of : List ℕ → Word
option_of w =
    cond (is_text "--help" w || is_text "-h" w) HelpOption
    (cond (is_text "--version" w) VersionOption
    (cond (is_text "--source-columns" w) SourceColumns
    (cond (is_text "--target-columns" w) TargetColumns
    (cond (is_text "--fail-if-lost" w) FailIfLost
    (cond (is_text "--" w) OptionsEnd
    (cond (is_text "-" w) StandardInput
    (cond (begins_with_dash w) UnknownOption Other)))))))

unfoldable pub word_of : List ℕ → Word
word_of w =
    cond (is_text "plan" w) (Name PlanName)
    (cond (is_text "convert" w) (Name ConvertName)
    (cond (is_text "help" w) (Name HelpName) (option_of w)))

-- ---- the first word, and the word after help

-- a task with no operand yet, whose options may go on
abbrev pub start : Task → Request
start t = record { task = t; operands = 0; options_ended = false }

abbrev pub named_task : Command → Task
named_task PlanName = Plan
named_task ConvertName = Convert false false false
named_task HelpName = Help

abbrev pub topic_named : Command → Task
topic_named PlanName = HelpOfPlan
topic_named ConvertName = HelpOfConvert
topic_named HelpName = HelpOfHelp

-- what the first word asks for
abbrev pub begun : Word → Task
begun (Name n) = named_task n
begun HelpOption = Help
begun VersionOption = Version
begun SourceColumns = Wrong
begun TargetColumns = Wrong
begun FailIfLost = Wrong
begun OptionsEnd = Wrong
begun StandardInput = Wrong
begun UnknownOption = Wrong
begun Other = Wrong

-- what help with this word asks for
abbrev pub topic : Word → Task
topic (Name n) = topic_named n
topic HelpOption = HelpOfHelp
topic VersionOption = Wrong
topic SourceColumns = Wrong
topic TargetColumns = Wrong
topic FailIfLost = Wrong
topic OptionsEnd = Wrong
topic StandardInput = Wrong
topic UnknownOption = Wrong
topic Other = Wrong

-- ---- a word after plan or convert

-- how many operands a command has: SHEETS; SHEETS, SOURCE and TARGET
abbrev pub plan_operands : ℕ
plan_operands = 1

abbrev pub convert_operands : ℕ
convert_operands = 3

-- after -- every word is an operand, and - alone keeps its meaning
abbrev pub as_operand : Word → Word
as_operand (Name n) = Other
as_operand HelpOption = Other
as_operand VersionOption = Other
as_operand SourceColumns = Other
as_operand TargetColumns = Other
as_operand FailIfLost = Other
as_operand OptionsEnd = Other
as_operand StandardInput = StandardInput
as_operand UnknownOption = Other
as_operand Other = Other

-- a word after plan or convert, where the options have ended or not
abbrev pub read : Bool → Word → Word
read ended w = cond ended (as_operand w) w

-- one operand more, of at most m
abbrev pub one_more : ℕ → Request → Request
one_more m r =
    cond (ltb r.operands m)
    (record { task = r.task; operands = r.operands + 1; options_ended = r.options_ended })
    (start Wrong)

-- what may stand before the operands alone
abbrev pub before_operands : Request → Request → Request
before_operands r next = cond (eqb r.operands 0) next (start Wrong)

abbrev pub with_options_ended : Request → Request
with_options_ended r = record { task = r.task; operands = r.operands; options_ended = true }

-- the task with --source-columns, with --target-columns, and with --fail-if-lost, which convert has alone
abbrev pub from_columns : Task → Task
from_columns Nothing = Wrong
from_columns Plan = Wrong
from_columns (Convert source target whole) = Convert true target whole
from_columns Help = Wrong
from_columns HelpOfPlan = Wrong
from_columns HelpOfConvert = Wrong
from_columns HelpOfHelp = Wrong
from_columns Version = Wrong
from_columns Wrong = Wrong

abbrev pub into_columns : Task → Task
into_columns Nothing = Wrong
into_columns Plan = Wrong
into_columns (Convert source target whole) = Convert source true whole
into_columns Help = Wrong
into_columns HelpOfPlan = Wrong
into_columns HelpOfConvert = Wrong
into_columns HelpOfHelp = Wrong
into_columns Version = Wrong
into_columns Wrong = Wrong

abbrev pub if_whole : Task → Task
if_whole Nothing = Wrong
if_whole Plan = Wrong
if_whole (Convert source target whole) = Convert source target true
if_whole Help = Wrong
if_whole HelpOfPlan = Wrong
if_whole HelpOfConvert = Wrong
if_whole HelpOfHelp = Wrong
if_whole Version = Wrong
if_whole Wrong = Wrong

-- a word after the name of a command that has m operands; h is the command's help
abbrev pub in_command : ℕ → Task → Request → Word → Request
in_command m h r (Name n) = one_more m r
in_command m h r HelpOption = before_operands r (start h)
in_command m h r VersionOption = start Wrong
in_command m h r SourceColumns = before_operands r (start (from_columns r.task))
in_command m h r TargetColumns = before_operands r (start (into_columns r.task))
in_command m h r FailIfLost = before_operands r (start (if_whole r.task))
in_command m h r OptionsEnd = before_operands r (with_options_ended r)
in_command m h r StandardInput = before_operands r (one_more m r)
in_command m h r UnknownOption = start Wrong
in_command m h r Other = one_more m r

-- ---- the words in turn

abbrev pub after_task : Task → Request → Word → Request
after_task Nothing r w = start (begun w)
after_task Plan r w = in_command plan_operands HelpOfPlan r (read r.options_ended w)
after_task (Convert source target whole) r w = in_command convert_operands HelpOfConvert r (read r.options_ended w)
after_task Help r w = start (topic w)
after_task HelpOfPlan r w = start Wrong
after_task HelpOfConvert r w = start Wrong
after_task HelpOfHelp r w = start Wrong
after_task Version r w = start Wrong
after_task Wrong r w = start Wrong

-- the request with one word more
abbrev pub after : Request → Word → Request
after r w = after_task r.task r w

-- a task with this many operands, where no word is left
abbrev pub completed : Task → ℕ → Task
completed Nothing k = Wrong
completed Plan k = cond (eqb k plan_operands) Plan Wrong
completed (Convert source target whole) k = cond (eqb k convert_operands) (Convert source target whole) Wrong
completed Help k = Help
completed HelpOfPlan k = HelpOfPlan
completed HelpOfConvert k = HelpOfConvert
completed HelpOfHelp k = HelpOfHelp
completed Version k = Version
completed Wrong k = Wrong

abbrev pub complete : Request → Task
complete r = completed r.task r.operands

-- the words in turn
unfoldable pub after_all : Request → List (List ℕ) → Request
after_all r [] = r
after_all r (w ∷ ws) = after_all (after r (word_of w)) ws

-- what the words of a whole command line ask for
unfoldable pub task_of : List (List ℕ) → Task
task_of ws = complete (after_all (start Nothing) ws)
