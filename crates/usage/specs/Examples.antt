-- Command lines, and what each asks for.
use Rattle.std.specs.Prelude.{◌≡◌, ◌∷◌}
use Rattle.common.specs.Logic.{true, false, List, [], map}
use Prim.Native.String.{String}
use Rattle.common.specs.Ascii.{ascii}
use Rattle.usage.specs.Usage.{task_of}
use Rattle.usage.specs.declared.Task.{Task}
use Rattle.usage.specs.declared.Task.TheVariants.{Plan, Convert, Help, HelpOfPlan, HelpOfConvert, HelpOfHelp, Version, Wrong}

pub record Example : Type 0 where
  pub words : List String
  pub task : Task

-- what the words ask for, and what the example says
unfoldable pub found : Example → Task
found x = task_of (map ascii x.words)

unfoldable pub told : Example → Task
told x = x.task

abbrev example : List String → Task → Example
example ws t = record { words = ws; task = t }

-- interleaved points into interleaved points, whatever is lost
abbrev plain : Task
plain = Convert false false false

unfoldable pub examples : List Example
examples =
    example [] Wrong
    ∷ example ("" ∷ []) Wrong
    ∷ example ("Plan" ∷ "a" ∷ []) Wrong
    ∷ example ("--" ∷ "plan" ∷ "a" ∷ []) Wrong
    ∷ example ("plan" ∷ []) Wrong
    ∷ example ("plan" ∷ "a" ∷ []) Plan
    ∷ example ("plan" ∷ "a" ∷ "b" ∷ []) Wrong
    ∷ example ("plan" ∷ "" ∷ []) Plan
    ∷ example ("plan" ∷ "plan" ∷ []) Plan
    ∷ example ("plan" ∷ "-" ∷ []) Plan
    ∷ example ("plan" ∷ "-" ∷ "-" ∷ []) Wrong
    ∷ example ("plan" ∷ "--" ∷ []) Wrong
    ∷ example ("plan" ∷ "--" ∷ "-x" ∷ []) Plan
    ∷ example ("plan" ∷ "--" ∷ "--" ∷ []) Plan
    ∷ example ("plan" ∷ "--" ∷ "--help" ∷ []) Plan
    ∷ example ("plan" ∷ "--x" ∷ []) Wrong
    ∷ example ("plan" ∷ "--version" ∷ []) Wrong
    ∷ example ("plan" ∷ "--help" ∷ []) HelpOfPlan
    ∷ example ("plan" ∷ "--help" ∷ "a" ∷ []) Wrong
    ∷ example ("plan" ∷ "a" ∷ "--help" ∷ []) Wrong
    ∷ example ("plan" ∷ "a" ∷ "--" ∷ []) Wrong
    ∷ example ("convert" ∷ []) Wrong
    ∷ example ("convert" ∷ "a" ∷ "b" ∷ []) Wrong
    ∷ example ("convert" ∷ "a" ∷ "b" ∷ "c" ∷ []) plain
    ∷ example ("convert" ∷ "a" ∷ "b" ∷ "c" ∷ "d" ∷ []) Wrong
    ∷ example ("convert" ∷ "-" ∷ "b" ∷ "c" ∷ []) plain
    ∷ example ("convert" ∷ "a" ∷ "-" ∷ "c" ∷ []) Wrong
    ∷ example ("convert" ∷ "a" ∷ "b" ∷ "-h" ∷ []) Wrong
    ∷ example ("convert" ∷ "-a" ∷ "b" ∷ "c" ∷ []) Wrong
    ∷ example ("convert" ∷ "--" ∷ "-a" ∷ "-b" ∷ "-c" ∷ []) plain
    ∷ example ("convert" ∷ "--" ∷ "-" ∷ "b" ∷ "c" ∷ []) plain
    ∷ example ("convert" ∷ "--" ∷ "a" ∷ "-" ∷ "c" ∷ []) Wrong
    ∷ example ("convert" ∷ "--" ∷ "--" ∷ "--" ∷ []) Wrong
    ∷ example ("convert" ∷ "-h" ∷ []) HelpOfConvert
    ∷ example ("convert" ∷ "--source-columns" ∷ "a" ∷ "b" ∷ "c" ∷ []) (Convert true false false)
    ∷ example ("convert" ∷ "--target-columns" ∷ "a" ∷ "b" ∷ "c" ∷ []) (Convert false true false)
    ∷ example ("convert" ∷ "--source-columns" ∷ "--target-columns" ∷ "a" ∷ "b" ∷ "c" ∷ []) (Convert true true false)
    ∷ example ("convert" ∷ "--target-columns" ∷ "--source-columns" ∷ "-" ∷ "b" ∷ "c" ∷ []) (Convert true true false)
    ∷ example ("convert" ∷ "--source-columns" ∷ "--source-columns" ∷ "a" ∷ "b" ∷ "c" ∷ []) (Convert true false false)
    ∷ example ("convert" ∷ "--target-columns" ∷ "--" ∷ "--source-columns" ∷ "b" ∷ "c" ∷ []) (Convert false true false)
    ∷ example ("convert" ∷ "--" ∷ "--source-columns" ∷ "a" ∷ "b" ∷ "c" ∷ []) Wrong
    ∷ example ("convert" ∷ "a" ∷ "--source-columns" ∷ "b" ∷ "c" ∷ []) Wrong
    ∷ example ("convert" ∷ "a" ∷ "b" ∷ "c" ∷ "--target-columns" ∷ []) Wrong
    ∷ example ("convert" ∷ "--source-column" ∷ "a" ∷ "b" ∷ "c" ∷ []) Wrong
    ∷ example ("convert" ∷ "--source-columns" ∷ "a" ∷ "b" ∷ []) Wrong
    ∷ example ("convert" ∷ "--source-columns" ∷ "--help" ∷ []) HelpOfConvert
    ∷ example ("convert" ∷ "--fail-if-lost" ∷ "a" ∷ "b" ∷ "c" ∷ []) (Convert false false true)
    ∷ example ("convert" ∷ "--fail-if-lost" ∷ "--fail-if-lost" ∷ "a" ∷ "b" ∷ "c" ∷ []) (Convert false false true)
    ∷ example ("convert" ∷ "--source-columns" ∷ "--fail-if-lost" ∷ "a" ∷ "b" ∷ "c" ∷ []) (Convert true false true)
    ∷ example ("convert" ∷ "--fail-if-lost" ∷ "--source-columns" ∷ "a" ∷ "b" ∷ "c" ∷ []) (Convert true false true)
    ∷ example ("convert" ∷ "--target-columns" ∷ "--fail-if-lost" ∷ "a" ∷ "b" ∷ "c" ∷ []) (Convert false true true)
    ∷ example ("convert" ∷ "--fail-if-lost" ∷ "--target-columns" ∷ "a" ∷ "b" ∷ "c" ∷ []) (Convert false true true)
    ∷ example ("convert" ∷ "--target-columns" ∷ "--fail-if-lost" ∷ "--source-columns" ∷ "-" ∷ "b" ∷ "c" ∷ []) (Convert true true true)
    ∷ example ("convert" ∷ "--fail-if-lost" ∷ "--" ∷ "--target-columns" ∷ "b" ∷ "c" ∷ []) (Convert false false true)
    ∷ example ("convert" ∷ "--target-columns" ∷ "--" ∷ "a" ∷ "b" ∷ "--fail-if-lost" ∷ []) (Convert false true false)
    ∷ example ("convert" ∷ "a" ∷ "b" ∷ "--fail-if-lost" ∷ []) Wrong
    ∷ example ("convert" ∷ "a" ∷ "b" ∷ "c" ∷ "--fail-if-lost" ∷ []) Wrong
    ∷ example ("convert" ∷ "--fail-if-lost" ∷ "a" ∷ "b" ∷ []) Wrong
    ∷ example ("convert" ∷ "--fail-if-los" ∷ "a" ∷ "b" ∷ "c" ∷ []) Wrong
    ∷ example ("convert" ∷ "--fail-if-lost" ∷ "--help" ∷ []) HelpOfConvert
    ∷ example ("plan" ∷ "--source-columns" ∷ "a" ∷ []) Wrong
    ∷ example ("plan" ∷ "--fail-if-lost" ∷ "a" ∷ []) Wrong
    ∷ example ("--target-columns" ∷ "convert" ∷ "a" ∷ "b" ∷ "c" ∷ []) Wrong
    ∷ example ("--fail-if-lost" ∷ "convert" ∷ "a" ∷ "b" ∷ "c" ∷ []) Wrong
    ∷ example ("--fail-if-lost" ∷ "a" ∷ "b" ∷ "c" ∷ []) Wrong
    ∷ example ("help" ∷ "--source-columns" ∷ []) Wrong
    ∷ example ("help" ∷ "--fail-if-lost" ∷ []) Wrong
    ∷ example ("help" ∷ []) Help
    ∷ example ("help" ∷ "plan" ∷ []) HelpOfPlan
    ∷ example ("help" ∷ "convert" ∷ []) HelpOfConvert
    ∷ example ("help" ∷ "help" ∷ []) HelpOfHelp
    ∷ example ("help" ∷ "x" ∷ []) Wrong
    ∷ example ("help" ∷ "--help" ∷ []) HelpOfHelp
    ∷ example ("help" ∷ "plan" ∷ "convert" ∷ []) Wrong
    ∷ example ("--help" ∷ []) Help
    ∷ example ("-h" ∷ []) Help
    ∷ example ("--help" ∷ "plan" ∷ []) HelpOfPlan
    ∷ example ("--version" ∷ []) Version
    ∷ example ("--version" ∷ "x" ∷ []) Wrong
    ∷ example ("--versions" ∷ []) Wrong
    ∷ []

-- every line asks for what is said
abbrev pub ExamplesHold : Type 0
ExamplesHold = map found examples ≡ map told examples
