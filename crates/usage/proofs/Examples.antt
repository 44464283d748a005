-- Every example asks for what it says: one computation over the definitions.
use Rattle.common.specs.Logic.{refl}
use Rattle.common.specs.Ascii.{ascii}
use Rattle.common.specs.Lists.{same_bytes}
use Rattle.usage.specs.Examples.{found, told, examples, ExamplesHold}
use Rattle.usage.specs.Usage.{is_text, begins_with_dash, option_of, word_of, after_all, task_of}

pub examples-hold : ExamplesHold
unfolding found told examples task_of after_all word_of option_of is_text begins_with_dash ascii same_bytes
examples-hold = refl
