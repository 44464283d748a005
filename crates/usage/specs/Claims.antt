-- What holds of whole command lines: which of them ask for plan and for convert, and that another number of operands is wrong usage.
use Rattle.std.specs.Prelude.{◌≡◌, ◌&&◌, ◌||◌, ◌∷◌, ◌++◌, ◌↔◌}
use Rattle.common.specs.Logic.{true, Bool, false, cond, not, List, [], ℕ, eqb, length}
use Prim.Native.String.{String}
use Rattle.common.specs.Ascii.{ascii}
use Rattle.common.specs.Lists.{all}
use Rattle.usage.specs.Usage.{is_text, begins_with_dash, task_of}
use Rattle.usage.specs.declared.Task.{Task}
use Rattle.usage.specs.declared.Task.TheVariants.{Plan, Convert, Wrong}

-- an operand in any place: begins with no dash, or, after --, is any word but -
unfoldable pub is_operand : Bool → List ℕ → Bool
is_operand ended w = not (cond ended (is_text "-" w) (begins_with_dash w))

-- the first may also be -
unfoldable pub are_operands : Bool → List (List ℕ) → Bool
are_operands ended [] = true
are_operands ended (w ∷ ws) = (is_text "-" w || is_operand ended w) && all (is_operand ended) ws

-- an option of convert; one of the words is this
unfoldable pub is_option : List ℕ → Bool
is_option w = is_text "--source-columns" w || is_text "--target-columns" w || is_text "--fail-if-lost" w

unfoldable pub has : String → List (List ℕ) → Bool
has s [] = false
has s (w ∷ ws) = is_text s w || has s ws

-- options of convert: whether the points of source and target are columns, and whether the target is made only if no number is lost
pub record Options (source target whole : Bool) (options : List (List ℕ)) : Type 0 where
  pub known : all is_option options ≡ true
  pub from : has "--source-columns" options ≡ source
  pub into : has "--target-columns" options ≡ target
  pub only : has "--fail-if-lost" options ≡ whole

-- a command's name, options, -- where they are ended by it, and the operands
unfoldable pub command_line : String → List (List ℕ) → Bool → List (List ℕ) → List (List ℕ)
command_line name options ended operands = ascii name ∷ (options ++ cond ended (ascii "--" ∷ operands) operands)

-- the words are a command's name, these options and n operands
pub record Line (name : String) (options : List (List ℕ)) (n : ℕ) (ws : List (List ℕ)) : Type 0 where
  pub ended : Bool
  pub operands : List (List ℕ)
  pub words : ws ≡ command_line name options ended operands
  pub right : are_operands ended operands ≡ true
  pub number : length operands ≡ n

pub record ConvertLine (source target whole : Bool) (ws : List (List ℕ)) : Type 0 where
  pub options : List (List ℕ)
  pub given : Options source target whole options
  pub line : Line "convert" options 3 ws

-- a command with n operands asks for the task t with that many, and with any other number it is wrong usage
abbrev pub Counted : String → List (List ℕ) → ℕ → Task → Type 0
Counted name options n t =
    (ended : Bool) (operands : List (List ℕ)) → are_operands ended operands ≡ true
    → task_of (command_line name options ended operands) ≡ cond (eqb (length operands) n) t Wrong

pub record UsageClaim : Type 0 where
  pub plan : (ws : List (List ℕ)) → (task_of ws ≡ Plan) ↔ Line "plan" [] 1 ws
  pub convert : (source target whole : Bool) (ws : List (List ℕ)) → (task_of ws ≡ Convert source target whole) ↔ ConvertLine source target whole ws
  pub plan_counted : Counted "plan" [] 1 Plan
  pub convert_counted :
      (source target whole : Bool) (options : List (List ℕ)) → Options source target whole options
      → Counted "convert" options 3 (Convert source target whole)
