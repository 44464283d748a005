-- Laws of one word.
use Rattle.std.specs.Prelude.{◌≡◌, ◌||◌}
use Rattle.common.specs.Logic.{sym, refl, subst, ap, true, Bool, false, cond, not, List, ℕ}
use Prim.Native.String.{String}
use Rattle.common.specs.Ascii.{ascii}
use Rattle.common.specs.Lists.{same_bytes}
use Rattle.common.proofs.Lists.{same-eq}
use Rattle.usage.specs.Claims.{is_operand}
use Rattle.usage.specs.Usage.{is_text, begins_with_dash, option_of, word_of}
use Rattle.usage.specs.declared.Command.{Command}
use Rattle.usage.specs.declared.Command.TheVariants.{Plan as PlanName, Convert as ConvertName, Help as HelpName}
use Rattle.usage.specs.declared.Word.{Word}
use Rattle.usage.specs.declared.Word.TheVariants.{Name, HelpOption, VersionOption, SourceColumns, TargetColumns, FailIfLost, OptionsEnd, StandardInput, UnknownOption, Other}

-- ---- what a meaning tells of the word's bytes

-- the word begins with a dash
abbrev dashed : Word → Bool
dashed (Name n) = false
dashed HelpOption = true
dashed VersionOption = true
dashed SourceColumns = true
dashed TargetColumns = true
dashed FailIfLost = true
dashed OptionsEnd = true
dashed StandardInput = true
dashed UnknownOption = true
dashed Other = false

-- the word is -
abbrev pub is_dash : Word → Bool
is_dash (Name n) = false
is_dash HelpOption = false
is_dash VersionOption = false
is_dash SourceColumns = false
is_dash TargetColumns = false
is_dash FailIfLost = false
is_dash OptionsEnd = false
is_dash StandardInput = true
is_dash UnknownOption = false
is_dash Other = false

abbrev pub name_of : Command → String
name_of PlanName = "plan"
name_of ConvertName = "convert"
name_of HelpName = "help"

-- the word of a name, of an option of convert, or of --
abbrev Spelled : Word → List ℕ → Type 0
Spelled (Name n) w = w ≡ ascii (name_of n)
Spelled HelpOption w = true ≡ true
Spelled VersionOption w = true ≡ true
Spelled SourceColumns w = w ≡ ascii "--source-columns"
Spelled TargetColumns w = w ≡ ascii "--target-columns"
Spelled FailIfLost w = w ≡ ascii "--fail-if-lost"
Spelled OptionsEnd w = w ≡ ascii "--"
Spelled StandardInput w = true ≡ true
Spelled UnknownOption w = true ≡ true
Spelled Other w = true ≡ true

record Means (w : List ℕ) (x : Word) : Type 0 where
  dash : begins_with_dash w ≡ dashed x
  only : is_text "-" w ≡ is_dash x
  text : Spelled x w

pick : (P : Word → Type 0) (b : Bool) (x y : Word) → (b ≡ true → P x) → (b ≡ false → P y) → P (cond b x y)
pick P true x y f g = f refl
pick P false x y f g = g refl

either : (a b : Bool) {P : Type 0} → (a ≡ true → P) → (b ≡ true → P) → (a || b) ≡ true → P
either true b f g h = f refl
either false b f g h = g h

-- a word with this text
module _ (s : String) (x : Word) (m : Means (ascii s) x) where
  spelled : (w : List ℕ) → is_text s w ≡ true → Means w x
  unfolding is_text
  spelled w h = subst (λ (v : List ℕ). Means v x) (sym (same-eq w (ascii s) h)) m

option-means : (w : List ℕ) → Means w (option_of w)
unfolding option_of is_text begins_with_dash ascii same_bytes
option-means w =
    pick (Means w) _ _ _
    (either (is_text "--help" w) (is_text "-h" w)
    (spelled "--help" HelpOption (record { dash = refl; only = refl; text = refl }) w)
    (spelled "-h" HelpOption (record { dash = refl; only = refl; text = refl }) w))
    (λ _. pick (Means w) _ _ _ (spelled "--version" VersionOption (record { dash = refl; only = refl; text = refl }) w)
    (λ _. pick (Means w) _ _ _ (spelled "--source-columns" SourceColumns (record { dash = refl; only = refl; text = refl }) w)
    (λ _. pick (Means w) _ _ _ (spelled "--target-columns" TargetColumns (record { dash = refl; only = refl; text = refl }) w)
    (λ _. pick (Means w) _ _ _ (spelled "--fail-if-lost" FailIfLost (record { dash = refl; only = refl; text = refl }) w)
    (λ _. pick (Means w) _ _ _ (spelled "--" OptionsEnd (record { dash = refl; only = refl; text = refl }) w)
    (λ _. pick (Means w) _ _ _ (spelled "-" StandardInput (record { dash = refl; only = refl; text = refl }) w)
    (λ n. pick (Means w) _ _ _ (λ d. record { dash = d; only = n; text = refl }) (λ d. record { dash = d; only = n; text = refl }))))))))

means : (w : List ℕ) → Means w (word_of w)
unfolding word_of is_text begins_with_dash ascii same_bytes
means w =
    pick (Means w) _ _ _ (spelled "plan" (Name PlanName) (record { dash = refl; only = refl; text = refl }) w)
    (λ _. pick (Means w) _ _ _ (spelled "convert" (Name ConvertName) (record { dash = refl; only = refl; text = refl }) w)
    (λ _. pick (Means w) _ _ _ (spelled "help" (Name HelpName) (record { dash = refl; only = refl; text = refl }) w)
    (λ _. option-means w)))

-- the same for meanings: an operand in any place
abbrev pub asks_operand : Bool → Word → Bool
asks_operand ended x = not (cond ended (is_dash x) (dashed x))

pub operand-means : (ended : Bool) (w : List ℕ) → is_operand ended w ≡ asks_operand ended (word_of w)
unfolding is_operand
operand-means true w = ap not (means w).only
operand-means false w = ap not (means w).dash

pub dash-means : (w : List ℕ) → is_text "-" w ≡ is_dash (word_of w)
dash-means w = (means w).only

pub name-means : (w : List ℕ) (n : Command) → word_of w ≡ Name n → w ≡ ascii (name_of n)
name-means w n e = subst (λ (x : Word). Spelled x w) e (means w).text

pub end-means : (w : List ℕ) → word_of w ≡ OptionsEnd → w ≡ ascii "--"
end-means w e = subst (λ (x : Word). Spelled x w) e (means w).text

pub source-means : (w : List ℕ) → word_of w ≡ SourceColumns → w ≡ ascii "--source-columns"
source-means w e = subst (λ (x : Word). Spelled x w) e (means w).text

pub target-means : (w : List ℕ) → word_of w ≡ TargetColumns → w ≡ ascii "--target-columns"
target-means w e = subst (λ (x : Word). Spelled x w) e (means w).text

pub lost-means : (w : List ℕ) → word_of w ≡ FailIfLost → w ≡ ascii "--fail-if-lost"
lost-means w e = subst (λ (x : Word). Spelled x w) e (means w).text
