-- The claim over whole command lines, for plan and for convert.
use Rattle.std.specs.Prelude.{◌≡◌, ◌∷◌, ◌++◌}
use Rattle.common.specs.Logic.{◌∙◌, sym, ap, refl, subst, true, Bool, false, cond, List, [], ℕ, arith, eq-eqb, length}
use Prim.Native.String.{String}
use Rattle.common.specs.Ascii.{ascii}
use Rattle.common.specs.Lists.{all, same_bytes}
use Rattle.usage.specs.Claims.{is_option, has, Options, command_line, Line, ConvertLine, Counted, UsageClaim}
use Rattle.usage.specs.Usage.{is_text, begins_with_dash, option_of, word_of, start, after, complete, after_all, task_of}
use Rattle.usage.specs.declared.Command.TheVariants.{Plan as PlanName, Convert as ConvertName, Help as HelpName}
use Rattle.usage.specs.declared.Request.{Request}
use Rattle.usage.specs.declared.Task.{Task}
use Rattle.usage.specs.declared.Task.TheVariants.{Nothing, Plan, Convert, Help, HelpOfPlan, HelpOfConvert, HelpOfHelp, Version, Wrong}
use Rattle.usage.specs.declared.Word.{Word}
use Rattle.usage.specs.declared.Word.TheVariants.{Name, HelpOption, VersionOption, SourceColumns, TargetColumns, FailIfLost, OptionsEnd, StandardInput, UnknownOption, Other}
use Rattle.usage.proofs.Lines.{at, IsCommand, Rest, counted-first, only, not_none}
use Rattle.usage.proofs.Options.{asked, over}
use Rattle.usage.proofs.Tasks.{Passed, never}
use Rattle.usage.proofs.Words.{name-means, source-means, target-means, lost-means}

-- ---- the two commands

abbrev not_plan : Task → Bool
not_plan Nothing = false
not_plan Plan = false
not_plan (Convert s t o) = true
not_plan Help = true
not_plan HelpOfPlan = true
not_plan HelpOfConvert = true
not_plan HelpOfHelp = true
not_plan Version = true
not_plan Wrong = true

abbrev not_convert : Task → Bool
not_convert Nothing = false
not_convert Plan = true
not_convert (Convert s t o) = false
not_convert Help = true
not_convert HelpOfPlan = true
not_convert HelpOfConvert = true
not_convert HelpOfHelp = true
not_convert Version = true
not_convert Wrong = true

plan-passed : Passed not_plan
plan-passed =
    record { nothing = refl; help = refl; help_of_plan = refl; help_of_convert = refl; help_of_help = refl; version = refl; wrong = refl; convert = λ s t o s' t' o' a. refl }

convert-passed : Passed not_convert
convert-passed =
    record { nothing = refl; help = refl; help_of_plan = refl; help_of_convert = refl; help_of_help = refl; version = refl; wrong = refl; convert = λ s t o s' t' o' a. a }

plan-command : IsCommand Plan HelpOfPlan 1 not_plan
plan-command = record { some = omega arith; step = λ k e x. refl; done = λ k. refl; passed = plan-passed; passes = refl }

convert-command : (s t o : Bool) → IsCommand (Convert s t o) HelpOfConvert 3 not_convert
convert-command s t o = record { some = omega arith; step = λ k e x. refl; done = λ k. refl; passed = convert-passed; passes = refl }

-- ---- a line of a command asks for its task where the number is right

plan-begins : (ended : Bool) (ws : List (List ℕ)) → task_of (command_line "plan" [] ended ws) ≡ complete (after_all (at Plan 0 ended) ws)
unfolding command_line task_of after_all word_of option_of is_text begins_with_dash ascii same_bytes
plan-begins true ws = refl
plan-begins false ws = refl

plan-counted : Counted "plan" [] 1 Plan
plan-counted e ws a = plan-begins e ws ∙ counted-first Plan HelpOfPlan 1 not_plan plan-command e ws a

convert-begins : (ws : List (List ℕ)) → task_of (ascii "convert" ∷ ws) ≡ asked false false false ws
unfolding asked task_of after_all word_of option_of is_text begins_with_dash ascii same_bytes
convert-begins ws = refl

convert-ends : (s t o e : Bool) (ws : List (List ℕ)) → asked s t o (cond e (ascii "--" ∷ ws) ws) ≡ complete (after_all (at (Convert s t o) 0 e) ws)
unfolding asked after_all word_of option_of is_text begins_with_dash ascii same_bytes
convert-ends s t o true ws = refl
convert-ends s t o false ws = refl

convert-counted : (s t o : Bool) (options : List (List ℕ)) → Options s t o options → Counted "convert" options 3 (Convert s t o)
unfolding command_line
convert-counted s t o options g e ws a =
    let rest = cond e (ascii "--" ∷ ws) ws in
    convert-begins (options ++ rest)
    ∙ over rest false false false options g.known
    ∙ ap (λ (b : Bool). asked b (has "--target-columns" options) (has "--fail-if-lost" options) rest) g.from
    ∙ ap (λ (b : Bool). asked s b (has "--fail-if-lost" options) rest) g.into
    ∙ ap (λ (b : Bool). asked s t b rest) g.only
    ∙ convert-ends s t o e ws
    ∙ counted-first (Convert s t o) HelpOfConvert 3 not_convert (convert-command s t o) e ws a

asks : {name : String} {options : List (List ℕ)} {n : ℕ} {t : Task} {ws : List (List ℕ)} → Counted name options n t → Line name options n ws → task_of ws ≡ t
asks {n = n} {t = t} h l =
    ap task_of l.words ∙ h l.ended l.operands l.right ∙ ap (λ (b : Bool). cond b t Wrong) (eq-eqb (length l.operands) n l.number)

-- ---- and only such a line does

line : {name : String} {options : List (List ℕ)} {n : ℕ} {w : List ℕ} {ws us : List (List ℕ)} → w ≡ ascii name → ws ≡ options ++ us → Rest n us → Line name options n (w ∷ ws)
unfolding command_line
line e f r = record { ended = r.ended; operands = r.operands; words = rw (e, f, r.words); right = r.right; number = r.number }

-- the words after convert: options, and what follows them
record Found (ws : List (List ℕ)) : Type 0 where
  options : List (List ℕ)
  others : List (List ℕ)
  words : ws ≡ options ++ others
  known : all is_option options ≡ true
  rest : Rest 3 others

one_more_lem : {v w : List ℕ} {ws : List (List ℕ)} → w ≡ v → is_option v ≡ true → Found ws → Found (w ∷ ws)
unfolding all
one_more_lem {v = v} e o f = record { options = v ∷ f.options; others = f.others; words = rw (e, f.words); known = rw o f.known; rest = f.rest }

plainly : {ws : List (List ℕ)} → Rest 3 ws → Found ws
unfolding all
plainly r = record { options = []; others = _; words = refl; known = refl; rest = r }

unfoldable Left : Bool → Bool → Bool → List (List ℕ) → Type 0
Left s t o ws = not_convert (asked s t o ws) ≡ false

-- one word, by its meaning
turn :
    (p : Task → Bool) (r : Request) (w : List ℕ) (ws : List (List ℕ)) (x : Word) → word_of w ≡ x
    → p (complete (after_all r (w ∷ ws))) ≡ false → p (complete (after_all (after r x) ws)) ≡ false
unfolding after_all
turn p r w ws x i a = subst (λ (y : Word). p (complete (after_all (after r y) ws)) ≡ false) i a

-- by the meaning of the first word after the name
plan-rest : (w : List ℕ) (ws : List (List ℕ)) (x : Word) → word_of w ≡ x → not_plan (complete (after_all (at Plan 0 false) (w ∷ ws))) ≡ false → Rest 1 (w ∷ ws)
unfolding after_all
plan-rest w ws (Name n) i a = only Plan HelpOfPlan 1 not_plan plan-command w ws (rw i) a
plan-rest w ws HelpOption i a = only Plan HelpOfPlan 1 not_plan plan-command w ws (rw i) a
plan-rest w ws VersionOption i a = only Plan HelpOfPlan 1 not_plan plan-command w ws (rw i) a
plan-rest w ws SourceColumns i a = never not_plan plan-passed (start Wrong) ws refl (turn not_plan (at Plan 0 false) w ws SourceColumns i a)
plan-rest w ws TargetColumns i a = never not_plan plan-passed (start Wrong) ws refl (turn not_plan (at Plan 0 false) w ws TargetColumns i a)
plan-rest w ws FailIfLost i a = never not_plan plan-passed (start Wrong) ws refl (turn not_plan (at Plan 0 false) w ws FailIfLost i a)
plan-rest w ws OptionsEnd i a = only Plan HelpOfPlan 1 not_plan plan-command w ws (rw i) a
plan-rest w ws StandardInput i a = only Plan HelpOfPlan 1 not_plan plan-command w ws (rw i) a
plan-rest w ws UnknownOption i a = only Plan HelpOfPlan 1 not_plan plan-command w ws (rw i) a
plan-rest w ws Other i a = only Plan HelpOfPlan 1 not_plan plan-command w ws (rw i) a

convert-by-word :
    (s t o : Bool) (w : List ℕ) (ws : List (List ℕ)) → ((a b c : Bool) → Left a b c ws → Found ws)
    → (x : Word) → word_of w ≡ x → Left s t o (w ∷ ws) → Found (w ∷ ws)
unfolding Left asked after_all is_option is_text ascii same_bytes
convert-by-word s t o w ws more (Name n) i a = plainly (only (Convert s t o) HelpOfConvert 3 not_convert (convert-command s t o) w ws (rw i) a)
convert-by-word s t o w ws more HelpOption i a = plainly (only (Convert s t o) HelpOfConvert 3 not_convert (convert-command s t o) w ws (rw i) a)
convert-by-word s t o w ws more VersionOption i a = plainly (only (Convert s t o) HelpOfConvert 3 not_convert (convert-command s t o) w ws (rw i) a)
convert-by-word s t o w ws more SourceColumns i a = one_more_lem (source-means w i) refl (more true t o (turn not_convert (at (Convert s t o) 0 false) w ws SourceColumns i a))
convert-by-word s t o w ws more TargetColumns i a = one_more_lem (target-means w i) refl (more s true o (turn not_convert (at (Convert s t o) 0 false) w ws TargetColumns i a))
convert-by-word s t o w ws more FailIfLost i a = one_more_lem (lost-means w i) refl (more s t true (turn not_convert (at (Convert s t o) 0 false) w ws FailIfLost i a))
convert-by-word s t o w ws more OptionsEnd i a = plainly (only (Convert s t o) HelpOfConvert 3 not_convert (convert-command s t o) w ws (rw i) a)
convert-by-word s t o w ws more StandardInput i a = plainly (only (Convert s t o) HelpOfConvert 3 not_convert (convert-command s t o) w ws (rw i) a)
convert-by-word s t o w ws more UnknownOption i a = plainly (only (Convert s t o) HelpOfConvert 3 not_convert (convert-command s t o) w ws (rw i) a)
convert-by-word s t o w ws more Other i a = plainly (only (Convert s t o) HelpOfConvert 3 not_convert (convert-command s t o) w ws (rw i) a)

convert-rest : (s t o : Bool) (ws : List (List ℕ)) → Left s t o ws → Found ws
unfolding Left asked after_all
convert-rest s t o [] a = not_none (Convert s t o) HelpOfConvert 3 not_convert (convert-command s t o) a
convert-rest s t o (w ∷ ws) a = convert-by-word s t o w ws (λ (x y z : Bool). convert-rest x y z ws) (word_of w) refl a

plan_after : (ws : List (List ℕ)) → not_plan (complete (after_all (at Plan 0 false) ws)) ≡ false → Rest 1 ws
unfolding after_all
plan_after [] a = not_none Plan HelpOfPlan 1 not_plan plan-command a
plan_after (w ∷ ws) a = plan-rest w ws (word_of w) refl a

-- by the meaning of the first word
module _ (w : List ℕ) (ws : List (List ℕ)) where
  plan-by : (x : Word) → word_of w ≡ x → not_plan (complete (after_all (after (start Nothing) x) ws)) ≡ false → Line "plan" [] 1 (w ∷ ws)
  plan-by (Name PlanName) i a = line (name-means w PlanName i) refl (plan_after ws a)
  plan-by (Name ConvertName) i a = never not_plan plan-passed (start (Convert false false false)) ws refl a
  plan-by (Name HelpName) i a = never not_plan plan-passed (start Help) ws refl a
  plan-by HelpOption i a = never not_plan plan-passed (start Help) ws refl a
  plan-by VersionOption i a = never not_plan plan-passed (start Version) ws refl a
  plan-by SourceColumns i a = never not_plan plan-passed (start Wrong) ws refl a
  plan-by TargetColumns i a = never not_plan plan-passed (start Wrong) ws refl a
  plan-by FailIfLost i a = never not_plan plan-passed (start Wrong) ws refl a
  plan-by OptionsEnd i a = never not_plan plan-passed (start Wrong) ws refl a
  plan-by StandardInput i a = never not_plan plan-passed (start Wrong) ws refl a
  plan-by UnknownOption i a = never not_plan plan-passed (start Wrong) ws refl a
  plan-by Other i a = never not_plan plan-passed (start Wrong) ws refl a

  convert-by : (x : Word) → word_of w ≡ x → not_convert (complete (after_all (after (start Nothing) x) ws)) ≡ false → (w ≡ ascii "convert") × Found ws
  unfolding Left asked
  convert-by (Name PlanName) i a = never not_convert convert-passed (start Plan) ws refl a
  convert-by (Name ConvertName) i a = (name-means w ConvertName i, convert-rest false false false ws a)
  convert-by (Name HelpName) i a = never not_convert convert-passed (start Help) ws refl a
  convert-by HelpOption i a = never not_convert convert-passed (start Help) ws refl a
  convert-by VersionOption i a = never not_convert convert-passed (start Version) ws refl a
  convert-by SourceColumns i a = never not_convert convert-passed (start Wrong) ws refl a
  convert-by TargetColumns i a = never not_convert convert-passed (start Wrong) ws refl a
  convert-by FailIfLost i a = never not_convert convert-passed (start Wrong) ws refl a
  convert-by OptionsEnd i a = never not_convert convert-passed (start Wrong) ws refl a
  convert-by StandardInput i a = never not_convert convert-passed (start Wrong) ws refl a
  convert-by UnknownOption i a = never not_convert convert-passed (start Wrong) ws refl a
  convert-by Other i a = never not_convert convert-passed (start Wrong) ws refl a

plan-line : (ws : List (List ℕ)) → task_of ws ≡ Plan → Line "plan" [] 1 ws
unfolding task_of after_all
plan-line [] a = never not_plan plan-passed (start Wrong) [] refl (ap not_plan a)
plan-line (w ∷ ws) a = plan-by w ws (word_of w) refl (ap not_plan a)

-- what the options of a conversion say
abbrev from_of : Task → Bool
from_of Nothing = false
from_of Plan = false
from_of (Convert s t o) = s
from_of Help = false
from_of HelpOfPlan = false
from_of HelpOfConvert = false
from_of HelpOfHelp = false
from_of Version = false
from_of Wrong = false

abbrev into_of : Task → Bool
into_of Nothing = false
into_of Plan = false
into_of (Convert s t o) = t
into_of Help = false
into_of HelpOfPlan = false
into_of HelpOfConvert = false
into_of HelpOfHelp = false
into_of Version = false
into_of Wrong = false

abbrev only_of : Task → Bool
only_of Nothing = false
only_of Plan = false
only_of (Convert s t o) = o
only_of Help = false
only_of HelpOfPlan = false
only_of HelpOfConvert = false
only_of HelpOfHelp = false
only_of Version = false
only_of Wrong = false

convert-found : (s t o : Bool) (w : List ℕ) (ws : List (List ℕ)) → (w ≡ ascii "convert") × Found ws → task_of (w ∷ ws) ≡ Convert s t o → ConvertLine s t o (w ∷ ws)
convert-found s t o w ws (e, f) a =
    let l : Line "convert" f.options 3 (w ∷ ws) = line e f.words f.rest in
    let b = asks (convert-counted _ _ _ f.options (record { known = f.known; from = refl; into = refl; only = refl })) l in
    record { options = f.options; given = record { known = f.known; from = ap from_of (sym b ∙ a); into = ap into_of (sym b ∙ a); only = ap only_of (sym b ∙ a) }; line = l }

convert_line : (s t o : Bool) (ws : List (List ℕ)) → task_of ws ≡ Convert s t o → ConvertLine s t o ws
unfolding task_of after_all
convert_line s t o [] a = never not_convert convert-passed (start Wrong) [] refl (ap not_convert a)
convert_line s t o (w ∷ ws) a = convert-found s t o w ws (convert-by w ws (word_of w) refl (ap not_convert a)) a

pub usage-claim : UsageClaim
usage-claim =
    record {
      plan = λ ws. (plan-line ws, asks plan-counted);
      convert = λ s t o ws. (convert_line s t o ws, λ l. asks (convert-counted s t o l.options l.given) l.line);
      plan_counted = plan-counted;
      convert_counted = convert-counted;
    }
