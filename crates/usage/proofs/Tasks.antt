-- A task that the words so far do not ask for, and did not begin with, is not asked for by more words either.
use Rattle.std.specs.Prelude.{◌≡◌, ◌∷◌}
use Rattle.common.specs.Logic.{refl, true, Bool, false, cond, List, [], ℕ, eqb, ltb}
use Rattle.common.proofs.Lists.{clash}
use Rattle.usage.specs.Usage.{word_of, start, topic_named, topic, read, one_more, before_operands, with_options_ended, from_columns, into_columns, if_whole, in_command, after_task, after, completed, complete, after_all}
use Rattle.usage.specs.declared.Command.{Command}
use Rattle.usage.specs.declared.Command.TheVariants.{Plan as PlanName, Convert as ConvertName, Help as HelpName}
use Rattle.usage.specs.declared.Request.{Request}
use Rattle.usage.specs.declared.Task.{Task}
use Rattle.usage.specs.declared.Task.TheVariants.{Nothing, Plan, Convert, Help, HelpOfPlan, HelpOfConvert, HelpOfHelp, Version, Wrong}
use Rattle.usage.specs.declared.Word.{Word}
use Rattle.usage.specs.declared.Word.TheVariants.{Name, HelpOption, VersionOption, SourceColumns, TargetColumns, FailIfLost, OptionsEnd, StandardInput, UnknownOption, Other}

-- a test of tasks that those without operands pass, and that convert's options keep
pub record Passed (p : Task → Bool) : Type 0 where
  pub nothing : p Nothing ≡ false
  pub help : p Help ≡ true
  pub help_of_plan : p HelpOfPlan ≡ true
  pub help_of_convert : p HelpOfConvert ≡ true
  pub help_of_help : p HelpOfHelp ≡ true
  pub version : p Version ≡ true
  pub wrong : p Wrong ≡ true
  pub convert : (s t o s' t' o' : Bool) → p (Convert s t o) ≡ true → p (Convert s' t' o') ≡ true

module _ (p : Task → Bool) (passed : Passed p) where
  either : (b : Bool) (x y : Request) → p x.task ≡ true → p y.task ≡ true → p (cond b x y).task ≡ true
  either true x y f g = f
  either false x y f g = g

  one_of : (b : Bool) (x y : Task) → p x ≡ true → p y ≡ true → p (cond b x y) ≡ true
  one_of true x y f g = f
  one_of false x y f g = g

  -- with an option of convert
  kept-from : (u : Task) → p u ≡ true → p (from_columns u) ≡ true
  kept-from Nothing a = passed.wrong
  kept-from Plan a = passed.wrong
  kept-from (Convert s t o) a = passed.convert s t o true t o a
  kept-from Help a = passed.wrong
  kept-from HelpOfPlan a = passed.wrong
  kept-from HelpOfConvert a = passed.wrong
  kept-from HelpOfHelp a = passed.wrong
  kept-from Version a = passed.wrong
  kept-from Wrong a = passed.wrong

  kept-into : (u : Task) → p u ≡ true → p (into_columns u) ≡ true
  kept-into Nothing a = passed.wrong
  kept-into Plan a = passed.wrong
  kept-into (Convert s t o) a = passed.convert s t o s true o a
  kept-into Help a = passed.wrong
  kept-into HelpOfPlan a = passed.wrong
  kept-into HelpOfConvert a = passed.wrong
  kept-into HelpOfHelp a = passed.wrong
  kept-into Version a = passed.wrong
  kept-into Wrong a = passed.wrong

  kept-only : (u : Task) → p u ≡ true → p (if_whole u) ≡ true
  kept-only Nothing a = passed.wrong
  kept-only Plan a = passed.wrong
  kept-only (Convert s t o) a = passed.convert s t o s t true a
  kept-only Help a = passed.wrong
  kept-only HelpOfPlan a = passed.wrong
  kept-only HelpOfConvert a = passed.wrong
  kept-only HelpOfHelp a = passed.wrong
  kept-only Version a = passed.wrong
  kept-only Wrong a = passed.wrong

  module _ (m : ℕ) (h : Task) (r : Request) (a : p r.task ≡ true) (b : p h ≡ true) where
    kept_more : p (one_more m r).task ≡ true
    kept_more = either (ltb r.operands m) _ _ a passed.wrong

    kept-before : (x : Request) → p x.task ≡ true → p (before_operands r x).task ≡ true
    kept-before x g = either (eqb r.operands 0) x _ g passed.wrong

    kept-command : (x : Word) → p (in_command m h r x).task ≡ true
    kept-command (Name n) = kept_more
    kept-command HelpOption = kept-before (start h) b
    kept-command VersionOption = passed.wrong
    kept-command SourceColumns = kept-before (start (from_columns r.task)) (kept-from r.task a)
    kept-command TargetColumns = kept-before (start (into_columns r.task)) (kept-into r.task a)
    kept-command FailIfLost = kept-before (start (if_whole r.task)) (kept-only r.task a)
    kept-command OptionsEnd = kept-before (with_options_ended r) a
    kept-command StandardInput = kept-before (one_more m r) kept_more
    kept-command UnknownOption = passed.wrong
    kept-command Other = kept_more

  kept-named : (n : Command) → p (topic_named n) ≡ true
  kept-named PlanName = passed.help_of_plan
  kept-named ConvertName = passed.help_of_convert
  kept-named HelpName = passed.help_of_help

  kept-topic : (x : Word) → p (topic x) ≡ true
  kept-topic (Name n) = kept-named n
  kept-topic HelpOption = passed.help_of_help
  kept-topic VersionOption = passed.wrong
  kept-topic SourceColumns = passed.wrong
  kept-topic TargetColumns = passed.wrong
  kept-topic FailIfLost = passed.wrong
  kept-topic OptionsEnd = passed.wrong
  kept-topic StandardInput = passed.wrong
  kept-topic UnknownOption = passed.wrong
  kept-topic Other = passed.wrong

  kept-task : (u : Task) (r : Request) (x : Word) → u ≡ r.task → p u ≡ true → p (after_task u r x).task ≡ true
  kept-task Nothing r x e a = clash a passed.nothing
  kept-task Plan r x e a = kept-command 1 HelpOfPlan r (rw e at a) passed.help_of_plan (read r.options_ended x)
  kept-task (Convert s t o) r x e a = kept-command 3 HelpOfConvert r (rw e at a) passed.help_of_convert (read r.options_ended x)
  kept-task Help r x e a = kept-topic x
  kept-task HelpOfPlan r x e a = passed.wrong
  kept-task HelpOfConvert r x e a = passed.wrong
  kept-task HelpOfHelp r x e a = passed.wrong
  kept-task Version r x e a = passed.wrong
  kept-task Wrong r x e a = passed.wrong

  kept-completed : (u : Task) (k : ℕ) → p u ≡ true → p (completed u k) ≡ true
  kept-completed Nothing k a = passed.wrong
  kept-completed Plan k a = one_of (eqb k 1) Plan Wrong a passed.wrong
  kept-completed (Convert s t o) k a = one_of (eqb k 3) (Convert s t o) Wrong a passed.wrong
  kept-completed Help k a = a
  kept-completed HelpOfPlan k a = a
  kept-completed HelpOfConvert k a = a
  kept-completed HelpOfHelp k a = a
  kept-completed Version k a = a
  kept-completed Wrong k a = a

  kept : (r : Request) (ws : List (List ℕ)) → p r.task ≡ true → p (complete (after_all r ws)) ≡ true
  unfolding after_all
  kept r [] a = kept-completed r.task r.operands a
  kept r (w ∷ ws) a = kept (after r (word_of w)) ws (kept-task r.task r (word_of w) refl a)

  -- so what is asked for in the end does not fail the test
  pub never : {P : Type 0} (r : Request) (ws : List (List ℕ)) → p r.task ≡ true → p (complete (after_all r ws)) ≡ false → P
  never r ws a f = clash (kept r ws a) f
