-- `raw_point_converter::convert_point` meets its contract.
use Rattle.std.specs.Prelude.{◌≡◌}
use Rattle.common.specs.Logic.{◌∙◌, sym, ap, Bool, List, arith, length}
use Rattle.common.specs.Lists.{all}
use Rattle.common.specs.Refusal.{Refused}
use Rattle.layout.specs.Records.{layout_of}
use Rattle.layout.proofs.Soundness.{count-few}
use Rattle.raw_point_converter.specs.Pairs.{has_cast, ends_within}
use Rattle.raw_point_converter.proofs.Answers.{Says, source-unsound, target-unsound, no-cast, too_short, carried-out}
use Rattle.raw_point_converter.proofs.Fits.{pairs-fit}
use Rattle.raw_point_converter.proofs.convert_point.Goals.{then-not-sound-via-then-not-sound, then-not-sound-via-else-not-sound+then-not-sound-2}
use Rattle.raw_point_converter.proofs.convert_point.Goals as goal

-- what a check says of the pairs that are held
judged : {A : Type 0} (p : A → Bool) {xs ys : List A} {r b : Bool} → r ≡ all p xs → xs ≡ ys → r ≡ b → all p ys ≡ b
judged p e h k = sym (e ∙ ap (all p) h) ∙ k

pub returns-then-not-sound : goal.returns-then-not-sound
returns-then-not-sound c =
    let it : Says (layout_of c.args.source_layout) (layout_of c.args.target_layout) c.args.source.now c.args.target.now (Refused 1) c.args.target.now = elim c.then-not-sound.branch [
      | then-not-sound-via-then-not-sound w ↦ source-unsound _ _ _ _ (sym c.sound.ensures ∙ w.if-not-sound.true)
      | then-not-sound-via-else-not-sound+then-not-sound-2 w ↦ target-unsound _ _ _ _ (sym c.sound.ensures ∙ w.if-not-sound.false) (sym w.sound-else-not-sound.ensures ∙ w.if-not-sound-2.true)
    ] in
    record { answer = it.0; bytes = it.1 }

pub pairs-pairs-requires : goal.pairs-pairs-requires
pairs-pairs-requires c = (omega (arith, c.from_to-converter.ensures.few, count-few c.args.source_layout (sym c.sound.ensures ∙ c.if-not-sound.false)), c.from_to-converter.ensures.room)

pub returns-then-not-have_casts : goal.returns-then-not-have_casts
returns-then-not-have_casts c =
    let held-is = c.pairs-pairs.ensures ∙ c.from_to-converter.ensures.pairs in
    let it = no-cast _ _ _ _ (sym c.sound.ensures ∙ c.if-not-sound.false) (sym c.sound-else-not-sound.ensures ∙ c.if-not-sound-2.false) (judged has_cast c.have_casts.ensures held-is c.if-not-have_casts.true) in
    record { answer = it.0; bytes = it.1 }

pub returns-then-not-all_within : goal.returns-then-not-all_within
returns-then-not-all_within c =
    let held-is = c.pairs-pairs.ensures ∙ c.from_to-converter.ensures.pairs in
    let it = too_short _ _ _ _ (sym c.sound.ensures ∙ c.if-not-sound.false) (sym c.sound-else-not-sound.ensures ∙ c.if-not-sound-2.false) (judged has_cast c.have_casts.ensures held-is c.if-not-have_casts.false)
    (judged (ends_within (length c.args.source.now) (length c.args.target.now)) c.all_within.ensures held-is c.if-not-all_within.true) in
    record { answer = it.0; bytes = it.1 }

pub convert-requires : goal.convert-requires
convert-requires c =
    let held-is = c.pairs-pairs.ensures ∙ c.from_to-converter.ensures.pairs in
    rw held-is (pairs-fit _ _ _ _ (sym c.sound.ensures ∙ c.if-not-sound.false) (sym c.sound-else-not-sound.ensures ∙ c.if-not-sound-2.false) (judged has_cast c.have_casts.ensures held-is c.if-not-have_casts.false)
    (judged (ends_within (length c.args.source.now) (length c.args.target.now)) c.all_within.ensures held-is c.if-not-all_within.false))

pub returns : goal.returns
returns c =
    let held-is = c.pairs-pairs.ensures ∙ c.from_to-converter.ensures.pairs in
    let it = carried-out _ _ _ _ (sym c.sound.ensures ∙ c.if-not-sound.false) (sym c.sound-else-not-sound.ensures ∙ c.if-not-sound-2.false) (judged has_cast c.have_casts.ensures held-is c.if-not-have_casts.false)
    (judged (ends_within (length c.args.source.now) (length c.args.target.now)) c.all_within.ensures held-is c.if-not-all_within.false) (c.convert.ensures ∙ rw held-is) in
    record { answer = it.0; bytes = it.1 }
