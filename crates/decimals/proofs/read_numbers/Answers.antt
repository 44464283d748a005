-- `decimals::read_numbers` meets its contract: what is read of the words so far, and then of the rest of the text, is read of the whole text.
use Rattle.std.specs.Prelude.{Ok}
use Rattle.std.proofs.lemmas.Result.{err_from_is_err_and}
use lib.Ieee.{odd, of_fields, of_bits}
use Rattle.common.specs.Logic.{◌∙◌, sym, ap, refl, arith}
use Rattle.decimals.specs.Numbers.{words_of}
use Rattle.decimals.proofs.Words.{at-separator, elsewhere, refused_here, refused_so, last_read, numbers-end}
use Rattle.decimals.proofs.read_numbers.Goals.{then-separates+in_ok-reading, else-separates}
use Rattle.decimals.proofs.read_numbers.Goals as goal

pub loop-i-init : goal.loop-i-init
unfolding words_of of_bits of_fields odd
loop-i-init c = (omega arith, omega arith, omega arith, refl, refl)

pub loop-i-preserved : goal.loop-i-preserved
loop-i-preserved c =
    elim c.if-separates.branch [
      | then-separates+in_ok-reading w ↦ at-separator _ _ _ _ _ _ _ _ _ _ _ c.loop-i-test.true c.loop-i.invariant c.line_after-line.ensures (sym w.if-separates.ensures) (ap Ok w.reading-is ∙ w.in_ok-reading.ensures) w.start-is
      | else-separates w ↦ elsewhere _ _ _ _ _ _ _ _ _ _ _ c.loop-i-test.true c.loop-i.invariant c.line_after-line.ensures (sym w.if-separates.ensures) w.reading-is w.start-is
    ]

pub returns-in_err-reading : goal.returns-in_err-reading
returns-in_err-reading c =
    let p = err_from_is_err_and c.from_residual.result c.from_residual.ensures.1 in
    rw (p.1, p.2) (refused_so _ _ _ (refused_here _ _ _ _ _ _ _ _ _ c.loop-i-test.true c.loop-i.invariant (sym c.if-separates.ensures) c.in_err-reading.ensures))

pub returns-in_err-last : goal.returns-in_err-last
returns-in_err-last c =
    let p = err_from_is_err_and c.from_residual-in_err-last.result c.from_residual-in_err-last.ensures.1 in
    rw (p.1, p.2) (refused_so _ _ _ (last_read _ _ _ _ _ _ _ c.loop-i.invariant.0 c.loop-i-test.false c.loop-i.invariant.4 c.in_err-last.ensures))

pub returns : goal.returns
returns c =
    c.at_end.ensures ∙ numbers-end _ _ _ (Ok c.in_ok-last.last) _ _ _ c.loop-i.invariant.0 c.loop-i-test.false c.loop-i.invariant.3 c.loop-i.invariant.4 c.in_ok-last.ensures
