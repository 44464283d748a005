-- `sentences::sentence` meets its contract: the sentence of each number is computed.
use Rattle.std.proofs.Common.{arith}
use Rattle.common.specs.Ascii.{ascii}
use Rattle.sentences.specs.Sentences.{sentence, sentences}
use Rattle.sentences.proofs.Unnumbered.{unnumbered}
use Rattle.sentences.proofs.sentence.Goals as goal

pub returns-in-1 : goal.returns-in-1
unfolding sentence sentences ascii
returns-in-1 c = rw c.in-1.is

pub returns-in-2 : goal.returns-in-2
unfolding sentence sentences ascii
returns-in-2 c = rw c.in-2.is

pub returns-in-3 : goal.returns-in-3
unfolding sentence sentences ascii
returns-in-3 c = rw c.in-3.is

pub returns-in-4 : goal.returns-in-4
unfolding sentence sentences ascii
returns-in-4 c = rw c.in-4.is

pub returns-in-5 : goal.returns-in-5
unfolding sentence sentences ascii
returns-in-5 c = rw c.in-5.is

pub returns-in-6 : goal.returns-in-6
unfolding sentence sentences ascii
returns-in-6 c = rw c.in-6.is

pub returns-in-7 : goal.returns-in-7
unfolding sentence sentences ascii
returns-in-7 c = rw c.in-7.is

pub returns-in-8 : goal.returns-in-8
unfolding sentence sentences ascii
returns-in-8 c = rw c.in-8.is

pub returns-in-9 : goal.returns-in-9
unfolding sentence sentences ascii
returns-in-9 c = rw c.in-9.is

pub returns-in-10 : goal.returns-in-10
unfolding sentence sentences ascii
returns-in-10 c = rw c.in-10.is

pub returns-in-11 : goal.returns-in-11
unfolding sentence sentences ascii
returns-in-11 c = rw c.in-11.is

pub returns-in-12 : goal.returns-in-12
unfolding sentence sentences ascii
returns-in-12 c = rw c.in-12.is

pub returns-in-13 : goal.returns-in-13
unfolding sentence sentences ascii
returns-in-13 c = rw c.in-13.is

pub returns-in-14 : goal.returns-in-14
unfolding sentence sentences ascii
returns-in-14 c = rw c.in-14.is

pub returns-in-15 : goal.returns-in-15
unfolding sentence sentences ascii
returns-in-15 c = rw c.in-15.is

pub returns-in-16 : goal.returns-in-16
unfolding sentence sentences ascii
returns-in-16 c = rw c.in-16.is

pub returns-in-17 : goal.returns-in-17
unfolding sentence sentences ascii
returns-in-17 c = rw c.in-17.is

pub returns-in-18 : goal.returns-in-18
unfolding sentence sentences ascii
returns-in-18 c = rw c.in-18.is

pub returns-in-19 : goal.returns-in-19
unfolding sentence sentences ascii
returns-in-19 c = rw c.in-19.is

pub returns-in-20 : goal.returns-in-20
unfolding sentence sentences ascii
returns-in-20 c = rw c.in-20.is

pub returns-in-21 : goal.returns-in-21
unfolding sentence sentences ascii
returns-in-21 c = rw c.in-21.is

pub returns-in-22 : goal.returns-in-22
unfolding sentence sentences ascii
returns-in-22 c = rw c.in-22.is

pub returns-in_default : goal.returns-in_default
returns-in_default c = unnumbered _ (λ p. omega arith)
