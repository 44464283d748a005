-- `decimals::read_numbers` meets its contract: what is read of the words so far, and then of the rest of the text, is read of the whole text.
use Rattle.std.specs.Prelude.{Ok}
use Rattle.decimals.specs.Numbers.{last_line, words_of, none_read, after_words}
use Rattle.decimals.proofs.Words.{Kept}
use Rattle.decimals.proofs.read_numbers.Given as goal

abbrev pub invariant-loop-i : goal.invariant-loop-i
invariant-loop-i l =
    Kept l.form l.text (after_words l.form (Ok none_read) (words_of l.form l.text)) (last_line 1 l.text) l.i l.reading l.line l.start
