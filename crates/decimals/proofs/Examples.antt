-- Every example is as it says: one computation over the definitions.
use Rattle.common.specs.Logic.{refl}
use Rattle.common.specs.Ascii.{ascii}
use Rattle.common.specs.Lists.{all}
use lib.Count.{count_trailing_zeros}
use lib.Ieee.{span, climb, size, odd, units, round, to_bits}
use Rattle.decimals.specs.Decimals.{is_digit, before_point, after_point, number_from, value_of, are_digits, decimal_by, unsigned_of, decimal_of}
use Rattle.decimals.specs.Examples.{found, told, examples, joined, answer_found, answer_told, patterns_found, patterns_told, text_examples, ExamplesHold}
use Rattle.decimals.specs.Numbers.{last_line, with_word, words_from, words_of, after_words, numbers_of}

pub examples-hold : ExamplesHold
unfolding found told examples joined answer_found answer_told patterns_found patterns_told text_examples decimal_of unsigned_of decimal_by are_digits value_of number_from before_point after_point is_digit all ascii numbers_of after_words words_of words_from with_word last_line round units odd size span climb to_bits count_trailing_zeros
examples-hold = record { decimals = refl; answers = refl; numbers = refl }
