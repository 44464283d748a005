-- The numbers that have no sentence: 0, and those past the last.
use Rattle.std.specs.Prelude.{◌≡◌, ◌≤◌, ◌<◌}
use Rattle.common.specs.Logic.{sym, ap, [], ℕ, zero, suc, get_or-eq_default, arith, refl}
use Rattle.common.specs.Ascii.{ascii}
use Rattle.sentences.specs.Sentences.{sentences, sentence}

pub unnumbered : (number : ℕ) → (0 < number → 23 ≤ number) → [] ≡ sentence number
unfolding sentence sentences ascii
unnumbered zero h = refl
unnumbered (suc n) h = ap ascii (sym (get_or-eq_default sentences "" (h (omega arith))))
