-- `raw_attribute_view::fill` meets its contract: the bytes that were copied, and those behind them.
use Rattle.std.specs.Prelude.{◌++◌}
use Rattle.common.specs.Logic.{◌∙◌, List, ℕ, ap, drop}
use Rattle.raw_attribute_view.proofs.Parts.{filled}
use Rattle.raw_attribute_view.proofs.fill.Goals as goal

pub returns : goal.returns
returns c =
    ap (λ (x : List ℕ). x ++ drop c.min-fitting.result c.args.part.now) c.copy_from_slice.ensures.after
    ∙ filled c.args.part.now c.args.value.now c.min-fitting.result c.min-fitting.ensures
