-- `buffer_conversion::convert::place_of` meets its contract.
use Rattle.buffer_conversion.proofs.Lists.{interleaved-place, column-place}
use Rattle.buffer_conversion.proofs.convert.place_of.Goals as goal

pub returns-in-Interleaved : goal.returns-in-Interleaved
returns-in-Interleaved c = interleaved-place c.args.member c.args.size c.args.before c.args.range.count c.args.range.start c.in-Interleaved.is

pub returns-in-Columns : goal.returns-in-Columns
returns-in-Columns c = column-place c.args.member c.args.size c.args.before c.args.range.count c.args.range.start c.in-Columns.is c.size_of-stride.ensures
