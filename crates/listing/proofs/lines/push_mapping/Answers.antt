-- `push_mapping` meets its contract: its parts are those of the line.
use Rattle.common.specs.Logic.{◌∙◌, ap, arith}
use Rattle.listing.specs.Text.{pair_word}
use Rattle.listing.proofs.Parts.{mapping_put, whole_name}
use Rattle.listing.proofs.lines.push_mapping.Goals as goal

pub push_next_word-requires-2 : goal.push_next_word-requires-2
push_next_word-requires-2 c = omega (arith, (whole_name c.args.target.now.attribute_definition c.requires.0 c.name_bytes.ensures).1)

pub push_byte-requires : goal.push_byte-requires
push_byte-requires c = omega (arith, (whole_name c.args.target.now.attribute_definition c.requires.0 c.name_bytes.ensures).1)

pub returns : goal.returns
returns c =
    let name = whole_name c.args.target.now.attribute_definition c.requires.0 c.name_bytes.ensures in
    record {
      line =
          mapping_put c.args.source.now c.args.target.now _ _ _ _ _ _ _ _ _ _ _ _ c.size_of.ensures c.size_of-2.ensures (c.pair_word.ensures.word ∙ ap pair_word c.pair_of.ensures) name.0
          c.push_number.ensures.bytes c.push_next_number.ensures.bytes c.push_next_number-2.ensures.bytes c.push_next_number-3.ensures.bytes c.push_next_word.ensures.bytes c.push_next_word-2.ensures.bytes c.push_byte.ensures.bytes;
      size = omega arith;
    }
