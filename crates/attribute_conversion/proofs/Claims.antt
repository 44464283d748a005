-- The claims of specs/Claims.antt, proved.
use Rattle.attribute_conversion.specs.Claims.{ReadBack, Copied, CastLength, ByComponent}
use Rattle.attribute_conversion.proofs.LittleEndian as bytes
use Rattle.attribute_conversion.proofs.Sizes as sizes

pub read_back : ReadBack
read_back = bytes.read_back

pub copied : Copied
copied = sizes.copied

pub cast-length : CastLength
cast-length = sizes.length-cast

pub by-component : ByComponent
by-component = sizes.by-component
