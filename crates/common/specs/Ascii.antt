-- Words as bytes.
use Rattle.std.specs.Prelude.{◌∷◌}
use Rattle.common.specs.Logic.{List, [], ℕ}
use Prim.Native.Char.{code}
use Prim.Native.String.{String, [] as end, ◌∷◌ as ◌then◌}

-- the code of each character; in ASCII that is its byte
unfoldable pub ascii : String → List ℕ
ascii end = []
ascii (c then s) = code c ∷ ascii s
