-- What a reader may believe of the pair rule beyond the contract; proved in proofs/Claims.antt.
use Rattle.std.specs.Prelude.{◌≡◌, ◌&&◌, ◌<◌}
use Rattle.common.specs.Logic.{cond, not, eqb}
use Rattle.datatype.specs.Datatype.{same_custom}
use Rattle.datatype.specs.declared.datatype.Datatype.{Datatype}
use Rattle.pairs.specs.Pairs.{pair_of, count_of}
use Rattle.pairs.specs.declared.pair.Pair.TheVariants.{Copy, Cast, Nothing}

-- 18, 110 and 196 of the 324 entries are copy, cast and nothing, where the two ByteArrays are equal and so are the two Customs, whichever they
-- are
abbrev pub PairCounts : Type 0
PairCounts = (d : Datatype) → 0 < d.n → (count_of d Copy 324 ≡ 18) × (count_of d Cast 324 ≡ 110) × (count_of d Nothing 324 ≡ 196)

-- a Custom is copied into an equal one, and pairs with no other code; one of size 0 has nothing
pub record CustomPairsClaim : Type 0 where
  pub own : (a b : Datatype) → a.code ≡ 17 → b.code ≡ 17 → pair_of a b ≡ cond (same_custom a b && not (eqb a.n 0)) Copy Nothing
  pub others : (a b : Datatype) → a.code ≡ 17 → (b.code ≡ 17 → ⊥) → (pair_of a b ≡ Nothing) × (pair_of b a ≡ Nothing)
