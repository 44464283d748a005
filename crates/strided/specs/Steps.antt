-- What the private loops over casts ask for and leave; no public contract cites it.
use Rattle.std.specs.Prelude.{◌≡◌, ◌&&◌, ◌≤◌, ◌<◌, ◌+◌, ◌^◌}
use Rattle.common.specs.Logic.{true, Bool, List, map, ℕ, suc, zero, eqb, length, get_or}
use Rattle.std.proofs.lemmas.List.Edits.{sets}
use Rattle.datatype.specs.Datatype.{plain, same_datatype, size_of}
use Rattle.pairs.specs.Pairs.{pair_of, has_entry}
use Rattle.writes.specs.Claims.{DisjointWrites}
use Rattle.writes.specs.Writes.{begins}
use Rattle.strided.specs.Strided.{value_of, as_write}
use Rattle.strided.specs.declared.StridedCast.{StridedCast}

-- what stands past the end of a list of casts
abbrev pub no_cast : StridedCast
no_cast =
    record {
      from = plain 0;
      to = plain 0;
      source = record { base = 0; stride = 0 };
      target = record { base = 0; stride = 0 };
    }

abbrev pub cast_at : List StridedCast → ℕ → StridedCast
cast_at cs j = get_or cs j no_cast

-- the target after the first n points, stored one after the other
unfoldable pub stored : StridedCast → List ℕ → ℕ → List ℕ → List ℕ
stored c src zero t = t
stored c src (suc i) t = sets (stored c src i t) (begins c.target i) (value_of c src i)

-- the datatypes are equal, and the attributes lie one after another on both sides, without a gap
unfoldable pub is_gapless : StridedCast → Bool
is_gapless c = same_datatype c.from c.to && (eqb c.source.stride (size_of c.from) && eqb c.target.stride (size_of c.from))

-- the pair is copy or cast, and n points lie within a source of a bytes and a target of b
pub record RunFits (c : StridedCast) (n a b : ℕ) : Type 0 where
  pub pair : has_entry (pair_of c.from c.to) ≡ true
  pub source : (i : ℕ) → i < n → begins c.source i + size_of c.from ≤ a
  pub target : (i : ℕ) → i < n → begins c.target i + size_of c.to ≤ b

-- the pair is copy or cast, and n points, fewer than a 32-bit number counts, lie within a source of a bytes
pub record ReadFits (c : StridedCast) (n a : ℕ) : Type 0 where
  pub few : n < 2 ^ 32
  pub pair : has_entry (pair_of c.from c.to) ≡ true
  pub source : (i : ℕ) → i < n → begins c.source i + size_of c.from ≤ a

-- n points of each cast lie within a source of a bytes and a target of b, and whatever the source, no byte of the target is written twice
pub record CastsFit (cs : List StridedCast) (n a b : ℕ) : Type 0 where
  pub disjoint : (src : List ℕ) → DisjointWrites (map (as_write src) cs) n b
  pub fits : (j : ℕ) → j < length cs → RunFits (cast_at cs j) n a b
