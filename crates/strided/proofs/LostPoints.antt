-- How many components are lost over the points.
use Rattle.std.specs.Prelude.{◌≡◌, ◌≤◌, ◌<◌, ◌+◌, ◌-◌, ◌*◌, ◌^◌}
use Rattle.common.specs.Logic.{◌∙◌, sym, ap, refl, ap₂, true, Bool, cond, List, ⊎_elim, ℕ, arith, take, drop, length}
use Rattle.common.specs.Lists.{sum_below}
use Rattle.common.proofs.Lists.{decide}
use Rattle.common.proofs.Stores.{part_length}
use Rattle.common.proofs.Sums.{sum_more, sum-le, sum-zero, sum-apart}
use Rattle.datatype.specs.Datatype.{same_datatype, size_of}
use Rattle.attribute_conversion.specs.Attributes.{cast_fits}
use Rattle.attribute_conversion.specs.Lost.{lost_in}
use Rattle.attribute_conversion.proofs.Lost.{lost-in-few}
use Rattle.attribute_conversion.proofs.Sizes.{by-entry, differ}
use Rattle.pairs.specs.Pairs.{pair_of, has_entry}
use Rattle.pairs.proofs.PairRule.{has-entry}
use Rattle.writes.specs.Writes.{begins}
use Rattle.writes.proofs.Hits.{starts-at}
use Rattle.strided.specs.Steps.{RunFits, ReadFits}
use Rattle.strided.specs.Strided.{lost_at, lost_points, points_from}
use Rattle.strided.specs.declared.StridedCast.{StridedCast}

-- where the points fit, they can be read
pub reads : (c : StridedCast) (n a b : ℕ) → n < 2 ^ 32 → RunFits c n a b → ReadFits c n a
reads c n a b l F = record { few = l; pair = F.pair; source = F.source }

-- ---- the loop

module _ (c : StridedCast) (src : List ℕ) where
  at-few : (i : ℕ) → lost_at c src i ≤ 3
  unfolding lost_at
  at-few i = lost-in-few c.from c.to _

  -- at most three of each point
  pub lost-points-few : (n : ℕ) → lost_points c src n ≤ n * 3
  unfolding lost_points
  lost-points-few n = sum-le (lost_at c src) 3 n at-few

  pub lost-none : lost_points c src 0 ≡ 0
  unfolding lost_points sum_below
  lost-none = refl

  -- one point more: its attribute was handed on with as many bytes as its datatype has
  pub lost-next : (i : ℕ) {l r s z : ℕ} → has_entry (pair_of c.from c.to) ≡ true → l ≡ lost_points c src i → s ≡ begins c.source i → z ≡ size_of c.from → s + z ≤ length src
      → r ≡ cond (cast_fits c.from c.to (length (take (s + z - s) (drop s src))) (size_of c.to)) (lost_in c.from c.to (take (s + z - s) (drop s src))) 0
      → l + r ≡ lost_points c src (i + 1)
  unfolding lost_points lost_at
  lost-next i {l} {r} {s} {z} P L S Z room R =
      let e : s + z - s ≡ size_of c.from = omega (arith, Z) in
      let y : cast_fits c.from c.to (length (take (s + z - s) (drop s src))) (size_of c.to) ≡ true = sym (by-entry c.from c.to _ _ (part_length s z src room ∙ Z) refl) ∙ P in
      ap₂ ◌+◌ L
      (R ∙ ap (λ (b : Bool). cond b (lost_in c.from c.to (take (s + z - s) (drop s src))) 0) y ∙ ap₂ (λ (k m : ℕ). lost_in c.from c.to (take k (drop m src))) e S)
      ∙ sym (sum_more (lost_at c src) i)

  -- equal codes are copied
  pub copy-loses-none : has_entry (pair_of c.from c.to) ≡ true → c.from.code ≡ c.to.code → (n : ℕ) → 0 ≡ lost_points c src n
  unfolding lost_points lost_at lost_in
  copy-loses-none P e n =
      let y : same_datatype c.from c.to ≡ true = ⊎_elim (λ t. t) (λ f. absurd (differ c.from c.to (has-entry P) f e)) (decide (same_datatype c.from c.to)) in
      sym (sum-zero (lost_at c src) n (λ i. rw y))

  -- d points, and then n more
  pub lost-apart : (d n : ℕ) → lost_points c src (d + n) ≡ lost_points c src d + lost_points (points_from d c) src n
  unfolding lost_points lost_at
  lost-apart d n = sum-apart (lost_at c src) (lost_at (points_from d c) src) d n (λ i l. ap (λ (m : ℕ). lost_in c.from c.to (take (size_of c.from) (drop m src))) (starts-at c.source d i))
