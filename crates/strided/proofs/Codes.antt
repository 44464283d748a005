-- The codes of a pair that is copy or cast: a scalar goes with a scalar, a Vec3 with a Vec3, any other code with itself.
use Rattle.std.specs.Prelude.{◌≡◌, ◌⊎◌, ◌≤◌, ◌<◌}
use Rattle.common.specs.Logic.{◌∙◌, true, false, inl, inr, ⊎_elim, arith}
use Rattle.common.proofs.Lists.{clash, decide}
use Rattle.datatype.specs.Datatype.{same_datatype}
use Rattle.datatype.specs.declared.datatype.Datatype.{Datatype}
use Rattle.pairs.specs.Pairs.{castable, is_known, pair_of, has_entry}
use Rattle.pairs.proofs.Castable.{scalar-pair, vec3-pair, cast-has}
use Rattle.pairs.proofs.PairRule.{same_codes, known-code}

module _ (f t : Datatype) (P : has_entry (pair_of f t) ≡ true) where
  either : (f.code ≡ t.code) ⊎ (castable f.code t.code ≡ true)
  either = ⊎_elim (λ e. inl (same_codes f t e)) (λ e. inr (cast-has f t e ∙ P)) (decide (same_datatype f t))

  pub scalar-to : f.code < 10 → t.code < 10
  scalar-to h = ⊎_elim (λ e. omega arith) (λ c. scalar-pair f.code t.code c h) either

  pub vec3-to : 10 ≤ f.code → f.code < 15 → (10 ≤ t.code) × (t.code < 15)
  vec3-to a b = ⊎_elim (λ e. (omega arith, omega arith)) (λ c. let v = vec3-pair f.code t.code c a in (v.1, v.2)) either

  pub own-code : 15 ≤ f.code → f.code ≡ t.code
  own-code h = ⊎_elim (λ e. e) (λ c. absurd (omega (arith, (vec3-pair f.code t.code c (omega arith)).0))) either

  known : is_known f ≡ true
  unfolding pair_of
  known = ⊎_elim (λ k. k) (λ (k : is_known f ≡ false). clash P (rw k)) (decide (is_known f))

  pub listed : f.code ≤ 17
  listed = known-code f known
