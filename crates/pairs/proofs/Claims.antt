-- The claims of specs/Claims.antt, proved.
use Rattle.std.specs.Prelude.{◌≡◌, ◌&&◌}
use Rattle.common.specs.Logic.{◌∙◌, sym, refl, true, Bool, false, cond, not, and-true, ⊎_elim, ℕ, ne_eqb, eqb}
use mathlib.Core.Bool.{and-false}
use Rattle.common.specs.Lists.{all}
use Rattle.common.specs.Refusal.{not_holding, passes}
use Rattle.common.proofs.Lists.{decide}
use Rattle.datatype.specs.Datatype.{same_custom, same_datatype, datatype_lines}
use Rattle.datatype.specs.declared.datatype.Datatype.{Datatype}
use Rattle.datatype.proofs.Properties.{customs-only}
use Rattle.pairs.specs.Claims.{PairCounts, CustomPairsClaim}
use Rattle.pairs.specs.Pairs.{castable, is_known, pair_of, count_of}
use Rattle.pairs.specs.declared.pair.Pair.{Pair}
use Rattle.pairs.specs.declared.pair.Pair.TheVariants.{Copy, Cast, Nothing}
use Rattle.pairs.proofs.PairRule.{any-count}

pub pair-counts : PairCounts
unfolding count_of pair_of same_custom same_datatype datatype_lines passes all not_holding
pair-counts d h = (any-count d Copy 324 h, any-count d Cast 324 h, any-count d Nothing 324 h)

-- ---- Customs

known : (d : Datatype) → d.code ≡ 17 → is_known d ≡ not (eqb d.n 0)
unfolding datatype_lines passes all not_holding
known d e = rw (e, and-true)

not-cast : (c : ℕ) → (castable 17 c ≡ false) × (castable c 17 ≡ false)
not-cast c = (simp and-false, simp and-false)

equal : (a b : Datatype) → a.code ≡ 17 → b.code ≡ 17 → same_datatype a b ≡ same_custom a b
unfolding same_datatype
equal a b A B = rw (A, B)

unequal : (a b : Datatype) → (a.code ≡ b.code → ⊥) → same_datatype a b ≡ false
unfolding same_datatype
unequal a b h = rw (ne_eqb _ _ h)

neither : (k : Bool) → ◌≡◌ {A = Pair} (cond k Nothing Nothing) Nothing
neither true = refl
neither false = refl

own : (a b : Datatype) → a.code ≡ 17 → b.code ≡ 17 → pair_of a b ≡ cond (same_custom a b && not (eqb a.n 0)) Copy Nothing
unfolding pair_of
own a b A B =
    let c : castable a.code b.code ≡ false = rw A (not-cast b.code).0 in
    rw (known a A, known b B, equal a b A B, c)
    (⊎_elim (λ (s : same_custom a b ≡ true). rw (s, ← sizes s) (copied (not (eqb a.n 0)))) (λ (s : same_custom a b ≡ false). rw s (neither (not (eqb a.n 0) && not (eqb b.n 0)))) (decide (same_custom a b)))
  where
    sizes : same_custom a b ≡ true → a.n ≡ b.n
    sizes s = (customs-only a b s).size

    copied : (k : Bool) → ◌≡◌ {A = Pair} (cond (k && k) Copy Nothing) (cond k Copy Nothing)
    copied true = refl
    copied false = refl

nothing : (a b : Datatype) → same_datatype a b ≡ false → castable a.code b.code ≡ false → pair_of a b ≡ Nothing
unfolding pair_of
nothing a b s c = rw (s, c) (neither (is_known a && is_known b))

others : (a b : Datatype) → a.code ≡ 17 → (b.code ≡ 17 → ⊥) → (pair_of a b ≡ Nothing) × (pair_of b a ≡ Nothing)
others a b e n = (
  nothing a b (unequal a b (λ z. n (sym z ∙ e))) (rw e (not-cast b.code).0),
  nothing b a (unequal b a (λ z. n (z ∙ e))) (rw e (not-cast b.code).1),
)

pub custom-pairs-claim : CustomPairsClaim
custom-pairs-claim = record { own = own; others = others }
