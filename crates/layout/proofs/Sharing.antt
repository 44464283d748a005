-- A given list is refused for sharing exactly where no earlier line holds and two of its attributes share a byte.
use Rattle.std.specs.Prelude.{◌≡◌, ◌∷◌}
use Rattle.common.specs.Logic.{◌∙◌, sym, refl, true, Bool, false, not, List, [], flat_map, ⊎_elim, ℕ, arith, le-ltb, leb-true, ltb-false, leb, length}
use Rattle.common.specs.Lists.{all, pairwise}
use Rattle.common.specs.Refusal.{line, refused, answer, outcome, check, or_else, passes}
use Rattle.common.specs.Refusal.{Answer}
use Rattle.common.specs.Refusal.{Accepted, Refused}
use Rattle.common.proofs.Lists.{decide, all-flat_map}
use Rattle.common.proofs.Refusals.{numbered, refused-cons, answer-number, answer-append, passes-accepted, accepted-passes, passes-flat_map, check-refused}
use Rattle.datatype.specs.Datatype.{datatype_lines}
use Rattle.layout.specs.Claims.{OnlyShares, SharingClaim, Shares}
use Rattle.layout.specs.Layout.{Attribute, definition_lines, attribute_lines, good_attribute, disjoint}
use Rattle.layout.specs.Makers.{layout_lines, given, given_lines, from_members}
use Rattle.layout.proofs.Bytes.{unshared, shared}

-- a byte that lies in two attributes, so they are not all disjoint
not-disjoint : (xs : List Attribute) → Shares xs → pairwise disjoint xs ≡ false
not-disjoint xs s =
    ⊎_elim (λ e. absurd (unshared xs e s.one s.other s.byte s.one-listed s.other-listed s.two s.in_one s.in-other))
    (λ e. e) (decide (pairwise disjoint xs))

good-passes : (xs : List Attribute) → passes (flat_map attribute_lines xs) ≡ all good_attribute xs
unfolding good_attribute
good-passes xs = passes-flat_map attribute_lines good_attribute xs (λ x. refl)

refuses : (xs : List Attribute) (a : ℕ) → OnlyShares xs → from_members xs a ≡ refused 9
unfolding from_members given_lines check answer outcome layout_lines given or_else
refuses xs a o =
    rw (le-ltb 32 (length xs) o.few, answer-append (flat_map attribute_lines xs) (layout_lines (given xs a)), passes-accepted (flat_map attribute_lines xs) (good-passes xs ∙ o.good), o.names, not-disjoint xs o.shares)

-- ---- and only then

-- the lines of an attribute have the numbers 4 to 6
early : ℕ → Bool
early n = leb n 6

lines-early : (xs : List Attribute) → all (numbered early) (flat_map attribute_lines xs) ≡ true
unfolding all numbered early attribute_lines definition_lines datatype_lines
lines-early xs = all-flat_map (numbered early) attribute_lines xs (λ x. refl)

-- an answer to the attributes' lines that is 9 comes from the lines after them
later : (a b : Answer) → ((n : ℕ) → a ≡ Refused n → early n ≡ true) → or_else a b ≡ Refused 9 → (a ≡ Accepted) × (b ≡ Refused 9)
unfolding or_else early
later Accepted b h e = (refl, e)
later (Refused n) b h e = absurd (let k : n ≡ 9 = cc in let l = leb-true n 6 (h n refl) in omega arith)

-- 9 among the lines 8 to 11
nine : (n s p z : Bool) → answer (line 8 (not n) ∷ line 9 (not s) ∷ line 10 p ∷ line 11 z ∷ []) ≡ Refused 9 → (n ≡ true) × (s ≡ false)
unfolding answer
nine true false p z h = (refl, refl)
nine false s p z h = absurd (let q : ◌≡◌ {A = ℕ} 8 9 = cc in omega arith)
nine true true true z h = absurd (let q : ◌≡◌ {A = ℕ} 10 9 = cc in omega arith)
nine true true false true h = absurd (let q : ◌≡◌ {A = ℕ} 11 9 = cc in omega arith)
nine true true false false h = absurd (let q : ◌≡◌ {A = ℕ} 0 1 = cc in omega arith)

only : (xs : List Attribute) (a : ℕ) → from_members xs a ≡ refused 9 → OnlyShares xs
unfolding from_members given_lines layout_lines given
only xs a h =
    let f = refused-cons _ _ _ (check-refused _ _ h) (λ e. omega arith) in
    let l = later _ _ (λ n. answer-number early (flat_map attribute_lines xs) (lines-early xs)) (sym (answer-append (flat_map attribute_lines xs) (layout_lines (given xs a))) ∙ f.1) in
    let n = nine _ _ _ _ l.1 in
    record {
      few = ltb-false _ _ f.0;
      good = sym (good-passes xs) ∙ accepted-passes _ l.0;
      names = n.0;
      shares = shared xs n.1;
    }

pub sharing-claim : SharingClaim
sharing-claim = record { refuses = refuses; only = only }
