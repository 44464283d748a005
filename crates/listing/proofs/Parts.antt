-- Parts put at the end of a text one after the other: a number's digits, and the lines.
use Rattle.std.specs.Prelude.{◌≡◌, ◌∷◌, ◌++◌, ◌≤◌, ◌<◌, ◌/◌, ◌%◌}
use Rattle.common.specs.Logic.{◌∙◌, ap, List, [], append_assoc, ℕ, arith, min, mod-eq_of_lt, length}
use Rattle.common.specs.Lists.{first}
use Rattle.common.proofs.Lists.{length-first}
use Rattle.datatype.specs.Datatype.{size_of}
use Rattle.layout.specs.Records.{definition_of, attribute_of, layout_of}
use Rattle.layout.specs.declared.point_layout.PointAttributeDefinition.{PointAttributeDefinition}
use Rattle.layout.specs.declared.point_layout.PointAttributeMember.{PointAttributeMember}
use Rattle.layout.specs.declared.point_layout.PointLayout.{PointLayout}
use Rattle.layout.proofs.Listed.{length-listed}
use Rattle.pairs.specs.Pairs.{pair_of}
use Rattle.listing.specs.Text.{digit, digits, pair_word, refused_word, line, layout_line, pair_line, refusal_line}
use Rattle.listing.proofs.Digits.{one-digit, more-digits}

-- one part put after another is both put as one
join : (t p q : List ℕ) {u v : List ℕ} → u ≡ t ++ p → v ≡ u ++ q → v ≡ t ++ (p ++ q)
join t p q a b = rw (b, a) (append_assoc t p q)

pub digit_put : (n : ℕ) (t u v : List ℕ) → n < 10 → u ≡ t → v ≡ u ++ (digit (n % 10) ∷ []) → v ≡ t ++ digits n
digit_put n t u v h a b = b ∙ rw (a, one-digit n h, mod-eq_of_lt h)

pub digits_put : (n : ℕ) (t u v : List ℕ) → 10 ≤ n → u ≡ t ++ digits (n / 10) → v ≡ u ++ (digit (n % 10) ∷ []) → v ≡ t ++ digits n
digits_put n t u v h a b = rw (more-digits n h) (join t _ _ a b)

pub refusal_put : (n k : ℕ) (t u v w : List ℕ) → k ≡ n → u ≡ t ++ refused_word → v ≡ u ++ (0x20 ∷ digits k) → w ≡ v ++ (0x0a ∷ []) → w ≡ t ++ refusal_line n
unfolding refusal_line line
refusal_put n k t u v w e a b c = rw (← e) (join t _ _ a (join u _ _ b c))

pub layout_put : (l : PointLayout) (word : List ℕ) (n : ℕ) (t u v w x y : List ℕ) → n ≡ l.count → u ≡ t ++ word → v ≡ u ++ (0x20 ∷ digits n) → w ≡ v ++ (0x20 ∷ digits l.size)
    → x ≡ w ++ (0x20 ∷ digits l.alignment) → y ≡ x ++ (0x0a ∷ []) → y ≡ t ++ layout_line word (layout_of l)
unfolding layout_line layout_of line
layout_put l word n t u v w x y k a b c d e =
    rw (length-listed l.attributes l.count, ← k) (join t _ _ a (join u _ _ b (join v _ _ c (join w _ _ d e))))

-- a name of at most 31 bytes is whole
pub whole_name : (d : PointAttributeDefinition) {name : List ℕ} → d.name_len ≤ 31 → name ≡ first 0 d.name (min d.name_len 31) → (name ≡ (definition_of d).name) × (length name ≤ 31)
unfolding definition_of
whole_name d {name} h e =
    let m : min d.name_len 31 ≡ d.name_len = omega arith in
    (e ∙ ap (first 0 d.name) m, omega (arith, ap length e, length-first 0 d.name (min d.name_len 31)))

-- from a member onto a member, their sizes, the word of their pair and the name worked out
pub mapping_put : (m k : PointAttributeMember) (s z : ℕ) (pair name t a b c d e f g : List ℕ)
    → s ≡ size_of m.attribute_definition.datatype → z ≡ size_of k.attribute_definition.datatype
    → pair ≡ pair_word (pair_of m.attribute_definition.datatype k.attribute_definition.datatype) → name ≡ (definition_of k.attribute_definition).name
    → a ≡ t ++ digits m.offset → b ≡ a ++ (0x20 ∷ digits s) → c ≡ b ++ (0x20 ∷ digits k.offset) → d ≡ c ++ (0x20 ∷ digits z)
    → e ≡ d ++ (0x20 ∷ pair) → f ≡ e ++ (0x20 ∷ name) → g ≡ f ++ (0x0a ∷ []) → g ≡ t ++ pair_line (attribute_of m) (attribute_of k)
unfolding pair_line line attribute_of definition_of
mapping_put m k s z pair name t a b c d e f g es ez ep en ha hb hc hd he hf hg =
    rw (← es, ← ez, ← ep, ← en) (join t _ _ ha (join a _ _ hb (join b _ _ hc (join c _ _ hd (join d _ _ he (join e _ _ hf hg))))))
