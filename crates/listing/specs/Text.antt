-- Document 01, section Sheets: what `scanplan` prints, as bytes in ASCII.
use Rattle.std.specs.Prelude.{◌∷◌, ◌++◌, ◌+◌, ◌%◌, ◌/◌}
use Rattle.common.specs.Logic.{cond, not, List, [], flat_map, ℕ, suc, zero, leb, ltb, length, drop}
use Rattle.common.specs.Ascii.{ascii}
use Rattle.common.specs.Refusal.{Outcome, got, refused, line as refusal, check, left_by, and_then}
use Rattle.datatype.specs.Datatype.{size_of}
use Rattle.layout.specs.Layout.{Attribute, at, Layout}
use Rattle.pairs.specs.Pairs.{pair_of}
use Rattle.pairs.specs.declared.pair.Pair.{Pair}
use Rattle.pairs.specs.declared.pair.Pair.TheVariants.{Copy, Cast, Nothing}
use Rattle.plans.specs.Plan.{Plan, is_sound_plan}
use Rattle.plans.specs.declared.plan.Mapping.{Mapping}

-- ---- numbers

-- hex 30 is `0`
abbrev pub digit : ℕ → ℕ
digit d = 0x30 + d

-- the decimal digits of a number that has at most k of them, the most significant first, with no zero in front
unfoldable pub digits_within : ℕ → ℕ → List ℕ
digits_within zero n = []
digits_within (suc k) n = cond (ltb n 10) (digit n ∷ []) (digits_within k (n / 10) ++ (digit (n % 10) ∷ []))

-- no number n has more than n + 1 digits
unfoldable pub digits : ℕ → List ℕ
digits n = digits_within (suc n) n

-- ---- words

abbrev pub source_word : List ℕ
source_word = ascii "source"

abbrev pub target_word : List ℕ
target_word = ascii "target"

abbrev pub refused_word : List ℕ
refused_word = ascii "refused"

-- a sound plan has no third pair
unfoldable pub pair_word : Pair → List ℕ
pair_word Copy = ascii "copy"
pair_word Cast = ascii "cast"
pair_word Nothing = []

-- ---- lines

-- parts with one space (hex 20) between two, and a line feed (hex 0A) at the end
unfoldable pub line : List ℕ → List (List ℕ) → List ℕ
line part [] = part ++ (0x0a ∷ [])
line part (next ∷ parts) = part ++ (0x20 ∷ line next parts)

-- `source 2 4 2`: attributes, point size, alignment
unfoldable pub layout_line : List ℕ → Layout → List ℕ
layout_line word l = line word (digits (length l.attributes) ∷ digits l.size ∷ digits l.alignment ∷ [])

-- `0 2 4 4 cast P`: source offset, source size, target offset, target size, copy or cast, target name
unfoldable pub pair_line : Attribute → Attribute → List ℕ
pair_line a b =
    line (digits a.offset)
    (digits (size_of a.definition.datatype)
    ∷ digits b.offset
    ∷ digits (size_of b.definition.datatype)
    ∷ pair_word (pair_of a.definition.datatype b.definition.datatype)
    ∷ b.definition.name
    ∷ [])

-- of the attributes at a mapping's places
unfoldable pub mapping_line : Layout → Layout → Mapping → List ℕ
mapping_line source target x = pair_line (at source.attributes x.source) (at target.attributes x.target)

-- ---- the listing

-- of a plan: the two layouts, and then each mapping
unfoldable pub plan_lines : Plan → List ℕ
plan_lines p =
    layout_line source_word p.source ++ (layout_line target_word p.target ++ flat_map (mapping_line p.source p.target) p.mappings)

-- of a refusal: `refused N` and no other line
unfoldable pub refusal_line : ℕ → List ℕ
refusal_line n = line refused_word (digits n ∷ [])

-- what `scanplan` prints of the plan that its input gives, or of the refusal
unfoldable pub printed : Outcome Plan → List ℕ
printed (got p) = plan_lines p
printed (refused n) = refusal_line n

-- ---- handed over in a lent text

-- a lent text after a listing: where it fits whole, it stands at the start and every byte after it is as before; else nothing changed
unfoldable pub handed : List ℕ → List ℕ → List ℕ
handed text l = cond (leb (length l) (length text)) (l ++ drop (length l) text) text

-- after a call that gives a listing or is refused; a refusal leaves the text as it was
unfoldable pub text_left : List ℕ → Outcome (List ℕ) → List ℕ
text_left text o = left_by text (and_then o (λ l. got (handed text l)))

-- the listing of a plan that is handed in; 1 where it is not sound
unfoldable pub listing : Plan → Outcome (List ℕ)
listing p = check (refusal 1 (not (is_sound_plan p)) ∷ []) (plan_lines p)

-- document 01's number, or how long the listing is
unfoldable pub listed_answer : Outcome (List ℕ) → Outcome ℕ
listed_answer (got l) = got (length l)
listed_answer (refused n) = refused n

-- the length in an answer
abbrev pub length_in : Outcome ℕ → ℕ
length_in (got n) = n
length_in (refused n) = 0
