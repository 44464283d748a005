-- What a reader has to believe of plans, each claim whole, with its conditions; the proofs are in proofs/.
use Rattle.std.specs.Prelude.{◌≡◌, ◌∷◌, ◌++◌, ◌⊎◌, ◌<◌}
use Rattle.common.specs.Logic.{true, [], ℕ, length, get_or}
use Rattle.common.specs.Refusal.{Outcome, got, refused}
use Rattle.datatype.specs.Claims.{EqualCodes}
use Rattle.datatype.specs.declared.datatype.Datatype.{Datatype}
use Rattle.layout.specs.Layout.{at, Layout, is_sound}
use Rattle.layout.specs.Makers.{empty_layout}
use Rattle.layout.specs.Records.{layout_of}
use Rattle.layout.specs.declared.point_layout.PointLayout.{PointLayout}
use Rattle.pairs.specs.Pairs.{pair_of}
use Rattle.pairs.specs.declared.pair.Pair.{Pair}
use Rattle.pairs.specs.declared.pair.Pair.TheVariants.{Nothing}
use Rattle.plans.specs.Makers.{for_layouts, for_layouts_with_default, set_custom_mapping}
use Rattle.plans.specs.Plan.{Plan, is_sound_plan}
use Rattle.plans.specs.Records.{no_mapping, plan_of, empty_plan, for_layouts_answer, with_default_answer, custom_answer}
use Rattle.plans.specs.declared.plan.Mapping.{Mapping}
use Rattle.plans.specs.declared.plan.Plan.{Plan as PlanRecord}

-- ---- sound plans

-- the k-th mapping, counted from 0
abbrev pub mapping_at : Plan → ℕ → Mapping
mapping_at p k = get_or p.mappings k no_mapping

-- the pair of the source attribute at place i with the target attribute at place j: copy, cast or nothing
abbrev pub pair_between : Layout → Layout → ℕ → ℕ → Pair
pair_between l m i j = pair_of (at l.attributes i).definition.datatype (at m.attributes j).definition.datatype

-- document 01's sound, fact by fact
pub record Facts (p : Plan) : Type 0 where
  pub source : is_sound p.source ≡ true
  pub target : is_sound p.target ≡ true
  pub source-listed : (k : ℕ) → k < length p.mappings → (mapping_at p k).source < length p.source.attributes
  pub target-listed : (k : ℕ) → k < length p.mappings → (mapping_at p k).target < length p.target.attributes
  pub distinct :
      (i k : ℕ) → i < length p.mappings → k < length p.mappings → (i ≡ k → ⊥) → (mapping_at p i).target ≡ (mapping_at p k).target → ⊥
  pub pair :
      (k : ℕ) → k < length p.mappings → pair_between p.source p.target (mapping_at p k).source (mapping_at p k).target ≡ Nothing → ⊥

-- a plan is sound exactly where all of them hold
pub record SoundClaim : Type 0 where
  pub has : (p : Plan) → is_sound_plan p ≡ true → Facts p
  pub from : (p : Plan) → Facts p → is_sound_plan p ≡ true

-- the datatypes that the k-th mapping joins
abbrev pub source_type : Plan → ℕ → Datatype
source_type p k = (at p.source.attributes (mapping_at p k).source).definition.datatype

abbrev pub target_type : Plan → ℕ → Datatype
target_type p k = (at p.target.attributes (mapping_at p k).target).definition.datatype

-- document 02, point 9: a mapping of a sound plan from or onto a Custom joins two equal ones
abbrev pub CustomMappingClaim : Type 0
CustomMappingClaim =
    (p : Plan) → is_sound_plan p ≡ true → (k : ℕ) → k < length p.mappings → ((source_type p k).code ≡ 17) ⊎ ((target_type p k).code ≡ 17)
    → EqualCodes (source_type p k) (target_type p k)

-- every accepted plan is sound
pub record MakersClaim : Type 0 where
  pub all : (l m : Layout) (p : Plan) → for_layouts l m ≡ got p → is_sound_plan p ≡ true
  pub with-default : (l m : Layout) (p : Plan) → for_layouts_with_default l m ≡ got p → is_sound_plan p ≡ true
  pub custom : (p q : Plan) (i j : ℕ) → set_custom_mapping p i j ≡ got q → is_sound_plan q ≡ true

-- ---- `for_layouts` maps every target attribute by name

-- the source attribute at place i and the target attribute at place j are listed and have one name
pub record SameNamed (l m : Layout) (i j : ℕ) : Type 0 where
  pub source-listed : i < length l.attributes
  pub target-listed : j < length m.attributes
  pub names : (at l.attributes i).definition.name ≡ (at m.attributes j).definition.name

-- the target attribute at place j has a source attribute of its name, and the pair is copy or cast
pub record Mappable (l m : Layout) (j : ℕ) : Type 0 where
  pub place : ℕ
  pub same-named : SameNamed l m place j
  pub pair : pair_between l m place j ≡ Nothing → ⊥

-- target place after target place, each from a source attribute of the same name
pub record EveryMapped (l m : Layout) (p : Plan) : Type 0 where
  pub source : p.source ≡ l
  pub target : p.target ≡ m
  pub count : length p.mappings ≡ length m.attributes
  pub in-turn : (j : ℕ) → j < length m.attributes → (mapping_at p j).target ≡ j
  pub listed : (j : ℕ) → j < length m.attributes → (mapping_at p j).source < length l.attributes
  pub by_name :
      (j : ℕ) → j < length m.attributes → (at l.attributes (mapping_at p j).source).definition.name ≡ (at m.attributes j).definition.name

pub record ByNameClaim : Type 0 where
  pub mapped : (l m : Layout) (p : Plan) → for_layouts l m ≡ got p → EveryMapped l m p
  -- two sound layouts in which every target attribute has a source attribute of its name, with copy or cast, get a plan
  pub accepted :
      (l m : Layout) → is_sound l ≡ true → is_sound m ≡ true → ((j : ℕ) → j < length m.attributes → Mappable l m j) → (p : Plan) × (for_layouts l m ≡ got p)
  -- else the first target attribute that has none gives the number: 12 where no source attribute has its name
  pub missing :
      (l m : Layout) (j : ℕ) → is_sound l ≡ true → is_sound m ≡ true → j < length m.attributes → ((k : ℕ) → k < j → Mappable l m k)
      → ((i : ℕ) → SameNamed l m i j → ⊥)
      → for_layouts l m ≡ refused 12
  -- 14 where one has, and the pair is neither copy nor cast
  pub no-pair :
      (l m : Layout) (i j : ℕ) → is_sound l ≡ true → is_sound m ≡ true → SameNamed l m i j → ((k : ℕ) → k < j → Mappable l m k)
      → pair_between l m i j ≡ Nothing
      → for_layouts l m ≡ refused 14

-- ---- `for_layouts_with_default` passes over missing names

pub record FoundMapped (l m : Layout) (p : Plan) : Type 0 where
  pub source : p.source ≡ l
  pub target : p.target ≡ m
  -- every target attribute whose name a source attribute has is mapped
  pub found : (i j : ℕ) → SameNamed l m i j → (k : ℕ) × (k < length p.mappings) × ((mapping_at p k).target ≡ j)
  -- in target order
  pub in_order : (i k : ℕ) → i < k → k < length p.mappings → (mapping_at p i).target < (mapping_at p k).target
  -- nothing else is mapped, and each from a source attribute of the same name
  pub by_name : (k : ℕ) → k < length p.mappings → SameNamed l m (mapping_at p k).source (mapping_at p k).target
  -- a target attribute whose name no source attribute has is passed over
  pub passed_over : (j : ℕ) → ((i : ℕ) → SameNamed l m i j → ⊥) → (k : ℕ) → k < length p.mappings → (mapping_at p k).target ≡ j → ⊥

pub record WithDefaultClaim : Type 0 where
  pub mapped : (l m : Layout) (p : Plan) → for_layouts_with_default l m ≡ got p → FoundMapped l m p
  -- a missing name is no refusal: two sound layouts whose same-named attributes have copy or cast get a plan
  pub accepted :
      (l m : Layout) → is_sound l ≡ true → is_sound m ≡ true
      → ((i j : ℕ) → SameNamed l m i j → pair_between l m i j ≡ Nothing → ⊥)
      → (p : Plan) × (for_layouts_with_default l m ≡ got p)

-- ---- `set_custom_mapping` replaces the mapping of its target or joins the end

-- the mapping at place k has the new source, and every other stays in its place
pub record Replaced (p q : Plan) (i j k : ℕ) : Type 0 where
  pub count : length q.mappings ≡ length p.mappings
  pub new : mapping_at q k ≡ record { source = i; target = j }
  pub others : (n : ℕ) → (n ≡ k → ⊥) → mapping_at q n ≡ mapping_at p n

-- the mapping of the source place i onto the target place j put into the plan p gives q
pub record Put (p q : Plan) (i j : ℕ) : Type 0 where
  pub source : q.source ≡ p.source
  pub target : q.target ≡ p.target
  -- where a mapping names the target, that one is replaced
  pub replaces : (k : ℕ) → k < length p.mappings → (mapping_at p k).target ≡ j → Replaced p q i j k
  -- where none does, the new one is the last
  pub joins :
      ((k : ℕ) → k < length p.mappings → (mapping_at p k).target ≡ j → ⊥) → q.mappings ≡ p.mappings ++ (record { source = i; target = j } ∷ [])

pub record CustomClaim : Type 0 where
  pub put : (p q : Plan) (i j : ℕ) → set_custom_mapping p i j ≡ got q → Put p q i j
  -- a sound plan takes every mapping whose places are listed and whose pair is copy or cast
  pub accepted :
      (p : Plan) (i j : ℕ) → is_sound_plan p ≡ true → i < length p.source.attributes → j < length p.target.attributes
      → (pair_between p.source p.target i j ≡ Nothing → ⊥)
      → (q : Plan) × (set_custom_mapping p i j ≡ got q)

-- ---- the records that the code hands back stand for the plans that the definitions give (an array has 32 slots)

-- it gives a record that stands for the plan
abbrev pub Stands : Outcome PlanRecord → Plan → Type 0
Stands o k = (p : PlanRecord) × (o ≡ got p) × (plan_of p ≡ k)

pub record RecordClaim : Type 0 where
  pub empty : plan_of empty_plan ≡ record { source = empty_layout; target = empty_layout; mappings = [] }
  pub all : (l m : PointLayout) (p : Plan) → for_layouts (layout_of l) (layout_of m) ≡ got p → Stands (for_layouts_answer l m) p
  pub with-default : (l m : PointLayout) (p : Plan) → for_layouts_with_default (layout_of l) (layout_of m) ≡ got p → Stands (with_default_answer l m) p
  pub custom :
      (p : PlanRecord) (i j : ℕ) (q : Plan) → length p.mappings ≡ 32 → set_custom_mapping (plan_of p) i j ≡ got q → Stands (custom_answer p i j) q
