-- Which numbers a layout sheet is refused with: 2 to 7 where it does not read, 2 to 11 in all. It is never 1, since the layouts are sound.
use Rattle.std.specs.Prelude.{◌≡◌, ◌∷◌, ◌≤◌}
use Rattle.common.specs.Logic.{◌∙◌, ap, refl, true, not, List, [], flat_map, ℕ, arith, eqb}
use Rattle.common.specs.Lists.{all}
use Rattle.common.specs.Refusal.{Outcome, got, refused}
use Rattle.common.proofs.Lists.{all_append, all-flat_map}
use Rattle.common.proofs.Refusals.{numbered}
use Rattle.format.proofs.Refusals.{Among, among-got, among-after, Within, is_within, lines, after_line, Refuses, at-end, refuses-bits, refuses-from, refuses-either, refuses-bind, refuses-times, among-rest}
use Rattle.layout.specs.Calls.{Call, called}
use Rattle.layout.specs.Claims.{start, added}
use Rattle.datatype.specs.Datatype.{datatype_lines}
use Rattle.layout.specs.Layout.{Attribute, definition_lines, attribute_lines, Layout, is_sound}
use Rattle.layout.specs.Makers.{layout_lines, empty_layout, add_lines, add_attribute, given, given_lines, from_members}
use Rattle.layout.proofs.Accepted.{accepted-claim}
use Rattle.layout_sheets.specs.Sheet.{name_byte, name, array_length, array_format, custom_format, after_code, datatype_over, datatype, entry, Contents, placed, given as given_sheet, placed_format, given_format, format_over, layout_format, contents, in_turn, add_all, layout_from, layout_sheet}

-- ---- a sheet that does not read

module _ (P : ℕ → Type 0) (two : P 2) (three : P 3) (four : P 4) (five : P 5) (six : P 6) (seven : P 7) where
  name-refuses : Refuses P name
  unfolding name name_byte
  name-refuses = refuses-bind P (refuses-bits P 5) (refuses-times P (refuses-from P 4 0x20 0x7e 8 four))

  length-refuses : Refuses P array_length
  unfolding array_length
  length-refuses = refuses-bind P (refuses-bits P 8) (λ n. refuses-either P (eqb n 0) (refuses-from P 6 256 65535 16 six) at-end)

  custom-refuses : Refuses P custom_format
  unfolding custom_format
  custom-refuses =
      refuses-bind P (refuses-from P 6 1 65535 16 six) (λ s. refuses-bind P (refuses-bits P 8) (λ a. refuses-bind P (refuses-bits P 64) (λ h. refuses-bind P (refuses-bits P 64) (λ l. at-end))))

  datatype-refuses : Refuses P datatype
  unfolding datatype datatype_over after_code array_format
  datatype-refuses =
      refuses-bind P (refuses-from P 5 0 17 5 five) (λ c.
      refuses-either P (eqb c 16) (refuses-bind P length-refuses (λ n. at-end)) (refuses-either P (eqb c 17) custom-refuses at-end))

  entry-refuses : (w : ℕ) → Refuses P (entry datatype w)
  unfolding entry
  entry-refuses w = refuses-bind P name-refuses (λ b. refuses-bind P datatype-refuses (λ d. refuses-bind P (refuses-bits P w) (λ x. at-end)))

  layout-refuses : Refuses P layout_format
  unfolding layout_format format_over placed_format given_format
  layout-refuses =
      refuses-bind P (refuses-from P 3 0 32 6 three) (λ k. refuses-bind P (refuses-bits P 1) (λ kind.
      refuses-either P (eqb kind 0) (refuses-bind P (refuses-times P (entry-refuses 8) k) (λ es. at-end))
      (refuses-bind P (refuses-bits P 16) (λ a. refuses-bind P (refuses-times P (entry-refuses 16) k) (λ es. at-end)))))

  pub among-contents : (s : List ℕ) → Among P (contents s)
  unfolding contents
  among-contents s = among-rest P two seven layout-refuses s 0

pub early-contents : (s : List ℕ) (n : ℕ) → contents s ≡ refused n → (2 ≤ n) × (n ≤ 7)
early-contents =
    among-contents (λ n. (2 ≤ n) × (n ≤ 7)) (omega arith, omega arith) (omega arith, omega arith) (omega arith, omega arith) (omega arith, omega arith) (omega arith, omega arith) (omega arith, omega arith)

-- ---- the layout

abbrev pub LayoutNumber : ℕ → Type 0
LayoutNumber n = Within 2 11 n

-- call by call, where what holds of each value is kept
pub turns : {X A : Type 0} (P : ℕ → Type 0) (f : X → A → Outcome X) (Q : X → Type 0) → ((x : X) (a : A) (y : X) → Q x → f x a ≡ got y → Q y) → ((x : X) (a : A) → Q x → Among P (f x a))
    → (x : X) (xs : List A) → Q x → Among P (in_turn f x xs)
unfolding in_turn
turns P f Q k g x [] q = among-got P x
turns P f Q k g x (a ∷ xs) q = among-after P (f x a) _ (g x a q) (λ y e. turns P f Q k g y xs (k x a y q e))

called-numbers : (l : Layout) (c : Call) → is_sound l ≡ true → Among LayoutNumber (called l c)
unfolding add_attribute add_lines definition_lines datatype_lines layout_lines all numbered is_within
called-numbers l c s = after_line LayoutNumber 1 _ _ _ (ap not s) (lines 2 11 _ _ refl)

given-numbers : (xs : List Attribute) (a : ℕ) → Among LayoutNumber (from_members xs a)
unfolding from_members given_lines attribute_lines definition_lines datatype_lines layout_lines all numbered is_within
given-numbers xs a =
    lines 2 11 _ _ (all_append (numbered (is_within 2 11)) (flat_map attribute_lines xs) (layout_lines (given xs a)) ∙ rw (all-flat_map (numbered (is_within 2 11)) attribute_lines xs (λ x. refl)))

from-numbers : (c : Contents) → Among LayoutNumber (layout_from c)
unfolding layout_from add_all
from-numbers (placed cs) =
    turns LayoutNumber called (λ (l : Layout). is_sound l ≡ true) (λ l c k s e. accepted-claim.sound k (added l k c e)) called-numbers empty_layout cs (accepted-claim.sound empty_layout start)
from-numbers (given_sheet xs a) = given-numbers xs a

pub layout-numbers : (s : List ℕ) → Among LayoutNumber (layout_sheet s)
unfolding layout_sheet
layout-numbers s =
    among-after LayoutNumber (contents s) layout_from (λ n h. let e = early-contents s n h in (omega arith, omega arith)) (λ c e. from-numbers c)
