-- Wrong programs that the contracts of `common`, `datatype` and `layout` rule out, in one table. A row has what a definition gives at an input where
-- such a program differs, and the value written out; it is named by the function, what is right and what the program does instead.
-- The function's contract is an equation with that definition, on all inputs.
use Rattle.std.specs.Prelude.{◌≡◌, ◌&&◌, ◌∷◌, ◌++◌, ◌+◌, ◌-◌}
use Rattle.common.specs.Logic.{true, Bool, false, List, [], map, None, Some, Option, ℕ, min, length, replicate}
use Prim.Native.String.{String}
use Rattle.std.specs.Float.Ieee.{size}
use Rattle.common.specs.Ascii.{ascii}
use Rattle.common.specs.Lists.{first, tabulate}
use Rattle.common.specs.Refusal.{Outcome, got, refused, accepts, line_answer, number_of, or_else}
use Rattle.common.specs.declared.Refusal.TheVariants.{NotAtEnd, ColumnLength}
use Rattle.common.specs.Refusal.{Answer}
use Rattle.common.specs.Refusal.{Accepted, Refused}
use Rattle.datatype.specs.Arithmetic.{align_to, is_power_of_two}
use Rattle.datatype.specs.Datatype.{plain, byte_array, custom, with_code, datatype_of, size_of, align_of, read_align, known, same_datatype}
use Rattle.layout.specs.Layout.{Attribute, is_sound}
use Rattle.layout.specs.Lookup.{get_attribute_by_name, index_of, offset_of, compare_without_offsets}
use Rattle.layout.specs.Records.{definition_of, layout_of, empty_member, empty_point_layout, add_answer, given_answer}
use Rattle.datatype.specs.declared.datatype.Datatype.{Datatype}
use Rattle.datatype.specs.declared.datatype.Properties.{Properties}
use Rattle.datatype.specs.declared.datatype.PointAttributeDataType.TheVariants.{U16, Vec3u16, ByteArray, Custom}
use Rattle.layout.specs.declared.point_layout.FieldAlignment.{FieldAlignment}
use Rattle.layout.specs.declared.point_layout.FieldAlignment.TheVariants.{Default, Packed}
use Rattle.layout.specs.declared.point_layout.PointAttributeDefinition.{PointAttributeDefinition}
use Rattle.layout.specs.declared.point_layout.PointAttributeMember.{PointAttributeMember}
use Rattle.layout.specs.declared.point_layout.PointLayout.{PointLayout}
use Rattle.nakvisk.specs.Calls.{layout_handed}

pub data Value : Type 0 where
  number : ℕ → Value
  truth : Bool → Value
  answer : Answer → Value
  datatype : Outcome Properties → Value
  place : Outcome (Option ℕ) → Value
  offset : Outcome (Option ℕ) → Value
  comparison : Outcome Bool → Value
  -- a maker's answer, and the offsets, the size and the alignment of the layout; none, 0 and 1 where it is refused
  made : Answer → List ℕ → ℕ → ℕ → Value

pub record Row : Type 0 where
  pub name : String
  pub gives : Value
  pub value : Value

unfoldable pub found : Row → Value
found r = r.gives

unfoldable pub told : Row → Value
told r = r.value

-- ---- inputs

abbrev of_code : ℕ → ℕ → Datatype
of_code c n = with_code (byte_array n) c

-- a name of these characters, in its array of 31 bytes
abbrev name_of : String → List ℕ
name_of s = ascii s ++ replicate (31 - length (ascii s)) 0

abbrev typed : String → Datatype → PointAttributeDefinition
typed s d = record { name = name_of s; name_len = length (ascii s); datatype = d }

-- by name and code
abbrev definition : String → ℕ → PointAttributeDefinition
definition s c = typed s (plain c)

-- by name, code and offset
abbrev member : String → ℕ → ℕ → PointAttributeMember
member s c o = record { attribute_definition = definition s c; offset = o }

-- a ByteArray by name and length, and at an offset
abbrev array : String → ℕ → PointAttributeDefinition
array s n = typed s (byte_array n)

abbrev array_member : String → ℕ → ℕ → PointAttributeMember
array_member s n o = record { attribute_definition = array s n; offset = o }

-- by name and datatype, at an offset
abbrev typed_member : String → Datatype → ℕ → PointAttributeMember
typed_member s d o = record { attribute_definition = typed s d; offset = o }

abbrev slots : List PointAttributeMember → List PointAttributeMember
slots ms = ms ++ replicate (32 - length ms) empty_member

-- members, size, alignment
abbrev layout : List PointAttributeMember → ℕ → ℕ → PointLayout
layout ms z a = record { attributes = slots ms; count = length ms; size = z; alignment = a }

-- a Custom of 16 bytes, alignment 8 and the name 7, 9; A of it alone, and of another
abbrev seal : Datatype
seal = custom 16 8 7 9

abbrev sealed : Datatype → PointLayout
sealed d = layout (typed_member "A" d 0 ∷ []) 16 1

-- 32 attributes of one byte, one after the other
abbrev full : PointLayout
full = layout (tabulate (λ i. record { attribute_definition = record { name = (33 + i) ∷ replicate 30 0; name_len = 1; datatype = plain 0 }; offset = i }) 32) 32 1

-- U8 A at 0, U16 B at 2
abbrev two : PointLayout
two = layout (member "A" 0 0 ∷ member "B" 2 2 ∷ []) 4 2

-- A at 8, B before it at 0, both U32
abbrev falling : List PointAttributeMember
falling = member "A" 4 8 ∷ member "B" 4 0 ∷ []

-- ---- results

abbrev sound : PointLayout → Value
sound l = truth (is_sound (layout_of l))

offset_in : Attribute → ℕ
offset_in a = a.offset

unfoldable pub made_of : Outcome PointLayout → Value
unfolding offset_in
made_of (got l) = made Accepted (map offset_in (layout_of l).attributes) l.size l.alignment
made_of (refused n) = let l = (layout_handed (refused n)).layout in made (Refused n) (map offset_in (layout_of l).attributes) l.size l.alignment

abbrev refused_with : ℕ → Value
refused_with n = made (Refused n) [] 0 1

abbrev added : PointLayout → PointAttributeDefinition → FieldAlignment → Value
added l d f = made_of (add_answer l d f)

-- the members, and how many of them count
abbrev given_of : List PointAttributeMember → ℕ → ℕ → Value
given_of ms k a = made_of (given_answer (slots ms) k a)

abbrev by_name : PointLayout → List ℕ → ℕ → Value
by_name l s k = place (get_attribute_by_name (layout_of l) (first 0 s k))

abbrev index : PointLayout → PointAttributeDefinition → Value
index l d = place (index_of (layout_of l) (definition_of d))

abbrev offset_for : PointLayout → PointAttributeDefinition → Value
offset_for l d = offset (offset_of (layout_of l) (definition_of d))

abbrev compare : PointLayout → PointLayout → Value
compare l m = comparison (compare_without_offsets (layout_of l) (layout_of m))

abbrev row : String → Value → Value → Row
row n g v = record { name = n; gives = g; value = v }

-- ---- the tables

unfoldable pub of_common : List Row
of_common =
    row "accepts: a refusal is none, not counted as accepted" (truth (accepts (Refused 1))) (truth false)
    ∷ row "accepts: Accepted is, not nothing" (truth (accepts Accepted)) (truth true)
    ∷ row "or_else: the first refusal, not the later one" (answer (or_else (Refused 4) (Refused 9))) (answer (Refused 4))
    ∷ row "or_else: the later answer counts after Accepted, not Accepted always" (answer (or_else Accepted (Refused 9))) (answer (Refused 9))
    ∷ row "line_answer: a line that holds refuses, not one that does not" (answer (or_else Accepted (line_answer 8 true))) (answer (Refused 8))
    ∷ row "line_answer: a line that does not hold changes nothing, not refused by its number" (answer (or_else Accepted (line_answer 8 false))) (answer Accepted)
    ∷ row "line_answer: an earlier refusal stands, not the line's number" (answer (or_else (Refused 4) (line_answer 8 true))) (answer (Refused 4))
    ∷ row "number: the fill bits' is 7, not 8" (number (number_of NotAtEnd)) (number 7)
    ∷ row "number: the columns' is 22, not 21" (number (number_of ColumnLength)) (number 22)
    ∷ row "and: both, not the first alone or either" (truth (true && false)) (truth false)
    ∷ row "and: both, not the second alone" (truth (false && true)) (truth false)
    ∷ row "and: both hold, not never" (truth (true && true)) (truth true)
    ∷ row "least: the smaller, not the larger" (number (min 3 5)) (number 3)
    ∷ row "least: the smaller, not the first" (number (min 5 3)) (number 3)
    ∷ row "significant_bits: four of 8, not one less" (number (size 8)) (number 4)
    ∷ row "significant_bits: three of 7, not one more" (number (size 7)) (number 3)
    ∷ row "significant_bits: none of 0, not one" (number (size 0)) (number 0)
    ∷ []

unfoldable pub of_datatypes : List Row
of_datatypes =
    row "align_to: a multiple stays, not one alignment more" (number (align_to 8 8)) (number 8)
    ∷ row "align_to: the next multiple, not the one before" (number (align_to 9 8)) (number 16)
    ∷ row "align_to: 0 leaves the number, not 0" (number (align_to 9 0)) (number 9)
    ∷ row "align_to: any alignment, not by the bits of a power of two" (number (align_to 4 3)) (number 6)
    ∷ row "align_to: past 32 bits, not wrapped" (number (align_to 4294967295 8)) (number 4294967296)
    ∷ row "is_power_of_two: 1 is one, not 2 the least" (truth (is_power_of_two 1)) (truth true)
    ∷ row "is_power_of_two: 6 is none, not every even number" (truth (is_power_of_two 6)) (truth false)
    ∷ row "is_power_of_two: 0 is none, not one" (truth (is_power_of_two 0)) (truth false)
    ∷ row "plain: the code that is asked for, not 0" (number (plain 3).code) (number 3)
    ∷ row "plain: n is 0, not the code" (number (plain 3).n) (number 0)
    ∷ row "byte_array: code 16, not 17" (number (byte_array 5).code) (number 16)
    ∷ row "byte_array: n, not 0" (number (byte_array 5).n) (number 5)
    ∷ row "custom: n is the size, not the alignment" (number (custom 5 3 7 9).n) (number 5)
    ∷ row "custom: the upper half of the name first, not the lower" (number (custom 5 3 7 9).name_high) (number 7)
    ∷ row "with_code: the code that is asked for, not its own" (number (with_code seal 4).code) (number 4)
    ∷ row "with_code: the rest as it was, not 0" (number (with_code seal 4).name_low) (number 9)
    ∷ row "datatype_of: Vec3u16 has 6 bytes, not 8" (datatype (datatype_of (plain 11))) (datatype (got (known Vec3u16 6 2)))
    ∷ row "datatype_of: code 2 is U16, not I16" (datatype (datatype_of (plain 2))) (datatype (got (known U16 2 2)))
    ∷ row "datatype_of: code 18 is refused with 5, not a Custom" (datatype (datatype_of (of_code 18 3))) (datatype (refused 5))
    ∷ row "datatype_of: code 17 is a Custom of its alignment and name, not refused or of alignment 1" (datatype (datatype_of (custom 16 3 7 9))) (datatype (got (known (Custom 16 3 7 9) 16 3)))
    ∷ row "datatype_of: a Custom of size 0 is refused with 6, not known" (datatype (datatype_of (custom 0 3 7 9))) (datatype (refused 6))
    ∷ row "datatype_of: a ByteArray of 0 is refused with 6, not known" (datatype (datatype_of (plain 16))) (datatype (refused 6))
    ∷ row "datatype_of: a ByteArray of 1 is known, not 2 the least" (datatype (datatype_of (byte_array 1))) (datatype (got (known (ByteArray 1) 1 1)))
    ∷ row "datatype_of: a ByteArray of 300 has 300 bytes, not 255 at most or 44" (datatype (datatype_of (byte_array 300))) (datatype (got (known (ByteArray 300) 300 1)))
    ∷ row "datatype_of: a ByteArray of 256 is known, not refused by its low 8 bits" (datatype (datatype_of (byte_array 256))) (datatype (got (known (ByteArray 256) 256 1)))
    ∷ row "size_of: the size, not the alignment" (number (size_of (plain 10))) (number 3)
    ∷ row "size_of: of a ByteArray n, not 1" (number (size_of (byte_array 5))) (number 5)
    ∷ row "size_of: 65,535 of the longest ByteArray, not 255" (number (size_of (byte_array 65535))) (number 65535)
    ∷ row "size_of: 0 of a code above 17, not n" (number (size_of (of_code 18 5))) (number 0)
    ∷ row "size_of: of a Custom its size, not its alignment" (number (size_of seal)) (number 16)
    ∷ row "align_of: the alignment, not the size" (number (align_of (plain 11))) (number 2)
    ∷ row "align_of: 1 of a ByteArray, not n" (number (align_of (byte_array 5))) (number 1)
    ∷ row "align_of: 0 of a ByteArray of 0, not 1" (number (align_of (plain 16))) (number 0)
    ∷ row "align_of: of a Custom its own, not 1 or its size" (number (align_of seal)) (number 8)
    ∷ row "align_of: a Custom's 0 is 0, not 1" (number (align_of (custom 16 0 7 9))) (number 0)
    ∷ row "the Reference's measure: alignment 0 is read as 1" (number (read_align (custom 16 0 7 9))) (number 1)
    ∷ row "the Reference's measure: 3 is read as it is" (number (read_align (custom 16 3 7 9))) (number 3)
    ∷ row "same_datatype: ByteArrays by n, not all alike" (truth (same_datatype (byte_array 3) (byte_array 4))) (truth false)
    ∷ row "same_datatype: by all 16 bits of n, not by the low 8" (truth (same_datatype (byte_array 257) (byte_array 1))) (truth false)
    ∷ row "same_datatype: n does not count for U16, but for ByteArrays and Customs" (truth (same_datatype (of_code 2 1) (of_code 2 7))) (truth true)
    ∷ row "same_datatype: by the code, not by the size" (truth (same_datatype (plain 0) (plain 1))) (truth false)
    ∷ row "same_datatype: equal Customs, not never" (truth (same_datatype seal (custom 16 8 7 9))) (truth true)
    ∷ row "same_datatype: Customs by size" (truth (same_datatype seal (custom 17 8 7 9))) (truth false)
    ∷ row "same_datatype: Customs by alignment, not by size and name" (truth (same_datatype seal (custom 16 4 7 9))) (truth false)
    ∷ row "same_datatype: Customs by the name's upper half, not by its lower" (truth (same_datatype seal (custom 16 8 6 9))) (truth false)
    ∷ row "same_datatype: Customs by the name's lower half, not by size and alignment" (truth (same_datatype seal (custom 16 8 7 8))) (truth false)
    ∷ row "same_datatype: alignment and name count for a Custom alone, not for a ByteArray" (truth (same_datatype (with_code seal 16) (byte_array 16))) (truth true)
    ∷ []

unfoldable pub of_layouts : List Row
of_layouts =
    row "default: alignment 1, not 2" (number empty_point_layout.alignment) (number 1)
    ∷ row "default: no attribute, not one for each slot" (number empty_point_layout.count) (number 0)
    ∷ row "sound: an end at the size is within it, not past it" (sound (layout (member "A" 0 0 ∷ []) 1 1)) (truth true)
    ∷ row "sound: an end above the size is past it, not the offset alone" (sound (layout (member "A" 2 0 ∷ []) 1 1)) (truth false)
    ∷ row "sound: offsets in any order, not rising" (sound (layout falling 12 4)) (truth true)
    ∷ row "sound: bytes shared by any two, not by neighbours in the list" (sound (layout (member "A" 4 0 ∷ member "B" 0 8 ∷ member "C" 2 2 ∷ []) 12 4)) (truth false)
    ∷ row "sound: names of any two, not of neighbours in the list" (sound (layout (member "A" 0 0 ∷ member "B" 0 1 ∷ member "A" 0 2 ∷ []) 3 1)) (truth false)
    ∷ row "sound: names by every byte, not by the first" (sound (layout (member "AB" 0 0 ∷ member "AC" 0 1 ∷ []) 2 1)) (truth true)
    ∷ row "sound: the alignment a power of two, not any divisor of the size" (sound (layout (member "A" 10 0 ∷ []) 3 3)) (truth false)
    ∷ row "sound: the size a multiple of the alignment, not any" (sound (layout (member "A" 0 0 ∷ []) 1 2)) (truth false)
    ∷ row "sound: every code is looked at, not the first attribute's" (sound (layout (member "A" 0 0 ∷ member "B" 18 1 ∷ []) 1 1)) (truth false)
    ∷ row "sound: a Custom of size 0 is not held" (sound (sealed (custom 0 8 7 9))) (truth false)
    ∷ row "sound: a Custom's alignment is not looked at" (sound (sealed (custom 16 3 7 9))) (truth true)
    ∷ row "sound: a name of hex 7E is good, not refused at the end of the range" (sound (layout (member "~" 0 0 ∷ []) 1 1)) (truth true)
    ∷ row "add_attribute: accepted where no line holds, not always refused" (added empty_point_layout (definition "A" 0) Default) (made Accepted (0 ∷ []) 1 1)
    ∷ row "add_attribute: aligned by Default, not packed" (added (layout (member "A" 0 0 ∷ []) 1 1) (definition "B" 4) Default) (made Accepted (0 ∷ 4 ∷ []) 8 4)
    ∷ row "add_attribute: no tail padding when packed, not up to P" (added (layout (member "A" 4 0 ∷ []) 4 1) (definition "B" 0) (Packed 4)) (made Accepted (0 ∷ 4 ∷ []) 5 1)
    ∷ row "add_attribute: packed to the smaller of P and the datatype's alignment, not to P" (added (layout (member "A" 0 0 ∷ []) 1 1) (definition "B" 2) (Packed 4)) (made Accepted (0 ∷ 2 ∷ []) 4 1)
    ∷ row "add_attribute: after the last listed, not after the greatest end" (added (layout falling 12 4) (definition "C" 4) Default) (made Accepted (8 ∷ 0 ∷ 4 ∷ []) 12 4)
    ∷ row "add_attribute: the size no less than before, not by the new end alone" (added (layout (member "A" 0 0 ∷ []) 8 1) (definition "B" 0) Default) (made Accepted (0 ∷ 1 ∷ []) 8 1)
    ∷ row "add_attribute: names by every byte, not by the first" (added (layout (member "AB" 0 0 ∷ []) 1 1) (definition "AC" 0) Default) (made Accepted (0 ∷ 1 ∷ []) 2 1)
    ∷ row "add_attribute: every listed name, not the last one's alone" (added (layout (member "A" 0 0 ∷ member "B" 0 1 ∷ []) 2 1) (definition "A" 0) Default) (refused_with 8)
    ∷ row "add_attribute: bytes shared with any attribute, not judged in list order" (added (layout falling 12 4) (definition "C" 6) Default) (refused_with 9)
    ∷ row "add_attribute: an alignment of 3 is refused with 10, not taken" (added (layout (member "A" 4 0 ∷ []) 4 4) (definition "B" 0) (Packed 3)) (refused_with 10)
    ∷ row "add_attribute: an end of 65,536 is refused with 11, not wrapped" (added (layout (member "A" 0 65534 ∷ []) 65535 1) (definition "B" 0) Default) (refused_with 11)
    ∷ row "add_attribute: a ByteArray of 65,535 fits, not refused" (added empty_point_layout (array "A" 65535) Default) (made Accepted (0 ∷ []) 65535 1)
    ∷ row "add_attribute: behind 65,535 bytes 11 is due, not an end that wraps" (added (layout (array_member "A" 65535 0 ∷ []) 65535 1) (definition "B" 0) Default) (refused_with 11)
    ∷ row "add_attribute: behind a ByteArray of 300 at 300, not at 44" (added (layout (array_member "A" 300 0 ∷ []) 300 1) (definition "B" 0) Default) (made Accepted (0 ∷ 300 ∷ []) 301 1)
    ∷ row "add_attribute: a Custom of alignment 3 alone is refused with 10, not taken" (added empty_point_layout (typed "A" (custom 1 3 7 9)) Default) (refused_with 10)
    ∷ row "add_attribute: behind a U32 it is taken at a multiple of 3, not refused or at 4" (added (layout (member "A" 4 0 ∷ []) 4 4) (typed "B" (custom 1 3 7 9)) Default) (made Accepted (0 ∷ 6 ∷ []) 8 4)
    ∷ row "add_attribute: alignment 0 pads nothing, not to the size" (added (layout (member "A" 0 0 ∷ []) 1 1) (typed "B" (custom 4 0 7 9)) Default) (made Accepted (0 ∷ 1 ∷ []) 5 1)
    ∷ row "add_attribute: alignment 0 leaves the layout's, not 0" (added (layout (member "A" 2 0 ∷ []) 2 2) (typed "B" (custom 3 0 7 9)) Default) (made Accepted (0 ∷ 2 ∷ []) 6 2)
    ∷ row "add_attribute: a Custom by its alignment, not packed" (added (layout (member "A" 0 0 ∷ []) 1 1) (typed "B" (custom 16 16 7 9)) Default) (made Accepted (0 ∷ 16 ∷ []) 32 16)
    ∷ row "add_attribute: alignment 0 when packed pads nothing, not to P" (added (layout (member "A" 0 0 ∷ []) 1 1) (typed "B" (custom 4 0 7 9)) (Packed 4)) (made Accepted (0 ∷ 1 ∷ []) 5 1)
    ∷ row "add_attribute: an unsound layout is refused with 1, not extended" (added (layout (member "A" 2 0 ∷ []) 1 1) (definition "B" 0) Default) (refused_with 1)
    ∷ row "add_attribute: a 33rd attribute is refused with 3, not stored" (added full (definition "A" 0) Default) (refused_with 3)
    ∷ row "add_attribute: the name is judged before the code, not after it" (added empty_point_layout (definition "\n" 18) Default) (refused_with 4)
    ∷ row "from_members_and_alignment: offsets as given in any order, not rising" (given_of (member "A" 0 1 ∷ member "B" 0 0 ∷ []) 2 1) (made Accepted (1 ∷ 0 ∷ []) 2 1)
    ∷ row "from_members_and_alignment: the size by the greatest end, not by the last" (given_of falling 2 4) (made Accepted (8 ∷ 0 ∷ []) 12 4)
    ∷ row "from_members_and_alignment: sharing is judged, not left out" (given_of (member "A" 4 0 ∷ member "B" 2 2 ∷ []) 2 4) (refused_with 9)
    ∷ row "from_members_and_alignment: 8 before 9, not after it" (given_of (member "A" 4 0 ∷ member "A" 2 2 ∷ []) 2 4) (refused_with 8)
    ∷ row "from_members_and_alignment: the size rounded up to the alignment, not the greatest end itself" (given_of (member "A" 0 0 ∷ []) 1 4) (made Accepted (0 ∷ []) 4 4)
    ∷ row "from_members_and_alignment: an alignment of 0 is refused with 10, not read as 1" (given_of (member "A" 0 0 ∷ []) 1 0) (refused_with 10)
    ∷ row "from_members_and_alignment: U8 at 65,534 fits, not refused" (given_of (member "A" 0 65534 ∷ []) 1 1) (made Accepted (65534 ∷ []) 65535 1)
    ∷ row "from_members_and_alignment: a size of 65,536 is refused with 11, not the end alone judged" (given_of (member "A" 0 65534 ∷ []) 1 2) (refused_with 11)
    ∷ row "from_members_and_alignment: a ByteArray of 65,535 at 65,535 is refused with 11, not its end wrapped" (given_of (array_member "A" 65535 65535 ∷ []) 1 1) (refused_with 11)
    ∷ row "from_members_and_alignment: the 300th byte is shared, not the first 255 alone judged" (given_of (array_member "A" 300 0 ∷ member "B" 0 299 ∷ []) 2 1) (refused_with 9)
    ∷ row "from_members_and_alignment: a Custom's own alignment is not looked at, nor is 10 due" (given_of (typed_member "A" (custom 2 3 7 9) 1 ∷ []) 1 1) (made Accepted (1 ∷ []) 3 1)
    ∷ row "from_members_and_alignment: members past the count are not looked at, not judged too" (given_of (member "A" 0 0 ∷ member "A" 0 0 ∷ []) 1 1) (made Accepted (0 ∷ []) 1 1)
    ∷ row "from_members_and_alignment: a count of 33 is refused with 3, not held at 32" (given_of [] 33 1) (refused_with 3)
    ∷ row "get_attribute_by_name: the name alone, not a U8 of that name" (by_name two (name_of "B") 1) (place (got (Some 1)))
    ∷ row "get_attribute_by_name: the whole name, not its start" (by_name (layout (member "AB" 0 0 ∷ []) 1 1) (name_of "A") 1) (place (got None))
    ∷ row "get_attribute_by_name: no such name is no refusal, not a number" (by_name two (name_of "C") 1) (place (got None))
    ∷ row "get_attribute_by_name: a name of 32 bytes is refused with 4, not sought" (by_name two (name_of "A") 32) (place (refused 4))
    ∷ row "get_attribute_by_name: 1 before 4, not after it" (by_name (layout (member "A" 2 0 ∷ []) 1 1) (name_of "A") 32) (place (refused 1))
    ∷ row "index_of: name and datatype, not the name alone" (index two (definition "B" 3)) (place (got None))
    ∷ row "index_of: a ByteArray by all of its length, not by the low 8 bits" (index (layout (array_member "A" 300 0 ∷ []) 300 1) (array "A" 44)) (place (got None))
    ∷ row "index_of: the place, not the offset" (index two (definition "B" 2)) (place (got (Some 1)))
    ∷ row "index_of: a code above 17 is refused with 5, not merely none" (index two (definition "B" 18)) (place (refused 5))
    ∷ row "index_of: an equal Custom, not never" (index (sealed seal) (typed "A" seal)) (place (got (Some 0)))
    ∷ row "index_of: a Custom by its name too, not by its size" (index (sealed seal) (typed "A" (custom 16 8 7 8))) (place (got None))
    ∷ row "index_of: a Custom by its alignment too" (index (sealed seal) (typed "A" (custom 16 4 7 9))) (place (got None))
    ∷ row "offset_of: the offset, not the place" (offset_for two (definition "B" 2)) (offset (got (Some 2)))
    ∷ row "offset_of: none, not offset 0" (offset_for two (definition "C" 2)) (offset (got None))
    ∷ row "offset_of: a ByteArray of 0 is refused with 6, not merely none" (offset_for two (definition "B" 16)) (offset (refused 6))
    ∷ row "compare_without_offsets: as many attributes, not a part of the other's" (compare (layout (member "A" 0 0 ∷ []) 1 1) two) (comparison (got false))
    ∷ row "compare_without_offsets: in any order and at any offset, not place by place" (compare two (layout (member "B" 2 0 ∷ member "A" 0 2 ∷ []) 4 2)) (comparison (got true))
    ∷ row "compare_without_offsets: datatypes too, not names alone" (compare two (layout (member "A" 1 0 ∷ member "B" 2 2 ∷ []) 4 2)) (comparison (got false))
    ∷ row "compare_without_offsets: Customs by their names, not by size and alignment" (compare (sealed seal) (sealed (custom 16 8 6 9))) (comparison (got false))
    ∷ row "compare_without_offsets: the other layout is judged too, not the first alone" (compare two (layout (member "A" 2 0 ∷ []) 1 1)) (comparison (refused 1))
    ∷ []

unfoldable pub table : List Row
table = of_common ++ (of_datatypes ++ of_layouts)

-- every row holds
abbrev pub RuledOut : Type 0
RuledOut = map found table ≡ map told table
