-- A layout sheet's values are those written out of what it says, and no others.
use Rattle.std.specs.Prelude.{◌≡◌, ◌∷◌, ◌++◌, ◌↔◌, ◌≤◌, ◌<◌, ◌^◌}
use Rattle.common.specs.Logic.{◌∙◌, sym, ap, refl, true, false, cond, List, [], map, append-nil, flat_map, ⊎_elim, ℕ, arith, eqb-true, eqb-false, eqb, length, length-map}
use Rattle.common.proofs.Lists.{decide}
use Rattle.format.specs.Format.{Format, ◌>>=◌, bits, bits_from, times}
use Rattle.format.proofs.Written.{Each, Inside, bounds, inside, Written, written-end, written-bits, written_from, written_either, written_as, written-bind, written-times}
use Rattle.layout.specs.Calls.{Call}
use Rattle.layout.specs.Layout.{Attribute}
use Rattle.datatype.specs.Datatype.{plain}
use Rattle.datatype.specs.declared.datatype.Datatype.{Datatype}
use Rattle.layout_sheets.specs.Sheet.{name_byte, name, array_length, after_code, datatype_over, datatype, Entry, entry, packing, call_of, given_of, Contents, placed, given, placed_format, given_format, format_over, layout_format}
use Rattle.layout_sheets.specs.Values.{bytes_values, length_values, custom_values, datatype_values, entry_values, packing_number, call_entry, given_entry, contents_values}
use Rattle.layout_sheets.proofs.Customs.{SaidCustom, custom-written}
use Rattle.layout_sheets.proofs.Lengths.{SaidArray, array_written}

-- ---- what can be said

abbrev pub SaidName : List ℕ → Type 0
SaidName b = (length b < 32) × Each (Inside 0x20 0x7e) b

-- behind the code c; behind one below 16 nothing stands
abbrev pub SaidAfter : ℕ → Datatype → Type 0
SaidAfter c d = cond (eqb c 16) (SaidArray d) (cond (eqb c 17) (SaidCustom d) (plain c ≡ d))

abbrev pub SaidDatatype : Datatype → Type 0
SaidDatatype d = Inside 0 17 d.code × SaidAfter d.code d

abbrev pub SaidEntry : ℕ → Entry → Type 0
SaidEntry w e = SaidName e.definition.name × SaidDatatype e.definition.datatype × (e.number < 2 ^ w)

-- of a placed sheet, packings other than Packed of 0
abbrev pub SaidLayout : Contents → Type 0
SaidLayout (placed cs) = (length cs ≤ 32) × Each (SaidEntry 8) (map call_entry cs) × (map call_of (map call_entry cs) ≡ cs)
SaidLayout (given xs a) = (length xs ≤ 32) × (a < 2 ^ 16) × Each (SaidEntry 16) (map given_entry xs)

-- ---- bytes after their length

flat-one : (xs : List ℕ) → flat_map (λ (v : ℕ). v ∷ []) xs ≡ xs
unfolding flat_map
flat-one [] = refl
flat-one (x ∷ xs) = ap (λ (ys : List ℕ). x ∷ ys) (flat-one xs)

-- so many bytes as w bits say, each by the format f
pub counted-written : {G : ℕ → Type 0} (w : ℕ) (f : Format ℕ) → Written f G (λ v. v ∷ []) → Written (bits w >>= times f) (λ b. (length b < 2 ^ w) × Each G b) bytes_values
unfolding bytes_values
counted-written w f i =
    written_as (λ b. (λ k. (k.0, k.1.1), λ k. (k.0, (refl, k.1)))) (λ b k. ap (λ (ys : List ℕ). length b ∷ ys) (flat-one b))
    (written-bind length (λ l b g h. h.0) (written-bits w) (written-times i))

-- ---- one attribute

name-written : Written name SaidName bytes_values
unfolding name name_byte
name-written = counted-written 5 (bits_from 4 0x20 0x7e 8) (written_from 4 0x20 0x7e 8 (omega arith))

after-written : (c : ℕ) → Written (after_code array_length c) (SaidAfter c) (λ d. cond (eqb c 16) (length_values d.n) (cond (eqb c 17) (custom_values d) []))
unfolding after_code
after-written c = written_either (eqb c 16) array_written (written_either (eqb c 17) custom-written (written-end (plain c)))

-- the code of what is said behind c
said-code : (c : ℕ) (d : Datatype) → SaidAfter c d → d.code ≡ c
said-code c d h =
    ⊎_elim
    (λ (e : eqb c 16 ≡ true). let k : SaidArray d = rw e at h in ap (λ (d : Datatype). d.code) (sym k.1) ∙ sym (eqb-true c 16 e))
    (λ (e : eqb c 16 ≡ false).
    let k : cond (eqb c 17) (SaidCustom d) (plain c ≡ d) = rw e at h in
    ⊎_elim
    (λ (f : eqb c 17 ≡ true). let m : SaidCustom d = rw f at k in ap (λ (d : Datatype). d.code) (sym m.4) ∙ sym (eqb-true c 17 f))
    (λ (f : eqb c 17 ≡ false). let m : plain c ≡ d = rw f at k in ap (λ (d : Datatype). d.code) (sym m))
    (decide (eqb c 17)))
    (decide (eqb c 16))

datatype-written : Written datatype SaidDatatype datatype_values
unfolding datatype datatype_over datatype_values
datatype-written = written-bind (λ (d : Datatype). d.code) (λ c d g h. said-code c d h) (written_from 5 0 17 5 (omega arith)) after-written

entry-written : (w : ℕ) → Written (entry datatype w) (SaidEntry w) entry_values
unfolding entry entry_values
entry-written w =
    written_as (λ e. (λ k. (k.0, k.1.0, k.1.1.0), λ k. (k.0, (k.1, (k.2, refl))))) (λ e k. refl)
    (written-bind (λ (e : Entry). e.definition.name) (λ b e g h. ap (λ (e : Entry). e.definition.name) (sym h.1.1)) name-written
    (λ b. written-bind (λ (e : Entry). e.definition.datatype) (λ d e g h. ap (λ (e : Entry). e.definition.datatype) (sym h.1)) datatype-written
    (λ d. written-bind (λ (e : Entry). e.number) (λ x e g h. ap (λ (e : Entry). e.number) (sym h)) (written-bits w)
    (λ x. written-end (record { definition = record { name = b; datatype = d }; number = x })))))

-- ---- layout sheets

-- the attributes, the kind and the alignment of what is said
abbrev entries_of : Contents → List Entry
entries_of (placed cs) = map call_entry cs
entries_of (given xs a) = map given_entry xs

abbrev kind_of : Contents → ℕ
kind_of (placed cs) = 0
kind_of (given xs a) = 1

abbrev alignment_of : Contents → ℕ
alignment_of (placed cs) = 0
alignment_of (given xs a) = a

abbrev calls_of : Contents → List Call
calls_of (placed cs) = cs
calls_of (given xs a) = []

packing-number : (n : ℕ) → packing_number (packing n) ≡ n
unfolding packing_number packing
packing-number n = ⊎_elim (λ e. rw e (sym (eqb-true n 0 e))) (λ e. rw e) (decide (eqb n 0))

pub call-entries : (es : List Entry) → map call_entry (map call_of es) ≡ es
unfolding call_entry call_of
call-entries [] = refl
call-entries (e ∷ es) = λ i. record { definition = e.definition; number = packing-number e.number i } ∷ call-entries es i

pub given-entries : (es : List Entry) → map given_entry (map given_of es) ≡ es
unfolding given_entry given_of
given-entries [] = refl
given-entries (e ∷ es) = ap (λ (r : List Entry). e ∷ r) (given-entries es)

given-attributes : (xs : List Attribute) → map given_of (map given_entry xs) ≡ xs
unfolding given_entry given_of
given-attributes [] = refl
given-attributes (x ∷ xs) = ap (λ (r : List Attribute). x ∷ r) (given-attributes xs)

abbrev PlacedGood : ℕ → Contents → Type 0
PlacedGood k c = ((length (entries_of c) ≡ k) × Each (SaidEntry 8) (entries_of c)) × (placed (map call_of (entries_of c)) ≡ c)

placed-written : (k : ℕ) → Written (placed_format datatype k) (PlacedGood k) (λ c. flat_map entry_values (entries_of c) ++ [])
unfolding placed_format
placed-written k =
    written-bind entries_of (λ es c g h. ap entries_of (sym h) ∙ call-entries es) (written-times (entry-written 8) k) (λ es. written-end (placed (map call_of es)))

abbrev GivenGood : ℕ → Contents → Type 0
GivenGood k c = (alignment_of c < 2 ^ 16) × (((length (entries_of c) ≡ k) × Each (SaidEntry 16) (entries_of c)) × (given (map given_of (entries_of c)) (alignment_of c) ≡ c))

given-written : (k : ℕ) → Written (given_format datatype k) (GivenGood k) (λ c. alignment_of c ∷ (flat_map entry_values (entries_of c) ++ []))
unfolding given_format
given-written k =
    written-bind alignment_of (λ a c g h. ap alignment_of (sym h.1)) (written-bits 16)
    (λ a. written-bind entries_of (λ es c g h. ap entries_of (sym h) ∙ given-entries es) (written-times (entry-written 16) k) (λ es. written-end (given (map given_of es) a)))

-- as the format tells it
abbrev Good : Contents → Type 0
Good c = Inside 0 32 (length (entries_of c)) × ((kind_of c < 2 ^ 1) × cond (eqb (kind_of c) 0) (PlacedGood (length (entries_of c)) c) (GivenGood (length (entries_of c)) c))

abbrev values : Contents → List ℕ
values c =
    length (entries_of c)
    ∷ kind_of c
    ∷ cond (eqb (kind_of c) 0) (flat_map entry_values (entries_of c) ++ []) (alignment_of c ∷ (flat_map entry_values (entries_of c) ++ []))

good-written : Written layout_format Good values
unfolding layout_format format_over
good-written =
    written-bind (λ c. length (entries_of c)) count (written_from 3 0 32 6 (omega arith))
    (λ k. written-bind kind_of (kind k) (written-bits 1) (λ kind. written_either (eqb kind 0) (placed-written k) (given-written k)))
  where
    count : (k : ℕ) (c : Contents) → Inside 0 32 k → (kind_of c < 2 ^ 1) × cond (eqb (kind_of c) 0) (PlacedGood k c) (GivenGood k c) → length (entries_of c) ≡ k
    count k (placed cs) g h = h.1.0.0
    count k (given xs a) g h = h.1.1.0.0

    kind : (k b : ℕ) (c : Contents) → b < 2 ^ 1 → cond (eqb b 0) (PlacedGood k c) (GivenGood k c) → kind_of c ≡ b
    kind k b c g h =
        ⊎_elim
        (λ e. let q : PlacedGood k c = rw e at h in ap kind_of (sym q.1) ∙ sym (eqb-true b 0 e))
        (λ e. let q : GivenGood k c = rw e at h in ap kind_of (sym q.1.1) ∙ omega (arith, eqb-false b 0 e))
        (decide (eqb b 0))

pub inside-iff : (n : ℕ) → Inside 0 32 n ↔ (n ≤ 32)
inside-iff n = (λ k. (bounds 0 32 n k).1, λ k. inside 0 32 n (omega arith) k)

few : {A : Type 0} (f : A → Entry) (xs : List A) → Inside 0 32 (length (map f xs)) ↔ (length xs ≤ 32)
few f xs = rw (length-map xs f) (inside-iff (length xs))

pub layout-written : Written layout_format SaidLayout contents_values
unfolding contents_values
layout-written = written_as same out good-written
  where
    same : (c : Contents) → Good c ↔ SaidLayout c
    same (placed cs) = (
      λ k. ((few call_entry cs).0 k.0, k.1.1.0.1, ap calls_of k.1.1.1),
      λ k. ((few call_entry cs).1 k.0, (omega arith, ((refl, k.1), ap placed k.2))),
    )
    same (given xs a) = (
      λ k. ((few given_entry xs).0 k.0, k.1.1.0, k.1.1.1.0.1),
      λ k. ((few given_entry xs).1 k.0, (omega arith, (k.1, ((refl, k.2), ap (λ (ys : List Attribute). given ys a) (given-attributes xs))))),
    )

    out : (c : Contents) → SaidLayout c → values c ≡ contents_values c
    out (placed cs) h = rw (length-map cs call_entry, append-nil)
    out (given xs a) h = rw (length-map xs given_entry, append-nil)
