-- The logic's usual names, passed on, so that a file brings them in by one line.
pub use Rattle.std.specs.Prelude.{◌≡◌, refl, true, Bool, false, cond, not, ◌&&◌, ◌||◌, List, [], ◌∷◌, ◌++◌, map, ◌⊎◌, ◌↔◌, eqb, leb, ltb, T, length, get_or, take, drop, set, replicate}
pub use Rattle.std.proofs.Common.{◌∙◌, sym, ap, subst, ap₂, append_assoc, append-nil, ⊎_elim, inl, inr, le_trans, lt_of_lt_of_le, le_of_eq, lt_of_le_of_lt, mod-lt, mul-le-mul_right, mod-eq_of_lt, zero-add, not-suc-le-zero, le_of_lt, le_of_suc-le-suc, mul_assoc, add-zero, add-mul, suc-mul, le-div_iff_mul-le, mul_comm, div-add-mod', zero-mul, mul-lt-mul_of_pos_right, div-lt_iff_lt-mul, sub-add_cancel, mul-one, add-suc, suc-add, mul-zero, one-mul, zero-lt-suc, mul-div_cancel, div-mul-le_self, add_assoc, mul-le-mul_left, eq-or-lt_of_le, le_antisymm, le-add_right, le_refl, arith, rules, lt-ltb, le-ltb, eq-eqb, ne_eqb, le-leb, eqb-true, leb-true, ltb-false, ltb-true, leb-false, lit≤, lit<, eqb→eq, ltb→lt, length-append, length-take, length-drop, length-set, take-append-drop}
pub use Rattle.std.proofs.Math.Bool.{and-true}
pub use Rattle.std.proofs.lemmas.List.{map-append, length-map, length-replicate}
unfoldable pub use mathlib.Core.List.{flat_map}
pub use Rattle.std.specs.List.{filter_map}
pub use Rattle.std.specs.Prelude.{None, Some, Option}
pub use Prim.Native.Nat.{ℕ, ◌≤◌, ◌<◌, ◌+◌, ◌-◌, ◌*◌, ◌^◌, suc, ◌%◌, zero, ◌/◌, min, max, compare, suc-le-suc, zero-le, Ordering}
pub use Rattle.std.proofs.Math.Nat.{pow-succ', min-eq_left, min-eq_right, div-eq_of_lt, div-div-eq-div-mul}
pub use Rattle.std.proofs.lemmas.Bool.{not-false, not-true, lt-leb, eqb-false}
pub use Rattle.std.proofs.Math.ListN.{get_or-append, get_or-eq_default}
