-- Parts of a file that lie one after another in a block: how long the block is, and which byte of the file each of its bytes is.
use Rattle.std.specs.Prelude.{◌≡◌, ◌++◌, ◌≤◌, ◌<◌, ◌+◌, ◌-◌}
use Rattle.common.specs.Logic.{◌∙◌, sym, ap, subst, List, flat_map, ⊎_elim, ℕ, zero, suc, le_of_suc-le-suc, not-suc-le-zero, eq-or-lt_of_le, arith, length, get_or, drop, length-append, length-take, length-drop, get_or-append}
use lib.Seq.{get_or-take, get_or-drop, get_or-append-add}
use Rattle.common.specs.Lists.{tabulate}
use Rattle.common.proofs.Lists.{order, flat_map-snoc}
use Rattle.point_blocks.specs.Parts.{part_in}
use Rattle.point_blocks.specs.declared.Part.{Part}

-- a byte of the block is one of a part's
pub record Found (part : ℕ → Part) (n z : ℕ) : Type 0 where
  pub k : ℕ
  pub y : ℕ
  pub listed : k < n
  pub inside : y < (part k).length
  pub is : z ≡ (part k).start + y

module _ (part : ℕ → Part) (file : List ℕ) where
  -- the first n parts
  abbrev pub joined : ℕ → List ℕ
  joined n = flat_map (part_in file) (tabulate part n)

  joined-more : (n : ℕ) → joined (suc n) ≡ joined n ++ part_in file (part n)
  unfolding tabulate
  joined-more n = flat_map-snoc (part_in file) (tabulate part n) (part n)

  -- one after another, and within the file
  pub record Chain (n : ℕ) : Type 0 where
    pub first_part : 0 < n → (part 0).start ≡ 0
    pub next-part : (k : ℕ) → suc k < n → (part (suc k)).start ≡ (part k).start + (part k).length
    pub within : (k : ℕ) → k < n → (part k).at + (part k).length ≤ length file

  module _ (n : ℕ) (C : Chain n) where
    length_part : (k : ℕ) → k < n → length (part_in file (part k)) ≡ (part k).length
    length_part k h = simp (length-take, length-drop) (omega (arith, C.within k h))

    -- what lies before a part
    before : (k : ℕ) → k < n → length (joined k) ≡ (part k).start
    unfolding tabulate flat_map
    before zero h = sym (C.first_part h)
    before (suc k) h =
        ap length (joined-more k) ∙ length-append (joined k) (part_in file (part k))
        ∙ omega (arith, before k (omega arith), length_part k (omega arith), C.next-part k h)

    pub with_part : (k : ℕ) → k < n → length (joined (suc k)) ≡ (part k).start + (part k).length
    with_part k h =
        ap length (joined-more k) ∙ length-append (joined k) (part_in file (part k)) ∙ omega (arith, before k h, length_part k h)

    -- byte y of part k
    pub byte_of : (m k y : ℕ) → k < m → m ≤ n → y < (part k).length → ((part k).start + y < length (joined m)) × (get_or (joined m) ((part k).start + y) 0 ≡ get_or file ((part k).at + y) 0)
    byte_of zero k y h g hy = absurd (not-suc-le-zero h)
    byte_of (suc m) k y h g hy =
        ⊎_elim last (λ q. earlier (byte_of m k y q (omega arith) hy)) (eq-or-lt_of_le (le_of_suc-le-suc h))
      where
        last : k ≡ m → ((part k).start + y < length (joined (suc m))) × (get_or (joined (suc m)) ((part k).start + y) 0 ≡ get_or file ((part k).at + y) 0)
        last e =
            let hk : k < n = omega arith in
            let b = before k hk in
            subst (λ (z : ℕ). ((part k).start + y < length (joined (suc z))) × (get_or (joined (suc z)) ((part k).start + y) 0 ≡ get_or file ((part k).at + y) 0)) e (
              omega (arith, with_part k hk),
              ap (λ (xs : List ℕ). get_or xs ((part k).start + y) 0) (joined-more k)
                  ∙ ap (λ (z : ℕ). get_or (joined k ++ part_in file (part k)) (z + y) 0) (sym b)
                  ∙ get_or-append-add (joined k) (part_in file (part k)) y 0 ∙ get_or-take (part k).length (drop (part k).at file) y 0 hy ∙ get_or-drop (part k).at file y 0,
            )

        earlier : ((part k).start + y < length (joined m)) × (get_or (joined m) ((part k).start + y) 0 ≡ get_or file ((part k).at + y) 0)
            → ((part k).start + y < length (joined (suc m))) × (get_or (joined (suc m)) ((part k).start + y) 0 ≡ get_or file ((part k).at + y) 0)
        earlier r = (
          omega (arith, r.0, ap length (joined-more m), length-append (joined m) (part_in file (part m))),
          ap (λ (xs : List ℕ). get_or xs ((part k).start + y) 0) (joined-more m) ∙ get_or-append (joined m) (part_in file (part m)) 0 ((part k).start + y) r.0 ∙ r.1,
        )

    -- each byte is
    pub find : (m z : ℕ) → m ≤ n → z < length (joined m) → Found part n z
    unfolding tabulate flat_map
    find zero z g h = absurd (not-suc-le-zero h)
    find (suc m) z g h =
        ⊎_elim (λ (q : length (joined m) ≤ z).
        let b = before m (omega arith) in
        record { k = m; y = z - (part m).start; listed = omega arith; inside = omega (arith, with_part m (omega arith)); is = omega arith })
        (λ q. find m z (omega arith) q) (order (length (joined m)) z)
