-- Each point of a view that was made is read: the attribute ends within its point, and the point within the bytes.
use Rattle.std.specs.Prelude.{◌≡◌, ◌≤◌, ◌<◌, ◌+◌, ◌*◌}
use Rattle.common.specs.Logic.{ℕ, suc, mul-le-mul_right, suc-mul, arith, not-false, le-ltb, eqb-true, ltb-true}
use Rattle.common.specs.Refusal.{got}
use Rattle.common.proofs.Refusals.{passes-cons, check-got, check-passes}
use Rattle.datatype.specs.Datatype.{size_of}
use Rattle.layout.specs.Layout.{at, end_of, Layout}
use Rattle.layout.proofs.Bytes.{sound-disjoint}
use Rattle.raw_attribute_view.specs.Claims.{ReadClaim}
use Rattle.raw_attribute_view.specs.View.{Numbers, read_lines, start_in, view_lines, fields_of}

module _ (l : Layout) (place count n i : ℕ) (v : Numbers) (made : fields_of l place count n ≡ got v) (listed : i < count) where
  reads : start_in n v.offset v.stride v.size i ≡ got (i * l.size + (at l.attributes place).offset)
  unfolding fields_of view_lines start_in read_lines end_of
  reads =
      let g = check-got _ _ _ made in
      let sound = passes-cons _ _ _ g.0 in
      let place-listed = passes-cons _ _ _ sound.1 in
      let long = passes-cons _ _ _ place-listed.1 in
      let end = (sound-disjoint l (not-false _ sound.0)).within place (ltb-true _ _ (not-false _ place-listed.0)) in
      let whole : n ≡ count * l.size = eqb-true _ _ (not-false _ long.0) in
      let points : suc i * l.size ≤ count * l.size = mul-le-mul_right l.size listed in
      let point : suc i * l.size ≡ i * l.size + l.size = suc-mul i l.size in
      let within : i * l.size + (at l.attributes place).offset + size_of (at l.attributes place).definition.datatype ≤ n = omega (arith, end, whole, points, point) in
      rw (← g.1) (check-passes 18 (i * l.size + (at l.attributes place).offset) (le-ltb _ _ within))

pub read-claim : ReadClaim
read-claim = record { reads = reads }
