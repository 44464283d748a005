-- `strided::copy_gapless` meets its contract: one copy leaves what the points leave that are stored one after the other.
use Rattle.std.specs.Prelude.{◌≡◌, ◌≤◌, ◌<◌, ◌+◌, ◌*◌}
use Rattle.common.specs.Logic.{true, refl, ℕ, arith}
use Rattle.strided.specs.Steps.{stored, RunFits, is_gapless}
use Rattle.strided.specs.declared.StridedCast.{StridedCast}
use Rattle.strided.proofs.Gapless.{source-room, target_room, gapless-copied}
use Rattle.strided.proofs.copy_gapless.Goals as goal

-- both runs lie within their buffers
room : (s : StridedCast) (n a b : ℕ) → is_gapless s ≡ true → RunFits s n a b → 0 < n → (s.source.base + n * s.source.stride ≤ a) × (s.target.base + n * s.source.stride ≤ b)
room s n a b g f k = (source-room s g n a b f k, target_room s g n a b f k)

pub returns-then-n-eq0 : goal.returns-then-n-eq0
unfolding stored
returns-then-n-eq0 c = rw c.if-n-eq0.true refl

pub overflow_mul-whole : goal.overflow_mul-whole
overflow_mul-whole c = let k : 0 < c.args.n = omega (arith, c.if-n-eq0.false) in omega (arith, room c.args.cast c.args.n _ _ c.requires.0 c.requires.1 k)

pub overflow_add-a : goal.overflow_add-a
overflow_add-a c = let k : 0 < c.args.n = omega (arith, c.if-n-eq0.false) in omega (arith, room c.args.cast c.args.n _ _ c.requires.0 c.requires.1 k)

pub overflow_add-b : goal.overflow_add-b
overflow_add-b c = let k : 0 < c.args.n = omega (arith, c.if-n-eq0.false) in omega (arith, room c.args.cast c.args.n _ _ c.requires.0 c.requires.1 k)

pub slice_bounds-copy_from_slice-end : goal.slice_bounds-copy_from_slice-end
slice_bounds-copy_from_slice-end c = let k : 0 < c.args.n = omega (arith, c.if-n-eq0.false) in (room c.args.cast c.args.n _ _ c.requires.0 c.requires.1 k).1

pub slice_bounds-copy_from_slice-end-2 : goal.slice_bounds-copy_from_slice-end-2
slice_bounds-copy_from_slice-end-2 c = let k : 0 < c.args.n = omega (arith, c.if-n-eq0.false) in (room c.args.cast c.args.n _ _ c.requires.0 c.requires.1 k).0

pub returns : goal.returns
returns c = gapless-copied c.args.cast c.requires.0 c.args.source.now c.args.target.now _ c.args.n c.requires.1 (omega (arith, c.if-n-eq0.false)) c.copy_from_slice.ensures.after
