-- What the code's records stand for, and what its functions hand back.
use Rattle.common.specs.Logic.{ℕ, min}
use Rattle.layout.specs.Layout.{Layout}
use Rattle.layout.specs.Records.{listed}
use Rattle.layout.specs.declared.point_layout.PointLayout.{PointLayout}
use Rattle.point_buffer.specs.Places.{sizes_before}
use Rattle.point_buffer.specs.declared.Storage.{Storage}
use Rattle.point_buffer.specs.declared.Storage.TheVariants.{Interleaved, Columns}

-- a layout with the members that the array has; no sound one counts more
unfoldable pub layout_in : PointLayout → Layout
layout_in l = record { attributes = listed l.attributes (min l.count 32); size = l.size; alignment = l.alignment }

-- the sizes that a column's start takes; a place in interleaved points takes none
unfoldable pub before_in : Layout → Storage → ℕ → ℕ
before_in l Interleaved j = 0
before_in l Columns j = sizes_before l.attributes j
