-- The lent buffers of a row, its table and its classes, as one value.
use Rattle.std.specs.Prelude.{◌≡◌}
use Rattle.rows.specs.Programme.{Programme, programme}
use Rattle.edits.specs.declared.Buffers.{Buffers}

-- the lists that they hold
abbrev pub buffers_of : Buffers → Programme
buffers_of b = programme b.row.now b.table.now b.classes.now

-- the same buffers are lent; what they hold may differ
pub record SameBuffers (b b' : Buffers) : Type 0 where
  pub row : b'.row.ghost_name ≡ b.row.ghost_name
  pub table : b'.table.ghost_name ≡ b.table.ghost_name
  pub classes : b'.classes.ghost_name ≡ b.classes.ghost_name
