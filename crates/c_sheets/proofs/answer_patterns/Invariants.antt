-- The first i patterns are answered, and the next begins at `begin`; the rooms keep their lengths.
use Rattle.std.proofs.Common.{◌≡◌, ◌≤◌, length}
use Rattle.rows.specs.Limits.{pattern_most}
use Rattle.rows.specs.Programme.{alphabet_of}
use Rattle.rows.specs.Sheet.{begin_of}
use Rattle.wire.specs.Wire.{numbers}
use Rattle.c_sheets.specs.Sheets.{AnsweredBytes}
use Rattle.c_sheets.proofs.answer_patterns.Given as goal

abbrev pub invariant-loop-i : goal.invariant-loop-i
invariant-loop-i l =
    (l.begin ≡ begin_of l.fn.lengths l.i)
    × AnsweredBytes (alphabet_of l.fn.arities) l.fn.programme.row.now (numbers l.fn.patterns) l.fn.lengths l.i l.fn.out l.fn.results l.count l.out l.results
    × (length l.fn.programme.row.now ≤ length l.room)
    × (pattern_most ≤ length l.q)
