-- The symbols before i are counted.
use Rattle.std.proofs.Common.{◌-◌, length}
use Rattle.plain.specs.Plain.{Counting}
use Rattle.plain.proofs.tree_length.Given as goal

abbrev pub invariant-loop-i : goal.invariant-loop-i
invariant-loop-i l = Counting l.arities l.rest l.i l.due

abbrev pub decreases-loop-i : goal.decreases-loop-i
decreases-loop-i l = length l.rest - l.i
