-- `Trial::node` and `Trial::children`, which call each other: the measure is twice the length of the pattern that is left, and one
-- more for the row of children. A node hands a shorter pattern to its row of children, which hands what is left of the same to
-- each node.
use Rattle.std.proofs.Common.{◌+◌, ◌*◌, ◌≤◌, length}
use Rattle.plain.specs.Plain.{Passes}
use Rattle.plain.proofs.Trial.+children_node.Given as goal

abbrev pub decreases-children : goal.decreases-children
decreases-children l = 2 * length l.pattern.now + 1

abbrev pub decreases-node : goal.decreases-node
decreases-node l = 2 * length l.pattern.now

-- the loop over the children: what fits so far
abbrev pub invariant-children-loop : goal.invariant-children-loop
invariant-children-loop l =
    (l.p ≤ length l.pattern) × (l.r ≤ length l.rest) × Passes l.self.arities.now l.b l.pattern l.self.part.now l.rest l.fn.met.marks l.counter l.p l.r l.met.marks l.met.lengths
