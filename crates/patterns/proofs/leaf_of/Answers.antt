-- `patterns::leaf_of` meets its contract, test by test.
use Rattle.std.proofs.Common.{sym, ◌∙◌}
use Rattle.patterns.proofs.Leaves.{leaf-blank, leaf_variable, leaf_plain}
use Rattle.patterns.proofs.leaf_of.Goals as goal

pub returns-then-s-eq-BLANK : goal.returns-then-s-eq-BLANK
returns-then-s-eq-BLANK c = leaf-blank c.args.s c.if-s-eq-BLANK.true

pub returns-then-is_variable : goal.returns-then-is_variable
returns-then-is_variable c =
    rw c.from.ensures (leaf_variable c.args.s c.if-s-eq-BLANK.false (sym c.is_variable.ensures ∙ c.if-is_variable.true))

pub returns : goal.returns
returns c = leaf_plain c.args.s c.if-s-eq-BLANK.false (sym c.is_variable.ensures ∙ c.if-is_variable.false)
