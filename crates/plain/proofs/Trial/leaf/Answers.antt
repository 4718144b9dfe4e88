-- `plain::Trial::leaf` meets its contract: a number without children takes one symbol, or a whole tree.
use Rattle.std.proofs.Common.{sym, ◌∙◌, arith}
use borrow.Author.Tests.{eq-eqb, ne_eqb}
use Rattle.plain.proofs.Trying.{pattern_some, rest_some, tells_past, tells_through, tells_miss, passes_alike, misses_plain, comes_blank, passes_blank, variable_small, tells_met}
use Rattle.plain.proofs.Trial.leaf.Goals as goal

pub bounds-pattern-0 : goal.bounds-pattern-0
bounds-pattern-0 c = pattern_some _ _ _ _ _ _ _ _ _ c.requires.0 (omega arith)

pub bounds-rest-0 : goal.bounds-rest-0
bounds-rest-0 c = rest_some _ _ _ _ _ _ _ _ _ c.requires.0 (omega arith)

pub returns-then-rest-s : goal.returns-then-rest-s
returns-then-rest-s c = tells_past (passes_alike _ _ _ _ _ _ _ _ c.requires.0 (eq-eqb _ _ c.if-rest-s.true) c.requires.1)

pub returns-then-self-b : goal.returns-then-self-b
returns-then-self-b c =
    tells_through (comes_blank _ _ _ _ _ _ _ _ c.requires.0 (ne_eqb _ _ c.if-rest-s.false) (sym c.leaf_of.ensures ∙ c.in-Blank.is) c.if-self-b.true)

pub returns-else-self-b : goal.returns-else-self-b
returns-else-self-b c =
    tells_past (passes_blank _ _ _ _ _ _ _ _ c.requires.0 (ne_eqb _ _ c.if-rest-s.false) (sym c.leaf_of.ensures ∙ c.in-Blank.is) _ c.tree_length-n.ensures)

pub returns-in-Plain : goal.returns-in-Plain
returns-in-Plain c = tells_miss (misses_plain _ _ _ _ _ _ _ _ c.requires.0 (ne_eqb _ _ c.if-rest-s.false) (sym c.leaf_of.ensures ∙ c.in-Plain.is))

pub variable-requires : goal.variable-requires
variable-requires c = (
  c.requires.0.ahead,
  omega (arith, c.requires.0.placed, pattern_some _ _ _ _ _ _ _ _ _ c.requires.0 (omega arith)),
  variable_small _ _ _ _ _ _ _ _ c.requires.0 (ne_eqb _ _ c.if-rest-s.false) _ (sym c.leaf_of.ensures ∙ c.in-Variable.is),
)

pub returns-in-Variable : goal.returns-in-Variable
returns-in-Variable c =
    tells_met _ _ _ _ _ _ _ _ c.requires.0 (ne_eqb _ _ c.if-rest-s.false) _ (sym c.leaf_of.ensures ∙ c.in-Variable.is) _ _ _ c.variable.ensures
