-- `plain::Trial::variable` meets its contract: a variable that has no length yet was not met.
-- What it tells once the symbols are compared follows from the two lemmas that the function itself names.
use Rattle.std.proofs.Common.{◌-◌, take, drop, sym, ◌∙◌, arith}
use Rattle.patterns.proofs.Fronts.{front_most}
use Rattle.plain.specs.Plain.{starts}
use Rattle.plain.proofs.Spelling.{first_within}
use Rattle.plain.proofs.Placing.{ahead_within, length_within, meets-through, meets-first}
use Rattle.plain.proofs.Trial.variable.Goals as goal

pub returns-then-self-b : goal.returns-then-self-b
returns-then-self-b c = meets-through _ _ _ _ _ _ _ c.requires.0 _ (sym c.from-n.ensures ∙ c.if-n-eq0.true) c.if-self-b.true _ _

pub overflow_cast-met-then-n-eq0 : goal.overflow_cast-met-then-n-eq0
overflow_cast-met-then-n-eq0 c =
    let s = c.args.self.now in
    record {
      fits =
          omega (
            arith,
            c.tree_length-long.ensures,
            first_within s.arities.now 1 c.args.rest.now,
            ahead_within s.arities.now s.told c.args.b _ _ _ _ c.requires.0 c.args.i,
            c.requires.0.most,
          );
    }

pub returns-then-n-eq0 : goal.returns-then-n-eq0
returns-then-n-eq0 c = meets-first _ _ _ _ _ _ _ c.requires.0 _ (sym c.from-n.ensures ∙ c.if-n-eq0.true) _ c.tree_length-long.ensures c.requires.2

pub overflow_add-result : goal.overflow_add-result
overflow_add-result c =
    let s = c.args.self.now in
    record {
      fits =
          omega (
            arith,
            length_within s.arities.now s.told c.args.b _ _ _ _ c.requires.0 c.args.i,
            ahead_within s.arities.now s.told c.args.b _ _ _ _ c.requires.0 c.args.i,
            c.requires.0.most,
            c.from-n.ensures,
            c.min.ensures,
            c.count_same-equal.ensures,
            front_most c.min.result (drop (c.from-first.result - 1) s.part.now) (take c.min.result (drop (starts s.part.now c.args.rest.now) s.part.now)),
          );
    }
