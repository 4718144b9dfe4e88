-- `patterns::step` meets its contract, by the kind of the number.
use Rattle.std.proofs.Common.{get_or, sym, ◌∙◌, arith}
use mathlib.Core.Path.{subst₂}
use Rattle.patterns.specs.Walk.{Outcome.misses, Outcome.reaches, meets, Stepping}
use Rattle.patterns.proofs.Steps.{answers, answers_at, variable_small, steps_plain, steps-blank, steps_variable, met_by_class}
use Rattle.patterns.proofs.step.Goals as goal

pub meet-requires : goal.meet-requires
meet-requires c =
    record {
      most = omega (arith, c.requires.0.most, c.requires.3);
      long = omega (arith, c.requires.1.long, c.requires.3);
      variable = variable_small c.args.s _ (sym c.leaf_of.ensures ∙ c.in-Variable.is);
      marks = c.requires.2;
    }

pub returns-in-Plain : goal.returns-in-Plain
returns-in-Plain c k =
    let g = c.args in
    let p = g.programme in
    answers _ (misses k g.j) g.marks.now
    (steps_plain p.row.now p.table.now k g.s g.j g.marks.now c.requires.4 (sym c.leaf_of.ensures ∙ c.in-Plain.is))

pub returns-in-Blank : goal.returns-in-Blank
returns-in-Blank c k =
    let g = c.args in
    let p = g.programme in
    rw c.from-end.ensures
    (answers _ (reaches (get_or p.table.now g.j 0) g.marks.now) g.marks.now
    (steps-blank p.row.now p.table.now k g.s g.j g.marks.now c.requires.4 (sym c.leaf_of.ensures ∙ c.in-Blank.is)))

pub returns-in-Variable : goal.returns-in-Variable
returns-in-Variable c k =
    let g = c.args in
    let p = g.programme in
    let m = rw c.from-end.ensures at c.meet.ensures.0 in
    answers_at _ _ g.marks.now c.meet.result _
    (steps_variable p.row.now p.table.now k g.s g.j g.marks.now c.requires.4 _ (sym c.leaf_of.ensures ∙ c.in-Variable.is))
    (subst₂ (Stepping (meets p.row.now (get_or p.table.now g.j 0) k g.j g.marks.now c.in-Variable.i (get_or g.marks.now c.in-Variable.i 0)) g.marks.now) (sym m) (sym c.meet.ensures.1)
    (met_by_class p.row.now p.table.now p.classes.now k g.j g.marks.now c.in-Variable.i c.requires.1 c.requires.3 (c.requires.2.all c.in-Variable.i)))
