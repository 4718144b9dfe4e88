-- `patterns::miss_at` meets its contract, by the kind of the number.
use Rattle.std.proofs.Common.{sym, ap, ◌∙◌, arith}
use mathlib.Core.Logic.{⊎_elim}
use Rattle.patterns.specs.Walk.{Outcome.misses}
use Rattle.patterns.proofs.Steps.{variable_small, steps_plain, blank_fits, variable_misses}
use Rattle.patterns.proofs.miss_at.Goals as goal

pub offset_bounds-marks-i : goal.offset_bounds-marks-i
offset_bounds-marks-i c = record { fits = omega (arith, variable_small c.args.s c.in-Variable.i (sym c.leaf_of.ensures ∙ c.in-Variable.is)) }

pub bounds-marks-i : goal.bounds-marks-i
bounds-marks-i c = variable_small c.args.s c.in-Variable.i (sym c.leaf_of.ensures ∙ c.in-Variable.is)

pub overflow_sub-first : goal.overflow_sub-first
overflow_sub-first c =
    let g = c.args in
    let m = variable_misses g.programme.row.now g.programme.table.now g.k g.s g.j g.marks.now c.requires.ends.3 c.in-Variable.i (sym c.leaf_of.ensures ∙ c.in-Variable.is) c.requires.marks_value in
    omega (arith, m.0, c.from-first.ensures)

pub differ_at-requires : goal.differ_at-requires
differ_at-requires c =
    let g = c.args in
    let m = variable_misses g.programme.row.now g.programme.table.now g.k g.s g.j g.marks.now c.requires.ends.3 c.in-Variable.i (sym c.leaf_of.ensures ∙ c.in-Variable.is) c.requires.marks_value in
    (c.requires.ends.0, omega (arith, m.0, c.from-first.ensures, c.requires.ends.1.all c.in-Variable.i), c.requires.ends.2)

pub returns-in-Plain : goal.returns-in-Plain
returns-in-Plain c =
    let g = c.args in
    let p = g.programme in
    ⊎_elim (λ e. steps_plain p.row.now p.table.now g.k g.s g.j g.marks.now c.requires.ends.3 (sym c.leaf_of.ensures ∙ e))
    (λ e. absurd (blank_fits p.row.now p.table.now g.k g.s g.j g.marks.now c.requires.ends.3 (sym c.leaf_of.ensures ∙ e) c.requires.marks_value))
    c.in-Plain.is

pub returns-in-Variable : goal.returns-in-Variable
returns-in-Variable c =
    let g = c.args in
    let m = variable_misses g.programme.row.now g.programme.table.now g.k g.s g.j g.marks.now c.requires.ends.3 c.in-Variable.i (sym c.leaf_of.ensures ∙ c.in-Variable.is) c.requires.marks_value in
    m.1 ∙ ap (misses g.k) (sym (rw c.from-first.ensures at c.differ_at.ensures))
