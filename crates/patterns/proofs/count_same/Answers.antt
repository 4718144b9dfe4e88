-- `patterns::count_same` meets its contract: behind the eights that are the same, singly counting goes on.
use Rattle.std.proofs.Common.{◌+◌, ◌-◌, take, drop, refl, sym, ◌∙◌, arith}
use Rattle.patterns.proofs.Fronts.{front_most, counted_start, alike_counted, stretch_last}
use Rattle.patterns.proofs.count_same.Goals as goal

pub overflow_add-result : goal.overflow_add-result
overflow_add-result c =
    let i = c.count_eights-i.result in
    let g = c.args in
    record {
      fits =
          omega (
            arith,
            c.count_eights-i.ensures.0,
            c.count_singly.ensures,
            front_most (g.n - i) (drop (g.a + i) g.row.now) (take (g.n - i) (drop (g.b + i) g.row.now)),
          );
    }

pub returns : goal.returns
returns c =
    let i = c.count_eights-i.result in
    let g = c.args in
    let eights = c.count_eights-i.ensures in
    sym (
    counted_start g.row.now g.a g.b g.n 0 c.requires.0 c.requires.1
    ∙ alike_counted g.row.now g.a g.b g.n i c.requires.0 c.requires.1 eights.0 eights.1
    ∙ stretch_last g.row.now g.a g.b g.n i (g.n - i) _ c.count_singly.ensures refl
    )
