-- `patterns::differ_at` meets its contract.
use Rattle.std.proofs.Common.{◌-◌, get_or, take, drop, arith}
use Rattle.patterns.proofs.Fronts.{front_most}
use Rattle.patterns.proofs.differ_at.Goals as goal

pub overflow_add-result : goal.overflow_add-result
overflow_add-result c =
    let g = c.args in
    let n = get_or g.table.now g.j 0 - g.j in
    let e = c.requires.0 in
    record {
      fits =
          omega (
            arith,
            e.past _ c.requires.2,
            e.within _ c.requires.2,
            e.most,
            c.from.ensures,
            rw c.from.ensures at c.count_same.ensures,
            front_most n (drop g.first g.row.now) (take n (drop g.j g.row.now)),
          );
    }
