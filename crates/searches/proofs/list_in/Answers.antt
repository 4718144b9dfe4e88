-- `searches::list_in` meets its contract: what was gathered at the front of the room is copied.
use Rattle.std.proofs.Common.{ap, take, ◌∙◌}
use Rattle.rows.specs.Buffers.{written}
use Rattle.searches.proofs.Writing.{front_taken}
use Rattle.searches.proofs.list_in.Goals as goal

pub returns : goal.returns
returns g c a k =
    let n = c.write_matches-count.ensures a k in
    let same = ap (take c.write_matches-count.result) n.told.2 ∙ front_taken _ n.positions _ n.told.0 in
    record {
      positions = n.positions;
      listed = n.listed;
      told = (n.told.0, c.if-out-count.false, c.copy_into.ensures ∙ ap (written c.args.out.now 0) same);
    }
