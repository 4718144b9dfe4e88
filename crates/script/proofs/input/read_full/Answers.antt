use Rattle.std.proofs.Common.{rules, ◌-◌, length}
use Rattle.script.proofs.Pieces.{read-on}
use Rattle.script.proofs.input.read_full.Goals as goal

pub loop-done-preserved : goal.loop-done-preserved
loop-done-preserved g c =
    let before = c.loop-done.invariant in
    let ok = c.in-Ok.ensures in
    (search rules, search rules, read-on _ _ _ c.loop-done.done (length c.loop-done.room - c.loop-done.done) c.in-Ok.n c.loop-done.room c.read.new.buf before.0 ok.bound.0 before.2 ok.bytes.0)
