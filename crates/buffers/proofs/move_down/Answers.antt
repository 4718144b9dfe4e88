use Rattle.std.proofs.Common.{◌≡◌, sym, ap, ◌∙◌, ◌+◌, length, take, drop, get_or, arith, length-take, length-drop}
use Rattle.std.proofs.Math.ListN.{set}
use Rattle.std.proofs.lemmas.List.{get_or-take, get_or-drop}
use Rattle.rows.proofs.Buffers.{written_nil}
use Rattle.buffers.proofs.Written.{turn, unturned}
use Rattle.buffers.proofs.move_down.Goals as goal

pub loop-i-init : goal.loop-i-init
loop-i-init c = sym (written_nil c.args.b.now c.args.to)

pub loop-i-preserved : goal.loop-i-preserved
loop-i-preserved c =
    let i = c.loop-i.i in
    let b = c.args.b.now in
    let part = take c.args.len (drop c.args.from b) in
    let long : length part ≡ c.args.len = simp (length-take, length-drop) (omega arith) in
    let read : get_or c.loop-i.b (c.args.from + i) 0 ≡ get_or part i 0 =
    ap (λ l. get_or l (c.args.from + i) 0) c.loop-i.invariant
    ∙ unturned b c.args.to part i (c.args.from + i) (omega arith) (omega arith) (omega arith)
    ∙ sym (get_or-take c.args.len (drop c.args.from b) i 0 (omega arith) ∙ get_or-drop c.args.from b i 0) in
    ap (set c.loop-i.b (c.args.to + i)) read
    ∙ ap (λ l. set l (c.args.to + i) (get_or part i 0)) c.loop-i.invariant
    ∙ turn b c.args.to part i (omega arith) (omega arith)
