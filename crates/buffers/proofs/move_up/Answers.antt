use Rattle.std.proofs.Common.{◌≡◌, ◌≤◌, sym, ap, ◌∙◌, ◌+◌, ◌-◌, length, take, drop, get_or, arith, length-take, length-drop}
use Rattle.std.proofs.Math.ListN.{set}
use Rattle.std.proofs.lemmas.List.{get_or-take, get_or-drop, drop_all}
use Rattle.rows.specs.Buffers.{written}
use Rattle.rows.proofs.Buffers.{written_nil}
use Rattle.buffers.proofs.Written.{turn_back, unturned_back}
use Rattle.buffers.proofs.move_up.Goals as goal

pub loop-i-init : goal.loop-i-init
loop-i-init c =
    let part = take c.args.len (drop c.args.from c.args.b.now) in
    let long : length part ≤ c.args.len = simp (length-take, length-drop) (omega arith) in
    rw (drop_all c.args.len part long) (sym (written_nil c.args.b.now (c.args.to + c.args.len)))

pub loop-i-preserved : goal.loop-i-preserved
loop-i-preserved c =
    let b = c.args.b.now in
    let part = take c.args.len (drop c.args.from b) in
    let k = c.loop-i.i - 1 in
    let e : c.loop-i.i ≡ k + 1 = omega arith in
    let long : length part ≡ c.args.len = simp (length-take, length-drop) (omega arith) in
    let read : get_or c.loop-i.b (c.args.from + k) 0 ≡ get_or part k 0 =
    ap (λ l. get_or l (c.args.from + k) 0) c.loop-i.invariant
    ∙ unturned_back b c.args.to part c.loop-i.i (c.args.from + k) (omega arith) (omega arith)
    ∙ sym (get_or-take c.args.len (drop c.args.from b) k 0 (omega arith) ∙ get_or-drop c.args.from b k 0) in
    ap (set c.loop-i.b (c.args.to + k)) read
    ∙ ap (λ l. set l (c.args.to + k) (get_or part k 0)) (c.loop-i.invariant ∙ ap (λ n. written b (c.args.to + n) (drop n part)) e)
    ∙ turn_back b c.args.to part k (omega arith) (omega arith)
