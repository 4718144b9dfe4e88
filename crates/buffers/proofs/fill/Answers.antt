use Rattle.std.proofs.Common.{sym, ◌∙◌, ap, ◌≡◌, ◌-◌, length, take, drop, replicate, arith, length-take, length-drop}
use Rattle.std.proofs.lemmas.List.{length-replicate}
use Rattle.rows.proofs.Buffers.{written_nil}
use Rattle.buffers.proofs.Written.{written_part}
use Rattle.buffers.proofs.fill.Goals as goal

pub returns-then-from-to : goal.returns-then-from-to
returns-then-from-to c =
    let n = c.args.to - c.args.from in
    let x = c.args.x in
    let long : length (take n (drop c.args.from c.args.b.now)) ≡ n = simp (length-take, length-drop) (omega arith) in
    let filled : c.fill.new.self ≡ replicate n x = c.fill.ensures.after (λ y h. h) ∙ ap (λ k. replicate k x) long in
    rw filled (written_part c.args.b.now (replicate n x) c.args.from n (length-replicate n x))

pub returns-else-from-to : goal.returns-else-from-to
returns-else-from-to c =
    let none : c.args.to - c.args.from ≡ 0 = omega arith in
    rw none (sym (written_nil c.args.b.now c.args.from))
