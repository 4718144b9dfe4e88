use Rattle.std.proofs.Common.{◌∙◌, ◌≡◌, length, take, append-nil, arith, length-take}
use Rattle.std.proofs.lemmas.List.{drop_all}
use Rattle.wire.specs.Wire.{numbers}
use Rattle.wire.proofs.Numbers.{read_front}
use Rattle.wire.proofs.decode.Goals as goal

pub returns : goal.returns
returns c =
    let n = c.args.n in
    let room = c.args.room.now in
    let long : length (take n room) ≡ n = simp length-take (omega arith) in
    let all : c.loop-i.i ≡ n = omega arith in
    let read = take n (numbers c.args.bytes.now) in
    let done : c.loop-i.place-items ≡ read = c.loop-i.invariant ∙ rw (all, drop_all n (take n room) (omega arith)) (append-nil read) in
    rw done (read_front (numbers c.args.bytes.now) room n c.requires.0)
