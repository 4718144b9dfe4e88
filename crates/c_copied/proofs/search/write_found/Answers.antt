-- The matches at the front of the room are written to the output, if it has room for them.
use Rattle.std.proofs.Common.{◌≡◌, ◌∙◌, ap, sym, Err, rules, arith, length-take-le}
use Rattle.rows.specs.Programme.{programme_of}
use Rattle.rows.specs.Refusals.{output}
use Rattle.rows.proofs.Passing.{output_fine}
use Rattle.checks.proofs.Passing.{search_checked}
use Rattle.wire.specs.Wire.{Bytes}
use Rattle.c_copied.proofs.Checks.{output_refused}
use Rattle.c_copied.proofs.Found.{found-short, found_all}
use Rattle.c_copied.proofs.search.write_found.Goals as goal
use Rattle.c_copied.proofs.search.write_found.Goals.{In_ok-check_room, After-write_matches-count}

pub returns-in_err-check_room : goal.returns-in_err-check_room
returns-in_err-check_room c a e =
    let P = programme_of c.args.programme in
    let q = c.args.pattern.now in
    let n = c.write_matches-count in
    let small : Bytes c.args.out.now = search rules in
    let refuses : output n.result c.count.result ≡ Err c.in_err-check_room.field-0.0 = sym c.check_room.ensures ∙ c.in_err-check_room.was in
    let is : c.from_residual.result ≡ Err c.in_err-check_room.field-0.0 = search rules in
    let short = output_refused n.result c.count.result _ refuses in
    found-short a P q c.args.out.now small e c.args.room.now n.new.out n.result (n.ensures a (search_checked a P q e)) (omega (arith, short.0, c.count.ensures)) c.from_residual.result (is ∙ ap Err short.1)

pub encode-requires : goal.encode-requires
encode-requires c =
    let n = c.write_matches-count in
    let within = (n.ensures c.requires.0.0 c.requires.0.1).told.1 in
    let fits = output_fine n.result c.count.result (sym c.check_room.ensures ∙ c.in_ok-check_room.was) in
    omega (arith, length-take-le n.result n.new.out (omega (arith, within, n.auto.out)), fits, c.count.ensures)

pub returns : goal.returns
returns c a e =
    let P = programme_of c.args.programme in
    let q = c.args.pattern.now in
    let n = c.write_matches-count in
    let small : Bytes c.args.out.now = search rules in
    let fits = output_fine n.result c.count.result (sym c.check_room.ensures ∙ c.in_ok-check_room.was) in
    found_all a P q c.args.out.now small e c.args.room.now n.new.out n.result (n.ensures a (search_checked a P q e)) (omega (arith, fits, c.count.ensures)) c.encode.new.bytes c.encode.ensures
