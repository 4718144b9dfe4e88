-- `catalogue_read::numbers::catalogue_row` meets its contract. The part that is lent holds the row.
use Rattle.std.proofs.Common.{ℕ, List, ◌≡◌, length, sym, ap, ◌∙◌, Err, arith}
use Rattle.std.proofs.lemmas.Grind.{common_steps}
use Rattle.rows.specs.Buffers.{written}
use Rattle.rows.proofs.Passing.{output_fine}
use Rattle.catalogue.specs.Reading.{row_in}
use Rattle.catalogue.specs.Refusals.{row_check}
use Rattle.catalogue_read.proofs.Taking.{takes_none, takes_all, row_past, row_room, row_count, row_there, row_is}
use Rattle.catalogue_read.proofs.numbers.catalogue_row.Goals as goal

pub returns-then-file-end : goal.returns-then-file-end
returns-then-file-end c =
    let a = c.args in
    let f = a.file.now in
    let b = a.row.now in
    takes_none (row_check f a.entry (length b)) (row_in f a.entry) b _ (row_past f a.entry (length b) c.if-file-end.true)

pub returns-in_err-check_room : goal.returns-in_err-check_room
returns-in_err-check_room c =
    let a = c.args in
    let f = a.file.now in
    let b = a.row.now in
    let said = row_room f a.entry (length b) c.if-file-end.false ∙ sym c.check_room.ensures ∙ c.in_err-check_room.was in
    let failed : c.from_residual.result ≡ Err c.in_err-check_room.field-0.0 = grind (arith, common_steps) in
    rw failed (takes_none (row_check f a.entry (length b)) (row_in f a.entry) b _ said)

pub decode-requires : goal.decode-requires
decode-requires c = (row_there c.args.file.now c.args.entry c.if-file-end.false, output_fine _ _ (sym c.check_room.ensures ∙ c.in_ok-check_room.was))

pub returns : goal.returns
returns c =
    let a = c.args in
    let f = a.file.now in
    let b = a.row.now in
    let e = a.entry in
    let within = c.if-file-end.false in
    takes_all (row_check f e (length b)) (row_in f e) b e.length _
    (row_room f e (length b) within ∙ sym c.check_room.ensures ∙ c.in_ok-check_room.was)
    (row_count f e within)
    (c.decode.ensures ∙ ap (λ (v : List ℕ). written b 0 v) (row_is f e within))
