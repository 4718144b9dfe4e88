-- `seek_text::input::read_input` meets its contract. The lines are read one after the other, each behind the one before.
use Rattle.std.proofs.Common.{◌≡◌, Err, rules}
use Rattle.decimal.proofs.Lining.{room_next}
use Rattle.seek_text.specs.Seek.{InputRefused.long}
use Rattle.seek_text.proofs.Texts.{top_room, refused-first, refused_second, refused_third, refused_fourth, lists_read}
use Rattle.seek_text.proofs.input.read_input.Goals as goal

pub returns-then-input-gt-INPUT_MOST : goal.returns-then-input-gt-INPUT_MOST
returns-then-input-gt-INPUT_MOST c = long c.if-input-gt-INPUT_MOST.true

pub next_line-requires-2 : goal.next_line-requires-2
next_line-requires-2 c =
    (room_next (top_room c.args.input.now c.args.numbers.now c.if-input-gt-INPUT_MOST.false c.requires) c.in_ok-arities.ensures).0

pub next_line-requires-3 : goal.next_line-requires-3
next_line-requires-3 c =
    let first = room_next (top_room c.args.input.now c.args.numbers.now c.if-input-gt-INPUT_MOST.false c.requires) c.in_ok-arities.ensures in
    (room_next first.0 c.in_ok-row.ensures).0

pub returns-in_err-arities : goal.returns-in_err-arities
returns-in_err-arities c =
    let e : c.from_residual.result ≡ Err c.in_err-arities.field-0.0 = search rules in
    let s = c.in_err-arities.ensures in
    rw (e, s.1) (refused-first c.args.input.now c.args.numbers.now c.if-input-gt-INPUT_MOST.false s.0 s.2)

pub returns-in_err-row : goal.returns-in_err-row
returns-in_err-row c =
    let e : c.from_residual-in_err-row.result ≡ Err c.in_err-row.field-0.0 = search rules in
    let s = c.in_err-row.ensures in
    rw (e, s.1) (refused_second c.args.input.now c.args.numbers.now c.if-input-gt-INPUT_MOST.false c.in_ok-arities.ensures s.0 s.2)

pub returns-in_err-pattern : goal.returns-in_err-pattern
returns-in_err-pattern c =
    let e : c.from_residual-in_err-pattern.result ≡ Err c.in_err-pattern.field-0.0 = search rules in
    let s = c.in_err-pattern.ensures in
    rw (e, s.1) (refused_third c.args.input.now c.args.numbers.now c.if-input-gt-INPUT_MOST.false c.in_ok-arities.ensures c.in_ok-row.ensures s.0 s.2)

pub returns-then-fourth-input : goal.returns-then-fourth-input
returns-then-fourth-input c =
    refused_fourth c.args.input.now c.args.numbers.now c.if-input-gt-INPUT_MOST.false c.in_ok-arities.ensures c.in_ok-row.ensures c.in_ok-pattern.ensures c.if-fourth-input.true

pub returns : goal.returns
returns c =
    lists_read c.args.input.now c.args.numbers.now c.if-input-gt-INPUT_MOST.false c.in_ok-arities.ensures c.in_ok-row.ensures c.in_ok-pattern.ensures c.requires c.if-fourth-input.false
