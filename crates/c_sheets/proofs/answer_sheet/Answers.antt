-- The positions are gathered beside the output.
use Rattle.std.proofs.Common.{ℕ, ◌≡◌, ◌∙◌, ◌*◌, ◌≤◌, sym, ap, List, length, Err, rules, arith, length-take, length-take-le}
use Rattle.rows.specs.Limits.{result_places, row_most}
use Rattle.rows.specs.Programme.{Alphabet, Programme, alphabet_of, programme_of}
use Rattle.rows.specs.Buffers.{written}
use Rattle.rows.proofs.Passing.{output_fine}
use Rattle.sheets.specs.Sheets.{Answerable}
use Rattle.sheets.proofs.Sheets.{results_length, laid-few, row_most_lem, front_read}
use Rattle.sparrowhem.proofs.Sheeting.{every, threes, sheet_answerable}
use Rattle.wire.specs.Wire.{numbers, bytes_of, Bytes}
use Rattle.wire.proofs.Numbers.{numbers-length, bytes_of-length}
use Rattle.c_copied.proofs.Checks.{output_refused}
use Rattle.c_sheets.proofs.Calls.{sheet-bytes-short, sheet-bytes_all}
use Rattle.c_sheets.proofs.answer_sheet.Goals as goal
use Rattle.c_sheets.proofs.answer_sheet.Goals.{Start}

module _ (s : Start) where
  abbrev a : Alphabet
  a = alphabet_of s.args.arities.now

  abbrev P : Programme
  P = programme_of s.args.programme

  abbrev qs : List ℕ
  qs = numbers s.args.patterns.now

  abbrev ls : List ℕ
  ls = s.args.lengths.now

  abbrev out : List ℕ
  out = s.args.positions.now

  abbrev res : List ℕ
  res = s.args.results.now

  abbrev ps : List ℕ
  ps = every a P qs ls (numbers out) (numbers res)

  abbrev rs : List ℕ
  rs = threes a P qs ls (numbers out) (numbers res)

  able : Answerable a P qs ls (numbers res)
  able = sheet_answerable a P qs ls (numbers out) (numbers res) s.requires.0

  -- the local list has room for the results
  able_kept : (kept : List ℕ) → 192 ≤ length kept → Answerable a P qs ls kept
  able_kept kept e = record { given = able.given; few = able.few; sum = able.sum; room = omega (arith, able.few) }

  rs_length : length rs ≡ result_places * length ls
  rs_length = results_length a P.row qs ls (length ls)

  ps_few : length ps ≤ row_most * length ls
  ps_few = laid-few a P able.given qs ls row_most (length ls) (row_most_lem a P able.given)

pub answer_patterns-count-requires : goal.answer_patterns-count-requires
answer_patterns-count-requires c =
    (able_kept (goal.at.answer_patterns-count-requires c).Start _ (search rules), c.requires.1)

pub returns-in_err-check_room : goal.returns-in_err-check_room
returns-in_err-check_room c =
    let s = (goal.at.returns-in_err-check_room c).Start in
    let n = c.answer_patterns-count in
    let small : Bytes c.args.positions.now = search rules in
    let small_results : Bytes c.args.results.now = search rules in
    let is : c.from_residual.result ≡ Err c.in_err-check_room.field-0.0 = search rules in
    let short = output_refused n.result c.count.result _ (sym c.check_room.ensures ∙ c.in_err-check_room.was) in
    sheet-bytes-short (a s) (P s) (qs s) (ls s) (out s) (res s) small small_results c.requires.0 n.result n.ensures.count (omega (arith, short.0, c.count.ensures)) c.from_residual.result (is ∙ ap Err short.1)

pub answer_patterns-requires : goal.answer_patterns-requires
answer_patterns-requires c =
    let s = (goal.at.answer_patterns-requires c).Start in
    let m = c.answer_patterns-count in
    (able_kept s _ (omega (arith, m.auto.results)), omega (arith, c.requires.1, m.auto.room))

pub slice_bounds-kept-end : goal.slice_bounds-kept-end
slice_bounds-kept-end c =
    let s = (goal.at.slice_bounds-kept-end c).Start in
    omega (arith, (able s).few, c.answer_patterns-count.auto.results)

pub slice_bounds-encode-end : goal.slice_bounds-encode-end
slice_bounds-encode-end c =
    let s = (goal.at.slice_bounds-encode-end c).Start in
    sym (length-take-le _ _ (omega (arith, (able s).few, c.answer_patterns-count.auto.results)))

pub encode-requires : goal.encode-requires
encode-requires c =
    let s = (goal.at.encode-requires c).Start in
    omega (arith, length-take (3 * length c.args.lengths.now) c.answer_patterns.new.results, (able s).room)

pub returns-then-count : goal.returns-then-count
returns-then-count c =
    let s = (goal.at.returns-then-count c).Start in
    let first = c.answer_patterns-count in
    let again = c.answer_patterns in
    let small : Bytes c.args.positions.now = search rules in
    let small_results : Bytes c.args.results.now = search rules in
    let room = output_fine first.result c.count.result (sym c.check_room.ensures ∙ c.in_ok-check_room.was) in
    let fits : first.result ≤ length (numbers (out s)) = omega (arith, room, c.count.ensures) in
    sheet-bytes_all (a s) (P s) (qs s) (ls s) (out s) (res s) small small_results c.requires.0 first.result first.ensures.count fits _ _
    (again.ensures.positions.front (omega (arith, first.ensures.count, fits)))
    (c.encode.ensures ∙ ap (λ (l : List ℕ). written (res s) 0 (bytes_of l)) (front_read _ _ (rs s) _ again.ensures.results (sym (rs_length s))))

pub overflow_mul-count : goal.overflow_mul-count
overflow_mul-count c =
    let s = (goal.at.overflow_mul-count c).Start in
    record { fits = omega (arith, c.answer_patterns-count.ensures.count, ps_few s, (able s).few) }

pub slice_bounds-copy_into-end : goal.slice_bounds-copy_into-end
slice_bounds-copy_into-end c = omega (arith, c.if-count.false, c.count-2.ensures, numbers-length c.answer_patterns-count.new.out)

pub slice_bounds-copy_into-end-2 : goal.slice_bounds-copy_into-end-2
slice_bounds-copy_into-end-2 c = sym (length-take-le _ _ (omega (arith, c.if-count.false, c.count-2.ensures, numbers-length c.answer_patterns-count.new.out)))

pub copy_into-requires : goal.copy_into-requires
copy_into-requires c =
    let room = output_fine c.answer_patterns-count.result c.count.result (sym c.check_room.ensures ∙ c.in_ok-check_room.was) in
    omega (arith, length-take {A = ℕ}, room, c.count.ensures, numbers-length c.args.positions.now)

pub slice_bounds-kept-end-2 : goal.slice_bounds-kept-end-2
slice_bounds-kept-end-2 c =
    let s = (goal.at.slice_bounds-kept-end-2 c).Start in
    omega (arith, (able s).few, c.answer_patterns-count.auto.results)

pub slice_bounds-encode-end-2 : goal.slice_bounds-encode-end-2
slice_bounds-encode-end-2 c =
    let s = (goal.at.slice_bounds-encode-end-2 c).Start in
    sym (length-take-le _ _ (omega (arith, (able s).few, c.answer_patterns-count.auto.results)))

pub encode-requires-2 : goal.encode-requires-2
encode-requires-2 c =
    let s = (goal.at.encode-requires-2 c).Start in
    omega (arith, length-take (3 * length c.args.lengths.now) c.answer_patterns-count.new.results, (able s).room)

pub returns : goal.returns
returns c =
    let s = (goal.at.returns c).Start in
    let first = c.answer_patterns-count in
    let m = first.ensures in
    let small : Bytes c.args.positions.now = search rules in
    let small_results : Bytes c.args.results.now = search rules in
    let room = output_fine first.result c.count.result (sym c.check_room.ensures ∙ c.in_ok-check_room.was) in
    let fits : first.result ≤ length (numbers (out s)) = omega (arith, room, c.count.ensures) in
    let same : length (numbers first.new.out) ≡ length (numbers c.args.gathered.now) =
    omega (arith, numbers-length first.new.out, numbers-length c.args.gathered.now, m.positions.long) in
    let gathered = m.positions.front (omega (arith, m.count, c.if-count.false, c.count-2.ensures)) in
    let bytes : 2 * first.result ≡ length (bytes_of (ps s)) = omega (arith, m.count, bytes_of-length (ps s)) in
    sheet-bytes_all (a s) (P s) (qs s) (ls s) (out s) (res s) small small_results c.requires.0 first.result m.count fits _ _
    (c.copy_into.ensures ∙ ap (written (out s) 0) (front_read _ _ (bytes_of (ps s)) _ gathered bytes))
    (c.encode-2.ensures ∙ ap (λ (l : List ℕ). written (res s) 0 (bytes_of l)) (front_read _ _ (rs s) _ m.results (sym (rs_length s))))
