-- `seek_text::search::answer_input` meets its contract: the lists are parts of the buffer, and the search is theirs.
use Rattle.std.proofs.Common.{◌≡◌, Err, rules}
use Rattle.seek_text.specs.Seek.{Prints.input_refused}
use Rattle.seek_text.proofs.Answering.{places, one_line_printed, answer_refused, answer_found}
use Rattle.seek_text.proofs.search.answer_input.Goals as goal

pub returns-in_err-lists : goal.returns-in_err-lists
returns-in_err-lists c =
    let e : c.from_residual.result ≡ Err c.in_err-lists.field-0.0 = search rules in
    rw e (one_line_printed _ c.in_err-lists.field-0.0 (input_refused c.in_err-lists.ensures), tt)

pub find_in-requires : goal.find_in-requires
find_in-requires c =
    let s = places _ _ _ _ _ _ c.in_ok-lists.ensures in
    (s.0, s.1, s.2, c.requires.1, c.requires.2, c.requires.3)

pub returns-in_err-count : goal.returns-in_err-count
returns-in_err-count c =
    let e : c.from_residual-in_err-count.result ≡ Err c.in_err-count.field-0.0 = search rules in
    rw e (answer_refused _ _ _ _ _ _ c.in_ok-lists.ensures c.in_err-count.field-0.0 c.in_err-count.ensures, tt)

pub returns : goal.returns
returns c = answer_found _ _ _ _ _ _ c.in_ok-lists.ensures c.in_ok-count.count _ _ _ c.in_ok-count.ensures
