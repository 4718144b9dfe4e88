-- `seek_text::pages::Told::put_numbered` meets its contract: behind the count each line is a match's.
use Rattle.std.proofs.Common.{take, arith}
use Rattle.rows.specs.Programme.{alphabet_of}
use Rattle.seek_text.proofs.Paging.{located}
use Rattle.seek_text.proofs.pages.Told.put_numbered.Goals as goal

pub put_found-requires : goal.put_found-requires
put_found-requires c =
    let s = c.args.self.now in
    let f = c.args.found in
    let h = c.requires in
    let l = located f s.numbers.now s.table.now s.classes.now s.positions.now h.0 c.args.i (omega (arith, c.if-i-eq0.false)) h.1 in
    ((alphabet_of (take f.lists.arities s.numbers.now), h.0.ready.checked), l.within, h.2)

pub returns : goal.returns
returns c =
    let s = c.args.self.now in
    let f = c.args.found in
    let h = c.requires in
    let l = located f s.numbers.now s.table.now s.classes.now s.positions.now h.0 c.args.i (omega (arith, c.if-i-eq0.false)) h.1 in
    let x = c.put_found.ensures in
    (rw l.line (x.text (alphabet_of (take f.lists.arities s.numbers.now)) h.0.ready.checked l.matches), x.within)
