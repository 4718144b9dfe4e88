-- `seek_text::pages::put_found` meets its contract. Where the pattern matches, the spans are written.
use Rattle.std.proofs.Common.{refl, arith}
use Rattle.tables.proofs.Given.{right_entry}
use Rattle.seek_text.proofs.Paging.{spans_fill}
use Rattle.seek_text.proofs.pages.put_found.Goals as goal

pub returns : goal.returns
returns c =
    let a = c.args in
    let w = a.programme.row.now in
    let t = a.programme.table.now in
    let q = a.pattern.now in
    record {
      within = omega (arith, c.requires.2, c.put_match.ensures.1);
      text = λ x k m.
          (let s = spans_fill x w q a.p _ _ _ refl m (rw c.from-position.ensures at (c.variables_at.ensures x k)) in
          let e = right_entry x.arities w t k.row a.p c.requires.1 in
          rw (s, c.from-position.ensures, e) at c.put_match.ensures.0);
    }
