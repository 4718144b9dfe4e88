-- `edits::replace_symbols` meets its contract: the tail is moved, the part from p on is lent to the copier, and what is freed is filled.
use Rattle.std.proofs.Common.{ℕ, List, ◌≡◌, ◌+◌, ◌-◌, length, take, drop, replicate, length-take, length-drop, sym, ap, ◌∙◌, arith}
use lib.Seq.{length-take-le}
use Rattle.rows.specs.Buffers.{written}
use Rattle.buffers.specs.Renewed.{renewed}
use Rattle.buffers.proofs.Written.{lent_tail, written_still}
use Rattle.buffers.proofs.Renewed.{renewed_parts, spliced-front}
use Rattle.edits.proofs.replace_symbols.Goals as goal

pub returns : goal.returns
returns c =
    let b = c.args.row.now in
    let v = c.args.v.now in
    let g = c.args.gap in
    let m : ℕ = g.to + (g.n - g.e) in
    let tail : List ℕ = take (g.n - g.e) (drop g.e b) in
    let blanks : List ℕ = replicate (g.n - m) 65535 in
    let long : length tail ≡ g.n - g.e = simp (length-take, length-drop) (omega arith) in
    let kept : written b 0 (take g.p b) ≡ b = written_still b 0 g.p (omega arith) in
    rw (
      c.fill.ensures,
      c.length.ensures,
      c.copy_into.ensures,
      c.move_part.ensures,
      c.rest.ensures,
    )
    (ap (λ (l : List ℕ). written l m blanks) (lent_tail (written b g.to tail) g.p v)
    ∙ ap (λ (l : List ℕ). written (written (written l g.to tail) g.p v) m blanks) (sym kept)
    ∙ renewed_parts b g.n 65535 g.p g.to m (take g.p b) v tail (length-take-le g.p b (omega arith)) c.requires.1 (omega arith) (omega arith) (omega arith)
    ∙ ap (renewed b g.n 65535) (sym (spliced-front b g.n g.p g.e v (omega arith) (omega arith) (omega arith))))
