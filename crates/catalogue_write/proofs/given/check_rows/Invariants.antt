use Rattle.std.proofs.Common.{◌≡◌, ◌+◌, length, drop}
use Rattle.catalogue.specs.Refusals.{rows_fit, numbered, total}
use Rattle.catalogue_write.proofs.given.check_rows.Given as goal

-- all that is said is said of the rows from k on, whose lengths add up to what is left of them
abbrev pub invariant-loop-k : goal.invariant-loop-k
invariant-loop-k g l =
    let ns = l.fn.given.numbers.now in
    let ls = l.fn.given.lengths.now in
    let w = g.E.Piece.numbers l.fn.given.rows.now in
    (l.next + total (drop l.k ls) ≡ length w) × (rows_fit l.fn.arities (numbered ns ls w) ≡ rows_fit l.fn.arities (numbered (drop l.k ns) (drop l.k ls) (drop l.next w)))
