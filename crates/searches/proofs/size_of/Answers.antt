-- `searches::size_of` meets its contract.
use Rattle.std.proofs.Common.{get_or, sym, ◌∙◌, arith}
use Rattle.patterns.proofs.Leaves.{plain_symbol}
use Rattle.searches.proofs.Searching.{plain_more, any_sized, own_sized}
use Rattle.searches.proofs.size_of.Goals.{then-s-ge-FIRST_VARIABLE, else-s-ge-FIRST_VARIABLE}
use Rattle.searches.proofs.size_of.Goals as goal

pub loop-s-preserved : goal.loop-s-preserved
loop-s-preserved c =
    let q = c.args.pattern.now in
    let l = c.loop-s in
    elim c.if-s-ge-FIRST_VARIABLE.branch [
      | then-s-ge-FIRST_VARIABLE w ↦ λ n. let z : ⊥ = cc (w.blanks-is, n) in absurd z
      | else-s-ge-FIRST_VARIABLE w ↦ λ n. plain_more q l.s-index (l.invariant (sym w.blanks-is ∙ n)) (plain_symbol (get_or q l.s-index 0) w.if-s-ge-FIRST_VARIABLE.false)
    ]

pub returns-then-blanks : goal.returns-then-blanks
returns-then-blanks c P = any_sized P c.args.pattern.now

pub returns-else-blanks : goal.returns-else-blanks
returns-else-blanks c P = own_sized P c.args.pattern.now (λ i m. c.loop-s.invariant c.if-blanks.false i (omega (arith, m, c.loop-s-test.false)))
