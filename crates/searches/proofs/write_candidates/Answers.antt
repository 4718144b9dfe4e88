-- `searches::write_candidates` meets its contract.
use Rattle.std.proofs.Common.{◌≡◌, ◌<◌, ◌-◌, ℕ, Bool, length, refl, sym, ◌∙◌, arith}
use Rattle.std.proofs.Math.ListN.{length-set}
use Rattle.searches.specs.Searches.{may_match, range, passing}
use Rattle.searches.proofs.Passing.{noted_more, noted_same}
use Rattle.searches.proofs.write_candidates.Goals.{then-may_match, else-may_match}
use Rattle.searches.proofs.write_candidates.Goals as goal

pub loop-p-init : goal.loop-p-init
unfolding passing range
loop-p-init c =
    let g = c.args in
    let none : g.from - g.from ≡ 0 = omega arith in
    (omega arith, c.requires.2, rw none refl)

pub loop-p-preserved : goal.loop-p-preserved
loop-p-preserved c =
    let g = c.args in
    let i = c.loop-p in
    let f : ℕ → Bool = may_match g.row.now g.table.now g.root g.size in
    let on = i.auto.p in
    let room : i.many < length i.places = omega (arith, i.invariant, c.loop-p-test.true, c.requires.1.short) in
    elim c.if-may_match.branch [
      | then-may_match w ↦
          rw w.many-is
          (omega (arith, i.invariant), simp length-set i.invariant.1, noted_more f i.places g.from i.p i.many on room i.invariant.2 (sym c.may_match.ensures ∙ w.if-may_match.true))
      | else-may_match w ↦
          rw w.many-is
          (omega (arith, i.invariant), simp length-set i.invariant.1, noted_same f i.places g.from i.p i.many on room i.invariant.2 (sym c.may_match.ensures ∙ w.if-may_match.false))
    ]
