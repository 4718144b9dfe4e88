use Rattle.std.proofs.Common.{ℕ, ◌≡◌, ◌+◌, List, refl, ap, ◌∙◌, get_or, add-one, arith, rules}
use Rattle.rows.specs.Reading.{children}
use Rattle.rows.proofs.add_arities.Goals as goal

-- one symbol more
children-more : (A w : List ℕ) (k : ℕ) → children A w 0 (k + 1) ≡ children A w 0 k + get_or A (get_or w k 0) 0
unfolding children
children-more A w k =
    let from_front : 0 + k ≡ k = omega arith in
    (rw add-one refl) ∙ ap (λ (j : ℕ). children A w 0 k + get_or A (get_or w j 0) 0) from_front

pub loop-k-init : goal.loop-k-init
unfolding children
loop-k-init g c = (refl, search rules)

pub loop-k-preserved : goal.loop-k-preserved
loop-k-preserved g c =
    let l = c.loop-k in
    let a = c.args in (
      omega (arith, l.invariant.0, c.arity_at-sum.ensures.0, children-more a.arities.now (g.E.Piece.numbers a.part.now) l.k),
      omega (arith, l.invariant.1, c.arity_at-sum.ensures.1),
    )
