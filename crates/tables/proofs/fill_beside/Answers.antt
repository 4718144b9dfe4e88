-- `tables::fill_beside` meets its contract.
use Rattle.std.proofs.Common.{ℕ, List, ◌≡◌, ◌+◌, ◌-◌, ◌<◌, ◌∙◌, length, get_or, set, ap, subst, arith}
use Rattle.rows.specs.Tree.{count, size}
use Rattle.rows.specs.Parse.{first, behind}
use Rattle.rows.specs.Row.{allowed}
use Rattle.rows.specs.declared.Leaves.TheVariants.{Symbols}
use Rattle.rows.proofs.Behind.{enough_behind}
use Rattle.tables.specs.Beside.{Standing}
use Rattle.tables.proofs.Fill.{partly, partly_none, partly_all, partly_more}
use Rattle.tables.proofs.Standing.{standing_none, Turn, turn_end, turn_count, turn_standing}
use Rattle.tables.proofs.fill_beside.Goals as goal
use Rattle.tables.proofs.fill_beside.Goals.{After-from-trees}

-- the symbol before p
abbrev q : After-from-trees → ℕ
q c = c.loop-p.p - 1

up : (c : After-from-trees) → c.loop-p.p ≡ q c + 1
up c = omega arith

below : (c : After-from-trees) → q c < length c.args.row.now
below c = omega arith

turn : (c : After-from-trees)
    → Turn c.args.arities.now c.args.row.now c.loop-p.standing (c.args.at + q c) (q c) c.loop-p.trees c.from-trees.result
turn c =
    let a = c.args in
    let l = c.loop-p in
    let counted : l.trees ≡ count (behind a.arities.now a.row.now (q c + 1)) = l.invariant.1 ∙ ap (λ (n : ℕ). count (behind a.arities.now a.row.now n)) (up c) in
    let enough = enough_behind a.arities.now (allowed Symbols a.arities.now) a.row.now 1 0 c.requires.fillable.accepted (q c) (below c) in
    let beside : a.at + l.p ≡ a.at + q c + 1 = omega arith in
    record {
      below = below c;
      room = omega arith;
      counted = counted;
      standing =
          subst (λ (n : ℕ). Standing l.standing n (behind a.arities.now a.row.now (q c + 1))) beside
          (subst (λ (n : ℕ). Standing l.standing (a.at + l.p) (behind a.arities.now a.row.now n)) (up c) l.invariant.3);
      arity = c.from-trees.ensures ∙ c.arity_of.ensures;
      deep = omega (arith, c.from-trees.ensures, c.arity_of.ensures, counted, enough);
    }

pub loop-p-init : goal.loop-p-init
loop-p-init c =
    let a = c.args in
    let none = standing_none a.arities.now a.row.now a.standing.now (a.at + length a.row.now) in
    (omega arith, none.0, partly_none a.arities.now a.row.now a.table.now a.at, none.1)

pub overflow_sub-trees : goal.overflow_sub-trees
overflow_sub-trees c = (turn (goal.at.overflow_sub-trees c).After-from-trees).deep

pub loop-p-preserved : goal.loop-p-preserved
loop-p-preserved c =
    let h = (goal.at.loop-p-preserved c).After-from-trees in
    let a = c.args in
    let l = c.loop-p in
    let t = turn h in
    let e : ℕ = a.at + q h + 1 + size (first (get_or a.arities.now (get_or a.row.now (q h) 0) 0) (behind a.arities.now a.row.now (q h + 1))) in (
      omega (arith, t.deep, l.invariant.0),
      turn_count t,
      ap (set l.table (a.at + q h)) (turn_end t)
          ∙ ap (λ (m : List ℕ). set m (a.at + q h) e) (l.invariant.2 ∙ ap (partly a.arities.now a.row.now a.table.now a.at) (up h))
          ∙ partly_more a.arities.now a.row.now a.table.now a.at (q h) c.requires.fillable.fits (below h),
      turn_standing t,
    )

pub returns : goal.returns
returns c =
    let a = c.args in
    let done : c.loop-p.p ≡ 0 = omega arith in
    c.loop-p.invariant.2
    ∙ ap (partly a.arities.now a.row.now a.table.now a.at) done
    ∙ partly_all a.arities.now a.row.now a.table.now a.at
