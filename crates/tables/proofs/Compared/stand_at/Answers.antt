-- `tables::Compared::stand_at` meets its contract: the symbol is a turn of the pass.
use Rattle.std.proofs.Common.{ℕ, ◌≡◌, ◌+◌, ◌≤◌, ◌<◌, ◌∙◌, ap, length, length-set, get_or, arith}
use Rattle.rows.proofs.Behind.{few-behind}
use Rattle.tables.proofs.Pass.{stop_stray, stop_few, stands_more}
use Rattle.tables.proofs.Compared.stand_at.Goals as goal
use Rattle.tables.proofs.Compared.stand_at.Goals.{Start}

-- no more trees stand behind p than symbols
few : (s : Start) → s.args.trees + (s.args.p + 1) ≤ length s.args.self.row.now
few s = omega (arith, s.requires.stands.counted, few-behind s.args.self.arities.now s.args.self.row.now (s.args.p + 1) (omega (arith, s.requires.p_in_bounds.1)))

pub offset_bounds-standing-trees : goal.offset_bounds-standing-trees
offset_bounds-standing-trees c = omega (arith, few (goal.at.offset_bounds-standing-trees c).Start, c.args.self.sized.most)

pub bounds-standing-trees : goal.bounds-standing-trees
bounds-standing-trees c = omega (arith, few (goal.at.bounds-standing-trees c).Start, c.requires.p_in_bounds.0)

pub returns-then-self-s : goal.returns-then-self-s
returns-then-self-s c = stop_stray c.args.self.arities.now c.args.self.row.now c.args.p c.requires.p_in_bounds.1 (omega (arith, c.from-s.ensures))

pub returns-then-trees-a : goal.returns-then-trees-a
returns-then-trees-a c = stop_few c.args.self.arities.now c.args.self.row.now c.args.trees c.args.p c.requires.p_in_bounds.1 c.requires.stands.counted (rw (← c.from-s.ensures) (omega (arith, c.from-a.ensures)))

pub overflow_add-result : goal.overflow_add-result
overflow_add-result c = omega (arith, few (goal.at.overflow_add-result c).Start, c.args.self.sized.most)

pub offset_bounds-standing-trees-2 : goal.offset_bounds-standing-trees-2
offset_bounds-standing-trees-2 c = omega (arith, few (goal.at.offset_bounds-standing-trees-2 c).Start, c.args.self.sized.most)

pub bounds-standing-trees-2 : goal.bounds-standing-trees-2
bounds-standing-trees-2 c = simp length-set (omega (arith, few (goal.at.bounds-standing-trees-2 c).Start, c.requires.p_in_bounds.0))

pub returns : goal.returns
returns c =
    let a = c.args in
    let symbol : get_or a.self.row.now a.p 0 < length a.self.arities.now = omega (arith, c.from-s.ensures) in
    let arity : c.from-a.result ≡ get_or a.self.arities.now (get_or a.self.row.now a.p 0) 0 = c.from-a.ensures ∙ ap (λ (s : ℕ). get_or a.self.arities.now s 0) c.from-s.ensures in
    stands_more a.self.arities.now a.self.row.now a.standing.now a.trees a.p c.from-a.result c.requires.p_in_bounds.0 c.requires.p_in_bounds.1 c.requires.stands symbol arity c.if-trees-a.false
