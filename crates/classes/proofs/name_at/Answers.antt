-- `classes::name_at` meets its contract.
use Rattle.std.proofs.Common.{◌≡◌, List, ℕ, ◌+◌, ◌-◌, ltb, get_or, set, sym, ap, ◌∙◌, subst, arith}
use Rattle.rows.specs.Tree.{Forest}
use Rattle.rows.specs.Row.{pick}
use Rattle.classes.specs.Lasts.{Nameable, Named}
use Rattle.classes.proofs.Names.{Turn, turn}
use Rattle.classes.proofs.name_at.Given.{Over}
use Rattle.classes.proofs.name_at.Goals as goal
use Rattle.classes.proofs.name_at.Goals.{After-last_place-last}

-- the turn of p, by the last place that its entry tells
turned : (g : Over) (c : After-last_place-last g) (f : Forest) → Nameable f (g.E.Piece.numbers c.args.list.now) c.args.p
    → Turn f (g.E.Piece.numbers c.args.list.now) c.args.p c.last_place-last.result
turned g c f z = turn f (g.E.Piece.numbers c.args.list.now) c.args.p z c.last_place-last.result (c.last_place-last.ensures ∙ ap (λ (n : ℕ). pick (ltb n 32768) n c.args.p) c.index_at.ensures)

pub index_at-noted-requires : goal.index_at-noted-requires
index_at-noted-requires g c =
    let z = c.requires.1 in
    omega (arith, (turned g (goal.at.index_at-noted-requires g c).After-last_place-last c.requires.0 z).last, z.room)

pub put_number-requires : goal.put_number-requires
put_number-requires g c =
    let z = c.requires.1 in
    omega (arith, (turned g (goal.at.put_number-requires g c).After-last_place-last c.requires.0 z).last, z.room)

pub returns-then-noted-lt49152-clause-named : goal.returns-then-noted-lt49152-clause-named
returns-then-noted-lt49152-clause-named g c f z =
    let l = g.E.Piece.numbers c.args.list.now in
    let both : g.E.Piece.numbers c.put_number-then-noted-lt49152.new.list ≡ set (set l c.last_place-last.result (49152 + c.args.p)) c.args.p c.args.p =
    c.put_number-then-noted-lt49152.ensures.put ∙ ap (λ (m : List ℕ). set m c.args.p c.args.p) c.put_number.ensures.put in
    subst (λ (m : List ℕ). Named f l m c.args.p) (sym both)
    ((turned g (goal.at.returns-then-noted-lt49152-clause-named g c).After-last_place-last f z).new (omega (arith, c.if-noted-lt49152.true, c.index_at-noted.ensures)))

pub overflow_cast-noted : goal.overflow_cast-noted
overflow_cast-noted g c =
    let z = c.requires.1 in
    let noted = c.index_at-noted.ensures in
    omega (arith, z.inside, z.small, noted, ((turned g (goal.at.overflow_cast-noted g c).After-last_place-last c.requires.0 z).old (omega (arith, c.if-noted-lt49152.false, noted))).0)

pub returns-clause-named : goal.returns-clause-named
returns-clause-named g c f z =
    let l = g.E.Piece.numbers c.args.list.now in
    let noted = c.index_at-noted.ensures in
    let put : g.E.Piece.numbers c.put_number-2.new.list ≡ set l c.args.p (get_or l c.last_place-last.result 0 - 49152) =
    c.put_number-2.ensures.put ∙ ap (λ (n : ℕ). set l c.args.p (n - 49152)) noted in
    subst (λ (m : List ℕ). Named f l m c.args.p) (sym put)
    ((turned g (goal.at.returns-clause-named g c).After-last_place-last f z).old (omega (arith, c.if-noted-lt49152.false, noted))).1
