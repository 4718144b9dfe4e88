-- `classes::seek` meets its contract.
use Rattle.std.proofs.Common.{ℕ, ◌≡◌, ◌+◌, ◌-◌, ◌<◌, length, get_or, sym, ap, ◌∙◌, subst, arith}
use Rattle.rows.specs.Tree.{Forest, size, subtree_at}
use Rattle.classes.specs.Shown.{Shown, Says, mixed, sign_of}
use Rattle.classes.specs.Lasts.{lasts_of, last_of, Again, Twin}
use Rattle.classes.proofs.Signs.{Mixing, mixing_start, mixing_next, mixing_all, Looking, looking_start, looking_in, looking_on, looking_next, looking_done}
use Rattle.classes.proofs.Lasts.{keeps_ids, bare_behind, no_twin}
use Rattle.classes.proofs.seek.Given.{Over}
use Rattle.classes.proofs.seek.Goals as goal
use Rattle.classes.proofs.seek.Goals.{In-loop-a, After-id_at-last, After-from}

-- the child stands in the row, and the next stands further on
inside : (g : Over) (c : In-loop-a g)
    → (c.loop-a.a < length (g.E.Piece.numbers c.args.row.now)) × (c.loop-a.a < get_or (g.E.Piece.numbers c.args.table.now) c.loop-a.a 0)
inside g c =
    let z = c.requires.seen in
    let m = (c.loop-a.invariant.3 z.forest z.shown).1 in
    (looking_in z.shown (Twin z.forest c.args.p) m c.loop-a-test.true, looking_on z.shown (Twin z.forest c.args.p) m c.loop-a-test.true)

-- what was read of the child is its last place
id : (g : Over) (c : After-id_at-last g) (f : Forest) → Shown f (g.E.Piece.numbers c.args.row.now) (g.E.Piece.numbers c.args.table.now) → c.id_at-last.result ≡ last_of f c.loop-a.a
id g c f h =
    let m = (c.loop-a.invariant.3 f h).1 in
    c.id_at-last.ensures ∙ keeps_ids (c.requires.keeps f h).0 h.many c.loop-a.a (omega (arith, c.loop-a.invariant.1)) (looking_in h (Twin f c.args.p) m c.loop-a-test.true)

-- where it tells that p stands again
abbrev R : (g : Over) → After-from g → ℕ
R g c = c.from.result - (c.loop-a.a - c.args.p)

-- its last place is behind it, in the row
told : (g : Over) (c : After-from g) (f : Forest) → Shown f (g.E.Piece.numbers c.args.row.now) (g.E.Piece.numbers c.args.table.now)
    → (R g c + c.loop-a.a ≡ last_of f c.loop-a.a + c.args.p) × (c.args.p < R g c) × (R g c < length (g.E.Piece.numbers c.args.row.now)) × (c.loop-a.a < c.from.result)
told g c f h =
    let l = c.loop-a in
    let m = (l.invariant.3 f h).1 in
    let within = looking_in h (Twin f c.args.p) m c.loop-a-test.true in
    let low : l.a < c.args.p + 1 + size (subtree_at f c.args.p).children = omega (arith, c.loop-a-test.true, l.invariant.0, h.ends c.args.p c.requires.p_in_bounds) in
    let b = bare_behind f c.args.p l.a (c.requires.keeps f h).1 l.invariant.1 low (omega (arith, within, h.many)) in
    let e : c.from.result ≡ last_of f l.a = c.from.ensures ∙ id g (goal.at.overflow_sub-r-in-loop-a g c).After-id_at-last f h in
    let past = l.invariant.1 in
    (omega (arith, b, e), omega (arith, b, e), omega (arith, b, e, h.many), omega (arith, b, e))

pub loop-a-init : goal.loop-a-init
loop-a-init g c =
    let a = c.args in (
      c.index_at-end.ensures,
      omega arith,
      c.mix-sign.ensures.1,
      λ f h. (
        subst (λ (n : ℕ). Mixing f (lasts_of f) a.p n (a.p + 1) c.mix-sign.result) (sym c.index_at-end.ensures)
            (mixing_start h (lasts_of f) a.p c.mix-sign.result c.requires.p_in_bounds (c.mix-sign.ensures.0 ∙ ap (mixed 0) c.number_at.ensures)),
        subst (λ (n : ℕ). Looking f (Twin f a.p) a.p n (a.p + 1)) (sym c.index_at-end.ensures) (looking_start h (Twin f a.p) a.p c.requires.p_in_bounds),
      ),
    )

pub id_at-last-requires : goal.id_at-last-requires
id_at-last-requires g c =
    let i = inside g c in
    (omega (arith, i, c.requires.seen.room), omega (arith, i, c.requires.seen.shown.most))

pub overflow_sub-r-in-loop-a : goal.overflow_sub-r-in-loop-a
overflow_sub-r-in-loop-a g c =
    let z = c.requires.seen in
    omega (arith, told g (goal.at.overflow_sub-r-in-loop-a g c).After-from z.forest z.shown)

pub is_again-requires-clause-p_lt_r : goal.is_again-requires-clause-p_lt_r
is_again-requires-clause-p_lt_r g c =
    let z = c.requires.seen in
    let t = told g (goal.at.is_again-requires-clause-p_lt_r g c).After-from z.forest z.shown in
    (t.1, t.2)

pub index_at-a-requires : goal.index_at-a-requires
index_at-a-requires g c = omega (arith, inside g (goal.at.index_at-a-requires g c).In-loop-a, c.requires.seen.shown.fits)

pub loop-a-smaller : goal.loop-a-smaller
loop-a-smaller g c = omega (arith, c.index_at-a.ensures, inside g (goal.at.loop-a-smaller g c).In-loop-a, c.loop-a-test.true)

pub loop-a-preserved : goal.loop-a-preserved
loop-a-preserved g c =
    let s = (goal.at.loop-a-preserved g c).After-from in
    let d = (goal.at.loop-a-preserved g c).After-id_at-last in
    let a = c.args in
    let l = c.loop-a in
    let t = g.E.Piece.numbers a.table.now in
    let end : ℕ = c.index_at-end.result in (
      l.invariant.0,
      omega (arith, c.index_at-a.ensures, inside g (goal.at.loop-a-preserved g c).In-loop-a, l.invariant.1),
      c.mix-sign-in-loop-a.ensures.1,
      λ f h. (
        subst (λ (n : ℕ). Mixing f (lasts_of f) a.p end n c.mix-sign-in-loop-a.result) (sym c.index_at-a.ensures)
            (subst (Mixing f (lasts_of f) a.p end (get_or t l.a 0)) (sym (c.mix-sign-in-loop-a.ensures.0 ∙ ap (mixed l.sign) (id g d f h)))
            (mixing_next h (lasts_of f) (l.invariant.3 f h).0 c.loop-a-test.true)),
        subst (Looking f (Twin f a.p) a.p end) (sym c.index_at-a.ensures)
            (looking_next h (Twin f a.p) (l.invariant.3 f h).1 c.loop-a-test.true
            (no_twin f a.p l.a (R g s) (told g s f h).0 (subst (λ b. Says b (Again f a.p (R g s))) c.if-is_again.false (c.is_again.ensures f h)))),
      ),
    )

pub returns : goal.returns
unfolding sign_of
returns g c f h =
    let l = c.loop-a in
    (mixing_all h (lasts_of f) (l.invariant.3 f h).0 c.loop-a-test.false, looking_done h (Twin f c.args.p) (l.invariant.3 f h).1 c.loop-a-test.false)
