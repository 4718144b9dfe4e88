-- `classes::same_last` meets its contract.
use Rattle.std.proofs.Common.{ℕ, ◌≡◌, ◌+◌, sym, ◌∙◌, subst, get_or, arith}
use Rattle.rows.specs.Tree.{Forest}
use Rattle.classes.specs.Shown.{Shown}
use Rattle.classes.specs.Lasts.{lasts_of, last_of}
use Rattle.classes.proofs.Signs.{Facing, Both, facing_start, facing_both, facing_miss, facing_next, facing_done, signs_same}
use Rattle.classes.proofs.same_last.Given.{Over}
use Rattle.classes.proofs.same_last.Goals as goal
use Rattle.classes.proofs.same_last.Goals.{Else-number_at, In-loop-a, After-id_at-in-loop-a}

-- both children stand in the row, and the next ones stand further on
inside : (g : Over) (c : In-loop-a g) → Both (g.E.Piece.numbers c.args.row.now) (g.E.Piece.numbers c.args.table.now) c.loop-a.a c.loop-a.b
inside g c =
    let z = c.requires.seen in
    facing_both z.shown (lasts_of z.forest) (c.loop-a.invariant.3 z.forest z.shown) c.loop-a-test.true

same-symbols : (g : Over) (c : Else-number_at g) → get_or (g.E.Piece.numbers c.args.row.now) c.args.p 0 ≡ get_or (g.E.Piece.numbers c.args.row.now) c.args.q 0
same-symbols g c = sym c.number_at.ensures ∙ c.if-number_at.false ∙ c.number_at-2.ensures

-- what was read of the two children are their last places
module _ (g : Over) (c : After-id_at-in-loop-a g) (f : Forest) (h : Shown f (g.E.Piece.numbers c.args.row.now) (g.E.Piece.numbers c.args.table.now)) where
  both : Both (g.E.Piece.numbers c.args.row.now) (g.E.Piece.numbers c.args.table.now) c.loop-a.a c.loop-a.b
  both = facing_both h (lasts_of f) (c.loop-a.invariant.3 f h) c.loop-a-test.true

  left-id : c.id_at.result ≡ last_of f c.loop-a.a
  left-id = c.id_at.ensures ∙ c.requires.ids f h c.loop-a.a c.loop-a.invariant.1 both.left

  right-id : c.id_at-in-loop-a.result ≡ last_of f c.loop-a.b
  right-id = c.id_at-in-loop-a.ensures ∙ c.requires.ids f h c.loop-a.b c.loop-a.invariant.2 both.right

pub loop-a-init : goal.loop-a-init
loop-a-init g c = (
  c.index_at-end.ensures,
  omega arith,
  omega (arith, c.requires.p_lt_q),
  λ f h.
      subst (λ (n : ℕ). Facing f (lasts_of f) c.args.p c.args.q n (c.args.p + 1) (c.args.q + 1)) (sym c.index_at-end.ensures)
      (facing_start h (lasts_of f) c.args.p c.args.q (omega (arith, c.requires.p_lt_q)) c.requires.p_lt_q.1 (same-symbols g (goal.at.loop-a-init g c).Else-number_at)),
)

pub id_at-requires : goal.id_at-requires
id_at-requires g c = let i = inside g c in (omega (arith, i.left, c.requires.seen.room), omega (arith, i.left, c.requires.seen.shown.most))

pub id_at-requires-in-loop-a : goal.id_at-requires-in-loop-a
id_at-requires-in-loop-a g c =
    let i = inside g (goal.at.id_at-requires-in-loop-a g c).In-loop-a in
    (omega (arith, i.right, c.requires.seen.room), omega (arith, i.right, c.requires.seen.shown.most))

pub returns-then-id_at : goal.returns-then-id_at
returns-then-id_at g c f h k =
    let i = (goal.at.returns-then-id_at g c).After-id_at-in-loop-a in
    facing_miss h (lasts_of f) (c.loop-a.invariant.3 f h) c.loop-a-test.true (λ e. c.if-id_at.true (left-id g i f h ∙ e ∙ sym (right-id g i f h))) k.children

pub index_at-a-requires : goal.index_at-a-requires
index_at-a-requires g c = omega (arith, (inside g (goal.at.index_at-a-requires g c).In-loop-a).left, c.requires.seen.shown.fits)

pub index_at-b-requires : goal.index_at-b-requires
index_at-b-requires g c = omega (arith, (inside g (goal.at.index_at-b-requires g c).In-loop-a).right, c.requires.seen.shown.fits)

pub loop-a-smaller : goal.loop-a-smaller
loop-a-smaller g c = omega (arith, c.index_at-a.ensures, (inside g (goal.at.loop-a-smaller g c).In-loop-a).more, c.loop-a-test.true)

pub loop-a-preserved : goal.loop-a-preserved
loop-a-preserved g c =
    let s = (goal.at.loop-a-preserved g c).After-id_at-in-loop-a in
    let i = inside g (goal.at.loop-a-preserved g c).In-loop-a in
    let t = g.E.Piece.numbers c.args.table.now in (
      c.loop-a.invariant.0,
      omega (arith, c.index_at-a.ensures, i.more, c.loop-a.invariant.1),
      omega (arith, c.index_at-b.ensures, i.more_right, c.loop-a.invariant.2),
      λ f h.
          subst (λ (n : ℕ). Facing f (lasts_of f) c.args.p c.args.q c.index_at-end.result n c.index_at-b.result) (sym c.index_at-a.ensures)
          (subst (λ (n : ℕ). Facing f (lasts_of f) c.args.p c.args.q c.index_at-end.result (get_or t c.loop-a.a 0) n) (sym c.index_at-b.ensures)
          (facing_next h (lasts_of f) (c.loop-a.invariant.3 f h) c.loop-a-test.true (sym (left-id g s f h) ∙ c.if-id_at.false ∙ right-id g s f h))),
    )

pub returns : goal.returns
returns g c f h =
    signs_same h (lasts_of f) c.args.p c.args.q (omega (arith, c.requires.p_lt_q)) c.requires.p_lt_q.1 (same-symbols g (goal.at.returns g c).Else-number_at)
    (facing_done h (lasts_of f) (c.loop-a.invariant.3 f h) c.loop-a-test.false)
