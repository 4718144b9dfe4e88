-- `Trial::node` and `Trial::children`, which call each other, meet their contracts. What fits so far, and what a tree that is tried next
-- adds to it, is said in `Trying`: `c.loop.invariant.2` is what fits at the loop's start.
use Rattle.std.proofs.Common.{ℕ, get_or, sym, ap, ◌∙◌, arith}
use borrow.Author.Tests.{eq-eqb, ne_eqb}
use Rattle.plain.proofs.Trying.{tells_past, tells_through, tells_miss, tells_on, pattern_some, rest_some, taken, plain_inner, comes_alike, lent_inside, walk_inside, passes_inside, shorter_inside, misses_plain, left_some, next_number, lent_next, walk_next, passes_next, passes_none}
use Rattle.plain.proofs.Trial.+children_node.Goals.{children-then-arity_of-eq0, children-else-arity_of-eq0}
use Rattle.plain.proofs.Trial.+children_node.Goals as goal

-- the row of children
pub children-loop-init : goal.children-loop-init
children-loop-init t c = (omega arith, omega arith, passes_none _ _ _ _ _ _ _ _ _ c.requires)

pub children-bounds-pattern-p : goal.children-bounds-pattern-p
children-bounds-pattern-p t c = left_some _ _ _ _ _ _ _ _ _ c.requires _ _ _ _ _ c.loop-test.true c.loop.invariant.2

pub children-leaf-next-requires : goal.children-leaf-next-requires
children-leaf-next-requires t c =
    let number = next_number _ _ _ _ _ _ _ _ _ c.requires _ _ _ _ _ c.loop-test.true c.loop.invariant.2 in (
      lent_next _ _ _ _ _ _ _ _ _ c.requires _ _ _ _ _ c.loop-test.true c.loop.invariant.2,
      ap (λ (s : ℕ). get_or c.args.self.now.arities.now s 0) (sym number) ∙ sym c.arity_of.ensures ∙ c.if-arity_of-eq0.true,
    )

pub children-node-next-requires : goal.children-node-next-requires
children-node-next-requires t c =
    let A = c.args.self.now.arities.now in
    let number = next_number _ _ _ _ _ _ _ _ _ c.requires _ _ _ _ _ c.loop-test.true c.loop.invariant.2 in
    let lent = lent_next _ _ _ _ _ _ _ _ _ c.requires _ _ _ _ _ c.loop-test.true c.loop.invariant.2 in
    (omega (arith, c.decreases), (lent, plain_inner A _ lent.few (λ z. c.if-arity_of-eq0.false (c.arity_of.ensures ∙ ap (λ (s : ℕ). get_or A s 0) number ∙ z))))

pub children-returns-in_default : goal.children-returns-in_default
children-returns-in_default t c =
    let on = walk_next _ _ _ _ _ _ _ _ _ c.requires _ _ _ _ _ c.loop-test.true c.loop.invariant.2 in
    elim c.if-arity_of-eq0.branch [
      | children-then-arity_of-eq0 w ↦ rw (w.next-is, w.met-is) (tells_on _ _ _ _ _ _ _ _ _ _ _ _ _ _ _ on (rw w.next-is at c.in_default.not-Past) w.leaf-next.ensures)
      | children-else-arity_of-eq0 w ↦ rw (w.next-is, w.met-is) (tells_on _ _ _ _ _ _ _ _ _ _ _ _ _ _ _ on (rw w.next-is at c.in_default.not-Past) w.node-next.ensures)
    ]

pub children-overflow_add-p : goal.children-overflow_add-p
children-overflow_add-p t c =
    elim c.if-arity_of-eq0.branch [
      | children-then-arity_of-eq0 w ↦
          let more = passes_next _ _ _ _ _ _ _ _ _ c.requires _ _ _ _ _ c.loop-test.true c.loop.invariant.2 _ _ _ _ (w.leaf-next.ensures.past _ _ (sym w.next-is ∙ c.in-Past.is)) in
          record { fits = omega (arith, (taken more).0, c.well_formed) }
      | children-else-arity_of-eq0 w ↦
          let more = passes_next _ _ _ _ _ _ _ _ _ c.requires _ _ _ _ _ c.loop-test.true c.loop.invariant.2 _ _ _ _ (w.node-next.ensures.past _ _ (sym w.next-is ∙ c.in-Past.is)) in
          record { fits = omega (arith, (taken more).0, c.well_formed) }
    ]

pub children-overflow_add-r : goal.children-overflow_add-r
children-overflow_add-r t c =
    elim c.if-arity_of-eq0.branch [
      | children-then-arity_of-eq0 w ↦
          let more = passes_next _ _ _ _ _ _ _ _ _ c.requires _ _ _ _ _ c.loop-test.true c.loop.invariant.2 _ _ _ _ (w.leaf-next.ensures.past _ _ (sym w.next-is ∙ c.in-Past.is)) in
          record { fits = omega (arith, (taken more).1, c.well_formed) }
      | children-else-arity_of-eq0 w ↦
          let more = passes_next _ _ _ _ _ _ _ _ _ c.requires _ _ _ _ _ c.loop-test.true c.loop.invariant.2 _ _ _ _ (w.node-next.ensures.past _ _ (sym w.next-is ∙ c.in-Past.is)) in
          record { fits = omega (arith, (taken more).1, c.well_formed) }
    ]

pub children-loop-preserved : goal.children-loop-preserved
children-loop-preserved t c =
    elim c.if-arity_of-eq0.branch [
      | children-then-arity_of-eq0 w ↦
          let more = passes_next _ _ _ _ _ _ _ _ _ c.requires _ _ _ _ _ c.loop-test.true c.loop.invariant.2 _ _ _ _ (w.leaf-next.ensures.past _ _ (sym w.next-is ∙ c.in-Past.is)) in
          rw w.met-is ((taken more).0, (taken more).1, more)
      | children-else-arity_of-eq0 w ↦
          let more = passes_next _ _ _ _ _ _ _ _ _ c.requires _ _ _ _ _ c.loop-test.true c.loop.invariant.2 _ _ _ _ (w.node-next.ensures.past _ _ (sym w.next-is ∙ c.in-Past.is)) in
          rw w.met-is ((taken more).0, (taken more).1, more)
    ]

-- a node
pub node-bounds-pattern-0 : goal.node-bounds-pattern-0
node-bounds-pattern-0 t c = pattern_some _ _ _ _ _ _ _ _ _ c.requires.0 (omega arith)

pub node-bounds-rest-0 : goal.node-bounds-rest-0
node-bounds-rest-0 t c = rest_some _ _ _ _ _ _ _ _ _ c.requires.0 (omega arith)

pub node-returns-then-self-b : goal.node-returns-then-self-b
node-returns-then-self-b t c = tells_through (comes_alike _ _ _ _ _ _ _ _ c.requires.0 (eq-eqb _ _ c.if-rest-s.true) c.if-self-b.true)

pub node-slice_bounds-children-count : goal.node-slice_bounds-children-count
node-slice_bounds-children-count t c = pattern_some _ _ _ _ _ _ _ _ _ c.requires.0 (omega arith)

pub node-slice_bounds-children-start : goal.node-slice_bounds-children-start
node-slice_bounds-children-start t c = pattern_some _ _ _ _ _ _ _ _ _ c.requires.0 (omega arith)

pub node-slice_bounds-children-count-then-rest-s : goal.node-slice_bounds-children-count-then-rest-s
node-slice_bounds-children-count-then-rest-s t c = rest_some _ _ _ _ _ _ _ _ _ c.requires.0 (omega arith)

pub node-slice_bounds-children-start-then-rest-s : goal.node-slice_bounds-children-start-then-rest-s
node-slice_bounds-children-start-then-rest-s t c = rest_some _ _ _ _ _ _ _ _ _ c.requires.0 (omega arith)

pub node-children-found-requires : goal.node-children-found-requires
node-children-found-requires t c = (
  omega (arith, c.decreases, shorter_inside _ _ _ _ _ _ _ _ c.requires.0 (eq-eqb _ _ c.if-rest-s.true)),
  lent_inside _ _ _ _ _ _ _ _ c.requires.0 (eq-eqb _ _ c.if-rest-s.true) _ c.arity_of-a.ensures,
)

pub node-returns-in_default : goal.node-returns-in_default
node-returns-in_default t c =
    tells_on _ _ _ _ _ _ _ _ _ _ _ _ _ _ _ (walk_inside _ _ _ _ _ _ _ _ c.requires.0 (eq-eqb _ _ c.if-rest-s.true) _ c.arity_of-a.ensures) c.in_default.not-Past c.children-found.ensures

pub node-overflow_add-result : goal.node-overflow_add-result
node-overflow_add-result t c =
    let all = passes_inside _ _ _ _ _ _ _ _ c.requires.0 (eq-eqb _ _ c.if-rest-s.true) _ c.arity_of-a.ensures _ _ _ _ (c.children-found.ensures.past _ _ c.in-Past.is) in
    record { fits = omega (arith, (taken all).0, c.well_formed) }

pub node-overflow_add-result-then-rest-s : goal.node-overflow_add-result-then-rest-s
node-overflow_add-result-then-rest-s t c =
    let all = passes_inside _ _ _ _ _ _ _ _ c.requires.0 (eq-eqb _ _ c.if-rest-s.true) _ c.arity_of-a.ensures _ _ _ _ (c.children-found.ensures.past _ _ c.in-Past.is) in
    record { fits = omega (arith, (taken all).1, c.well_formed) }

pub node-returns-then-rest-s : goal.node-returns-then-rest-s
node-returns-then-rest-s t c =
    tells_past (passes_inside _ _ _ _ _ _ _ _ c.requires.0 (eq-eqb _ _ c.if-rest-s.true) _ c.arity_of-a.ensures _ _ _ _ (c.children-found.ensures.past _ _ c.in-Past.is))

pub node-returns : goal.node-returns
node-returns t c = tells_miss (misses_plain _ _ _ _ _ _ _ _ c.requires.0 (ne_eqb _ _ c.if-rest-s.false) c.requires.1)
