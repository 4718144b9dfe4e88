-- `searches::keep_matches` meets its contract.
use Rattle.std.proofs.Common.{◌≡◌, ℕ, Bool, ◌+◌, ◌-◌, ◌≤◌, ◌<◌, get_or, length, take, drop, length-take, length-drop, ap, ◌∙◌, arith}
use borrow.Author.Tests.{eq-eqb, ne_eqb}
use Rattle.rows.specs.Programme.{programme_of}
use Rattle.patterns.specs.Walk.{through, comes_through}
use Rattle.patterns.proofs.Matching.{checked_ends, checked_classes}
use Rattle.searches.proofs.Going.{walking_alike, walking_inside, walking_same, walking_next, walking_miss, walking_through, part_at}
use Rattle.searches.proofs.Keeping.{kept_none, kept_more, kept_same}
use Rattle.searches.proofs.keep_matches.Goals.{then-programme-j, else-programme-j+in-Some}
use Rattle.searches.proofs.keep_matches.Goals as goal

pub places-init : goal.places-init
places-init c = (omega arith, kept_none (comes_through c.args.programme.row.now c.args.programme.table.now c.args.pattern.now) c.args.out.now 0)

pub loop-s-init : goal.loop-s-init
loop-s-init c =
    let a = c.args in
    let w = c.requires.walkable in
    let n = c.count_eights-alike.result in
    let z : n + 0 ≡ n = omega arith in
    rw z
    (walking_alike (programme_of a.programme) a.pattern.now c.from-p.result w.searchable (omega (arith, c.from-p.ensures, c.requires.within c.places.place-index c.places-test.true)) n
    (omega (arith, c.count_eights-alike.ensures.0, c.min-most.ensures, w.compared.within)) c.count_eights-alike.ensures.1)

pub bounds-programme-j : goal.bounds-programme-j
bounds-programme-j c =
    let a = c.args in
    let w = c.requires.walkable in
    let l = c.loop-s in
    let n = c.count_eights-alike.result in
    walking_inside (programme_of a.programme) a.pattern.now c.from-p.result w.searchable l.marks l.j (n + l.s-index) l.invariant
    (omega (arith, c.loop-s-test.true, length-take (a.compared - n) (drop n a.pattern.now), length-drop n a.pattern.now, w.compared.within))

pub step-requires : goal.step-requires
step-requires c =
    let a = c.args in
    let w = c.requires.walkable in
    let s = w.searchable in
    let l = c.loop-s in
    let n = c.count_eights-alike.result in
    let inside = walking_inside (programme_of a.programme) a.pattern.now c.from-p.result s l.marks l.j (n + l.s-index) l.invariant
    (omega (arith, c.loop-s-test.true, length-take (a.compared - n) (drop n a.pattern.now), length-drop n a.pattern.now, w.compared.within)) in (
      checked_ends s.0 (programme_of a.programme) a.pattern.now s.1,
      checked_classes s.0 (programme_of a.programme) a.pattern.now s.1,
      l.invariant.marks,
      inside,
      ne_eqb _ _ c.if-programme-j.false,
    )

pub places-preserved-in_default : goal.places-preserved-in_default
places-preserved-in_default c =
    let a = c.args in
    let w = c.requires.walkable in
    let o = c.places in
    let l = c.loop-s in
    let n = c.count_eights-alike.result in
    let q = a.pattern.now in
    let P = programme_of a.programme in
    let test : ℕ → Bool = comes_through P.row P.table q in
    let i = l.s-index in
    let few : i < a.compared - n = omega (arith, c.loop-s-test.true, length-take (a.compared - n) (drop n q), length-drop n q) in
    let missed = walking_miss P q c.from-p.result w.searchable l.marks l.j (n + i) l.invariant (omega (arith, few, w.compared.within)) _ _
    (rw (part_at q n (a.compared - n) i few) at (c.step.ensures (n + i))) c.in_default.is in
    (omega (arith, o.invariant.0), kept_same test a.out.now a.places.now 0 o.place-index o.count o.out o.invariant.1 c.places-test.true (rw (← c.from-p.ensures) missed))

pub loop-s-preserved : goal.loop-s-preserved
loop-s-preserved c =
    let a = c.args in
    let w = c.requires.walkable in
    let l = c.loop-s in
    let n = c.count_eights-alike.result in
    let q = a.pattern.now in
    let i = l.s-index in
    let P = programme_of a.programme in
    let few : i < a.compared - n = omega (arith, c.loop-s-test.true, length-take (a.compared - n) (drop n q), length-drop n q) in
    let here : get_or (take (a.compared - n) (drop n q)) i 0 ≡ get_or q (n + i) 0 = part_at q n (a.compared - n) i few in
    let on : n + (i + 1) ≡ n + i + 1 = omega arith in
    let within : n + i < length q = omega (arith, few, w.compared.within) in
    elim c.if-programme-j.branch [
      | then-programme-j x ↦
          rw (x.marks-is, x.j-is, on)
          (walking_same P q c.from-p.result w.searchable l.marks l.j (n + i) l.invariant within (eq-eqb _ _ (x.if-programme-j.true ∙ here)))
      | else-programme-j+in-Some x ↦
          rw (x.marks-is, x.j-is, on)
          (walking_next P q c.from-p.result w.searchable l.marks l.j (n + i) l.invariant within _ _ (rw here at (x.step.ensures (n + i))) _ x.in-Some.is)
    ]

pub places-preserved : goal.places-preserved
places-preserved c =
    let a = c.args in
    let w = c.requires.walkable in
    let o = c.places in
    let l = c.loop-s in
    let n = c.count_eights-alike.result in
    let q = a.pattern.now in
    let P = programme_of a.programme in
    let test : ℕ → Bool = comes_through P.row P.table q in
    let b = w.compared in
    let all : a.compared ≤ n + l.s-index
    = omega (arith, c.loop-s-test.false, length-take (a.compared - n) (drop n q), length-drop n q, b.within, c.count_eights-alike.ensures.0, c.min-most.ensures) in
    let came = ap through (walking_through P q c.from-p.result w.searchable (length q) l.marks l.j (n + l.s-index) l.invariant (omega arith) (λ x y z. b.blank x (omega (arith, y, all)) z)).1 in (
      omega (arith, o.invariant.0),
      kept_more test a.out.now a.places.now 0 o.place-index o.count o.out o.invariant.1 c.places-test.true (omega (arith, c.places-test.true, c.requires.room)) (rw (← c.from-p.ensures) came),
    )
