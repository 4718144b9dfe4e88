-- `searches::variables_at` meets its contract: the marks of a walk that comes through are those of the variables' first places.
use Rattle.std.proofs.Common.{length, sym, ◌∙◌, arith}
use borrow.Author.Tests.{eq-eqb, ne_eqb}
use Rattle.rows.specs.Programme.{programme_of}
use Rattle.patterns.proofs.Marks.{marks_wider}
use Rattle.patterns.proofs.Matching.{checked_ends, checked_classes}
use Rattle.searches.proofs.Going.{walking_start, walking_inside, walking_same, walking_next, walking_stops, missed_marks, walking_end}
use Rattle.searches.proofs.Binding.{variables_none, variables_some}
use Rattle.searches.proofs.variables_at.Goals.{then-programme-j, else-programme-j+in-Some}
use Rattle.searches.proofs.variables_at.Goals as goal

pub loop-k-init : goal.loop-k-init
loop-k-init c = walking_start (programme_of c.args.programme) c.args.pattern.now c.args.p c.requires.1

pub bounds-programme-j : goal.bounds-programme-j
bounds-programme-j c =
    let i = c.loop-k in
    walking_inside (programme_of c.args.programme) c.args.pattern.now c.args.p c.requires.0 i.marks i.j i.k i.invariant c.loop-k-test.true

pub step-requires : goal.step-requires
step-requires c =
    let i = c.loop-k in
    let P = programme_of c.args.programme in
    let q = c.args.pattern.now in
    let s = c.requires.0 in (
      checked_ends s.0 P q s.1,
      checked_classes s.0 P q s.1,
      i.invariant.marks,
      walking_inside P q c.args.p s i.marks i.j i.k i.invariant c.loop-k-test.true,
      ne_eqb _ _ c.if-programme-j.false,
    )

pub miss_at-requires-clause-ends : goal.miss_at-requires-clause-ends
miss_at-requires-clause-ends c =
    let i = c.loop-k in
    let P = programme_of c.args.programme in
    let q = c.args.pattern.now in
    let s = c.requires.0 in
    let stays = missed_marks P q c.args.p s i.marks i.j i.k i.invariant c.loop-k-test.true _ _ (c.step.ensures i.k) c.in-None.is in (
      checked_ends s.0 P q s.1,
      rw stays i.invariant.marks,
      walking_inside P q c.args.p s i.marks i.j i.k i.invariant c.loop-k-test.true,
      ne_eqb _ _ c.if-programme-j.false,
    )

pub miss_at-requires-clause-marks_value : goal.miss_at-requires-clause-marks_value
miss_at-requires-clause-marks_value c =
    let i = c.loop-k in
    let stays = missed_marks (programme_of c.args.programme) c.args.pattern.now c.args.p c.requires.0 i.marks i.j i.k i.invariant c.loop-k-test.true _ _ (c.step.ensures i.k) c.in-None.is in
    rw stays (sym (c.step.ensures i.k).answer ∙ c.in-None.is)

pub returns-in-None : goal.returns-in-None
returns-in-None c a k =
    let i = c.loop-k in
    let P = programme_of c.args.programme in
    let q = c.args.pattern.now in
    let s = c.requires.0 in
    let stays = missed_marks P q c.args.p s i.marks i.j i.k i.invariant c.loop-k-test.true _ _ (c.step.ensures i.k) c.in-None.is in
    variables_none P q c.args.p c.args.out.now c.miss_at.result.0 c.miss_at.result.1 c.requires.1
    (walking_stops P q c.args.p s i.marks i.j i.k i.invariant c.loop-k-test.true _ _ (rw stays at c.miss_at.ensures)) a k

pub loop-k-preserved : goal.loop-k-preserved
loop-k-preserved c =
    let i = c.loop-k in
    let P = programme_of c.args.programme in
    let q = c.args.pattern.now in
    elim c.if-programme-j.branch [
      | then-programme-j w ↦ rw (w.marks-is, w.j-is) (walking_same P q c.args.p c.requires.0 i.marks i.j i.k i.invariant c.loop-k-test.true (eq-eqb _ _ w.if-programme-j.true))
      | else-programme-j+in-Some w ↦
          rw (w.marks-is, w.j-is) (walking_next P q c.args.p c.requires.0 i.marks i.j i.k i.invariant c.loop-k-test.true _ _ (w.step.ensures i.k) _ w.in-Some.is)
    ]

pub write_spans-requires : goal.write_spans-requires
write_spans-requires c =
    let i = c.loop-k in
    let P = programme_of c.args.programme in
    let ends = checked_ends c.requires.0.0 P c.args.pattern.now c.requires.0.1 in
    (marks_wider i.j (length P.table) i.marks (omega (arith, ends.long, i.invariant.within)) i.invariant.marks, c.requires.2)

pub returns : goal.returns
returns c a k =
    let i = c.loop-k in
    let P = programme_of c.args.programme in
    let q = c.args.pattern.now in
    variables_some P q c.args.p c.args.out.now _ i.j i.marks c.requires.1
    (walking_end P q c.args.p c.requires.0 i.marks i.j i.k i.invariant c.loop-k-test.false) c.write_spans.ensures a k
