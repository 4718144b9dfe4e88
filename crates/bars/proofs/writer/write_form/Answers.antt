-- `bars::writer::write_form` meets its contract. What is due is a bar, or the next symbol.
use Rattle.std.proofs.Common.{◌≤◌, ◌<◌, ◌+◌, ◌-◌, ◌*◌, ℕ, List, set, get_or, length, sym, ap, subst, ◌∙◌, arith, length-set}
use Rattle.std.proofs.lemmas.List.{take_all}
use Rattle.rows.specs.Buffers.{written}
use Rattle.rows.specs.Limits.{bar}
use Rattle.bars.specs.Bars.{bars_of}
use Rattle.bars.proofs.Forms.{length_bars}
use Rattle.bars.proofs.Writing.{Midway, write_turn, first-written, written_again, symbol_at, some_row, begins, midway_root, bar_next, bar_midway, symbol-below, symbol_next, symbol_midway, some_open}
use Rattle.bars.proofs.writer.write_form.Goals as goal

pub bounds-row-0 : goal.bounds-row-0
bounds-row-0 c = some_row _ _ c.requires.0.accepted

pub bounds-bars-0 : goal.bounds-bars-0
bounds-bars-0 c = omega (arith, some_row _ _ c.requires.0.accepted, c.requires.0.fits)

pub bounds-row-0-2 : goal.bounds-row-0-2
bounds-row-0-2 c = some_row _ _ c.requires.0.accepted

pub children_of-requires : goal.children_of-requires
children_of-requires c =
    let w = c.args.row.now in
    (c.requires.0.fine, symbol_at c.args.arities.now w 0 c.requires.0.accepted (some_row c.args.arities.now w c.requires.0.accepted))

pub bounds-lacks-0 : goal.bounds-lacks-0
bounds-lacks-0 c = omega (arith, some_row _ _ c.requires.0.accepted, c.requires.1)

pub loop-at-init : goal.loop-at-init
loop-at-init c =
    let a = c.args in
    let some = some_row a.arities.now a.row.now c.requires.0.accepted in
    let long = length_bars a.arities.now a.row.now in (
      first-written a.bars.now (bars_of a.arities.now a.row.now) (get_or a.row.now 0 0) (begins a.arities.now a.row.now some) (omega (arith, some, long)) (omega (arith, long, c.requires.0.fits)),
      subst (λ (n : ℕ). Midway a.arities.now a.row.now (set a.lacks.now 0 n) 1 1 1) (sym c.children_of.ensures)
          (midway_root a.arities.now a.row.now a.lacks.now c.requires.0.accepted (omega (arith, some, c.requires.1))),
    )

-- while something is left to write, a node is open
opened : {A w l : List ℕ} {depth p at : ℕ} → Midway A w l depth p at → at < 2 * length w → 0 < depth
opened {A} {w} {l} {depth} {p} {at} m h = some_open A w l depth p at m (omega (arith, length_bars A w))

pub overflow_sub-left : goal.overflow_sub-left
overflow_sub-left c = opened c.loop-at.invariant.1 c.loop-at-test.true

pub overflow_sub-depth : goal.overflow_sub-depth
overflow_sub-depth c = opened c.loop-at.invariant.1 c.loop-at-test.true

pub loop-at-preserved-then-left-eq0 : goal.loop-at-preserved-then-left-eq0
loop-at-preserved-then-left-eq0 c =
    let A = c.args.arities.now in
    let w = c.args.row.now in
    let l = c.loop-at in
    let m = l.invariant.1 in
    let first = get_or w 0 0 in
    let n = bar_next A w _ _ _ _ m (opened m c.loop-at-test.true) c.if-left-eq0.true in (
      write_turn (set c.args.bars.now 0 first) (bars_of A w) l.bars l.at bar l.invariant.0 n.here n.below
          (omega (arith, length_bars A w, length-set c.args.bars.now 0 first, c.requires.0.fits)),
      bar_midway A w _ _ _ _ m (opened m c.loop-at-test.true) c.if-left-eq0.true,
    )

pub bounds-row-p : goal.bounds-row-p
bounds-row-p c =
    let m = c.loop-at.invariant.1 in
    symbol-below c.args.arities.now c.args.row.now _ _ _ _ m (opened m c.loop-at-test.true) (omega (arith, c.if-left-eq0.false)) c.requires.0.accepted

pub overflow_sub-lacks-in-loop-at : goal.overflow_sub-lacks-in-loop-at
overflow_sub-lacks-in-loop-at c = opened c.loop-at.invariant.1 c.loop-at-test.true

pub children_of-requires-in-loop-at : goal.children_of-requires-in-loop-at
children_of-requires-in-loop-at c =
    let A = c.args.arities.now in
    let w = c.args.row.now in
    let m = c.loop-at.invariant.1 in
    let below = symbol-below A w _ _ _ _ m (opened m c.loop-at-test.true) (omega (arith, c.if-left-eq0.false)) c.requires.0.accepted in
    (c.requires.0.fine, symbol_at A w c.loop-at.p c.requires.0.accepted below)

pub bounds-lacks-depth-in-loop-at-2 : goal.bounds-lacks-depth-in-loop-at-2
bounds-lacks-depth-in-loop-at-2 c =
    let m = c.loop-at.invariant.1 in
    let below = symbol-below c.args.arities.now c.args.row.now _ _ _ _ m (opened m c.loop-at-test.true) (omega (arith, c.if-left-eq0.false)) c.requires.0.accepted in
    simp length-set (omega (arith, c.loop-at.auto.lacks, length-set c.args.lacks.now 0 c.children_of.result, below, m.shallow, c.requires.1))

pub loop-at-preserved : goal.loop-at-preserved
loop-at-preserved c =
    let A = c.args.arities.now in
    let w = c.args.row.now in
    let l = c.loop-at in
    let m = l.invariant.1 in
    let some = opened m c.loop-at-test.true in
    let lack : 0 < get_or l.lacks (l.depth - 1) 0 = omega (arith, c.if-left-eq0.false) in
    let acc = c.requires.0.accepted in
    let n = symbol_next A w _ _ _ _ m some lack acc in
    let first = get_or w 0 0 in
    let room : length w ≤ length l.lacks = omega (arith, c.loop-at.auto.lacks, length-set c.args.lacks.now 0 c.children_of.result, c.requires.1) in (
      write_turn (set c.args.bars.now 0 first) (bars_of A w) l.bars l.at (get_or w l.p 0) l.invariant.0 n.here n.below
          (omega (arith, length_bars A w, length-set c.args.bars.now 0 first, c.requires.0.fits)),
      subst (λ (a : ℕ). Midway A w (set (set l.lacks (l.depth - 1) (get_or l.lacks (l.depth - 1) 0 - 1)) l.depth a) (l.depth + 1) (l.p + 1) (l.at + 1)) (sym c.children_of-in-loop-at.ensures)
          (symbol_midway A w _ _ _ _ m some lack acc room),
    )

pub returns : goal.returns
returns c =
    let A = c.args.arities.now in
    let w = c.args.row.now in
    let l = c.loop-at in
    let first = get_or w 0 0 in
    let form = bars_of A w in
    let some = some_row A w c.requires.0.accepted in
    let all : length form ≤ l.at = omega (arith, length_bars A w) in
    l.invariant.0
    ∙ ap (written (set c.args.bars.now 0 first) 0) (take_all l.at form all)
    ∙ written_again c.args.bars.now form first (omega (arith, length_bars A w, some))
