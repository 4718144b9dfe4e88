-- `bars::reader::check_closing` meets its contract. The number that stands at i, and what the innermost node lacks, decide how reading goes on.
use Rattle.std.proofs.Common.{◌≡◌, ◌+◌, ◌-◌, ◌<◌, ℕ, List, set, get_or, drop, length, sym, ap, ◌∙◌, arith}
use Rattle.bars.specs.Bars.{closing}
use Rattle.bars.proofs.Lacking.{lacking, lacking_one}
use Rattle.bars.proofs.Reading.{end_open, bar_too_soon, bar_closes, child_too_many, no_symbol, symbol_opens}
use Rattle.bars.proofs.reader.check_closing.Goals as goal

pub loop-i-init : goal.loop-i-init
loop-i-init c = (omega arith, omega arith, ap (λ (ks : List ℕ). closing c.args.arities.now ks 1 (drop 1 c.args.bars.now)) (lacking_one c.args.lacks.now))

pub returns-then-left-gt0 : goal.returns-then-left-gt0
returns-then-left-gt0 c =
    let l = c.loop-i in
    sym (bar_too_soon c.args.arities.now c.args.bars.now l.lacks l.depth l.i _ l.invariant.2 (omega arith) l.invariant.0 (omega arith) c.if-s.true)

pub returns-then-depth-eq0 : goal.returns-then-depth-eq0
unfolding lacking
returns-then-depth-eq0 c =
    let A = c.args.arities.now in
    let v = c.args.bars.now in
    let l = c.loop-i in
    let closed = bar_closes A v l.lacks l.depth l.i _ l.invariant.2 (omega arith) l.invariant.0 (omega arith) c.if-s.true in
    c.check_end.ensures A ∙ sym (closed ∙ ap (λ (n : ℕ). closing A (lacking l.lacks n) (l.i + 1) (drop (l.i + 1) v)) c.if-depth-eq0.true)

pub loop-i-preserved-then-s : goal.loop-i-preserved-then-s
loop-i-preserved-then-s c =
    let l = c.loop-i in
    (omega (arith, c.if-depth-eq0.false), omega (arith, l.invariant.1), bar_closes c.args.arities.now c.args.bars.now l.lacks l.depth l.i _ l.invariant.2 (omega arith) l.invariant.0 (omega arith) c.if-s.true)

pub returns-then-left-eq0 : goal.returns-then-left-eq0
returns-then-left-eq0 c =
    let l = c.loop-i in
    sym (child_too_many c.args.arities.now c.args.bars.now l.lacks l.depth l.i _ l.invariant.2 (omega arith) l.invariant.0 c.if-left-eq0.true c.if-s.false)

pub returns-then-arities-from : goal.returns-then-arities-from
returns-then-arities-from c =
    let l = c.loop-i in
    let lack : 0 < get_or l.lacks (l.depth - 1) 0 = omega (arith, c.if-left-eq0.false) in
    sym (no_symbol c.args.arities.now c.args.bars.now l.lacks l.depth l.i _ l.invariant.2 (omega arith) l.invariant.0 lack c.if-s.false (omega (arith, c.from.ensures)))

pub loop-i-preserved : goal.loop-i-preserved
loop-i-preserved c =
    let A = c.args.arities.now in
    let v = c.args.bars.now in
    let l = c.loop-i in
    let lack : 0 < get_or l.lacks (l.depth - 1) 0 = omega (arith, c.if-left-eq0.false) in
    let lowered = set l.lacks (l.depth - 1) (get_or l.lacks (l.depth - 1) 0 - 1) in (
      omega arith,
      omega (arith, l.invariant.1),
      symbol_opens A v l.lacks l.depth l.i _ l.invariant.2 (omega arith) l.invariant.0 lack c.if-s.false (omega (arith, c.from.ensures)) (omega (arith, c.requires.room, l.invariant.1))
          ∙ ap (λ (n : ℕ). closing A (lacking (set lowered l.depth n) (l.depth + 1)) (l.i + 1) (drop (l.i + 1) v)) (sym c.children_of.ensures),
    )

pub returns : goal.returns
returns c =
    let l = c.loop-i in
    let v = c.args.bars.now in
    let all : length v ≡ l.i = omega (arith, c.requires.some) in
    rw all (sym (end_open c.args.arities.now v l.lacks l.depth l.i _ l.invariant.2 c.loop-i-test.false l.invariant.0))
