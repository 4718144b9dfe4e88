-- `sheets::Sheet::answer_patterns` meets its contract: the part that is lent is pattern i.
use Rattle.std.proofs.Common.{◌≡◌, ℕ, ◌+◌, ◌-◌, length, get_or, take, drop, min, length-take, sym, ap, ◌∙◌, arith, rules}
use mathlib.Core.Path.{ap₂, subst}
use Rattle.sheets.specs.Sheets.{AnsweredTo}
use Rattle.rows.specs.Limits.{row_most}
use Rattle.rows.specs.Programme.{alphabet_of, programme_of}
use Rattle.rows.specs.Sheet.{begin_of, pattern_at}
use Rattle.rows.proofs.Sheet.{begin_none, begin_more, pattern_within}
use Rattle.sheets.proofs.Sheets.{row_most_lem, alone_most, answered_none, answered_more, laid-few, results_long}
use Rattle.sheets.proofs.Sheet.answer_patterns.Goals as goal

pub loop-i-init : goal.loop-i-init
loop-i-init c = (sym (begin_none _), answered_none _ _ _ _ _ _)

pub overflow_add-end : goal.overflow_add-end
overflow_add-end c =
    let s = c.args.self.now in
    record { fits = omega (arith, c.well_formed, c.loop-i.invariant.0, c.from.ensures, pattern_within s.lengths.now (length s.patterns.now) c.loop-i.i c.requires.sum c.loop-i-test.true) }

pub offset_bounds-self-begin : goal.offset_bounds-self-begin
offset_bounds-self-begin c =
    let s = c.args.self.now in
    record { fits = omega (arith, c.well_formed, c.loop-i.invariant.0, pattern_within s.lengths.now (length s.patterns.now) c.loop-i.i c.requires.sum c.loop-i-test.true) }

pub slice_bounds-answer_pattern-end : goal.slice_bounds-answer_pattern-end
slice_bounds-answer_pattern-end c =
    let s = c.args.self.now in
    omega (arith, c.loop-i.invariant.0, c.from.ensures, pattern_within s.lengths.now (length s.patterns.now) c.loop-i.i c.requires.sum c.loop-i-test.true)

pub answer_pattern-count-requires : goal.answer_pattern-count-requires
answer_pattern-count-requires c =
    let s = c.args.self.now in
    let l = c.loop-i in
    let long = results_long (alphabet_of s.arities.now) s.programme.row.now s.patterns.now s.lengths.now l.i c.args.results.now l.results l.invariant.1.results (omega (arith, c.loop-i-test.true, c.requires.room)) in (
      c.requires.given,
      omega (arith, length-take (l.begin + c.from.result - l.begin) (drop l.begin s.patterns.now), c.from.ensures, c.type_inv.length),
      omega (arith, long, c.loop-i-test.true, c.requires.room),
    )

pub overflow_add-count : goal.overflow_add-count
overflow_add-count c =
    let s = c.args.self.now in
    let a = alphabet_of s.arities.now in
    let P = programme_of s.programme in
    let l = c.loop-i in
    let most = row_most_lem a P c.requires.given in
    let so_far = laid-few a P c.requires.given s.patterns.now s.lengths.now row_most l.i most in
    let more = alone_most a P c.requires.given (take (l.begin + c.from.result - l.begin) (drop l.begin s.patterns.now)) in
    record { fits = omega (arith, l.invariant.1.count, so_far, more, most, c.answer_pattern-count.ensures.count, c.loop-i-test.true, c.requires.few) }

pub loop-i-preserved : goal.loop-i-preserved
unfolding pattern_at
loop-i-preserved c =
    let s = c.args.self.now in
    let a = alphabet_of s.arities.now in
    let l = c.loop-i in
    let b : l.begin ≡ begin_of s.lengths.now l.i = l.invariant.0 in
    let n : l.begin + c.from.result - l.begin ≡ get_or s.lengths.now l.i 0 = omega (arith, c.from.ensures) in
    let part : take (l.begin + c.from.result - l.begin) (drop l.begin s.patterns.now) ≡ pattern_at s.patterns.now s.lengths.now l.i
    = ap₂ (λ (n b : ℕ). take n (drop b s.patterns.now)) n b in
    let at : c.min-at.result ≡ min l.count (length l.out) = search rules in (
      rw c.from.ensures (ap (λ (b : ℕ). b + get_or s.lengths.now l.i 0) b ∙ sym (begin_more s.lengths.now l.i)),
      answered_more a s.programme.row.now s.patterns.now s.lengths.now l.i _ _ _ _ _ l.invariant.1 _ _ _ _ _ part at (omega (arith, c.loop-i-test.true, c.requires.room)) c.answer_pattern-count.ensures,
    )

pub returns : goal.returns
returns c =
    let s = c.args.self.now in
    let l = c.loop-i in
    let end : l.i ≡ length s.lengths.now = omega (arith, c.loop-i-test.false) in
    subst (λ (n : ℕ). AnsweredTo (alphabet_of s.arities.now) s.programme.row.now s.patterns.now s.lengths.now n c.args.out.now c.args.results.now l.count l.out l.results) end l.invariant.1
