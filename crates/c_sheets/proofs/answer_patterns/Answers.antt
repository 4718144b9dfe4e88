-- The part that is lent holds pattern i, and what is answered of it stands behind what is answered of those before it.
use Rattle.std.proofs.Common.{◌≡◌, ◌≤◌, ◌∙◌, ℕ, ◌+◌, ◌-◌, ◌*◌, sym, ap, length, get_or, take, drop, length-take, length-take-le, rules, arith}
use Rattle.rows.specs.Limits.{row_most, result_places}
use Rattle.rows.specs.Programme.{alphabet_of, programme_of}
use Rattle.rows.specs.Sheet.{begin_of, pattern_at}
use Rattle.rows.proofs.Sheet.{begin_none, begin_more, pattern_within}
use Rattle.sheets.proofs.Sheets.{row_most_lem, alone_most, laid-few}
use Rattle.wire.specs.Wire.{numbers}
use Rattle.wire.proofs.Numbers.{numbers-length, numbers_part}
use Rattle.c_sheets.proofs.Sheets.{answered_none, answered_more}
use Rattle.c_sheets.proofs.answer_patterns.Goals as goal
use Rattle.c_sheets.proofs.answer_patterns.Goals.{After-from, After-answer_pattern-more}

-- in the loop: the bytes that are lent hold pattern i
module _ (c : After-from) where
  within : c.loop-i.begin + get_or c.args.lengths.now c.loop-i.i 0 ≤ length (numbers c.args.patterns.now)
  within = omega (arith, pattern_within c.args.lengths.now (length (numbers c.args.patterns.now)) c.loop-i.i c.requires.0.sum c.loop-i-test.true, c.loop-i.invariant.0)

  pattern-is : numbers (take (2 * (c.loop-i.begin + c.from.result) - 2 * c.loop-i.begin) (drop (2 * c.loop-i.begin) c.args.patterns.now)) ≡ pattern_at (numbers c.args.patterns.now) c.args.lengths.now c.loop-i.i
  unfolding pattern_at
  pattern-is =
      let r : ℕ = get_or c.args.lengths.now c.loop-i.i 0 in
      let n : 2 * (c.loop-i.begin + c.from.result) - 2 * c.loop-i.begin ≡ 2 * r = omega (arith, c.from.ensures) in
      ap (λ (k : ℕ). numbers (take k (drop (2 * c.loop-i.begin) c.args.patterns.now))) n
      ∙ numbers_part c.args.patterns.now c.loop-i.begin r
      ∙ ap (λ (b : ℕ). take r (drop b (numbers c.args.patterns.now))) c.loop-i.invariant.0

  pattern-most : length (pattern_at (numbers c.args.patterns.now) c.args.lengths.now c.loop-i.i) ≤ get_or c.args.lengths.now c.loop-i.i 0
  unfolding pattern_at
  pattern-most = omega (arith, length-take (get_or c.args.lengths.now c.loop-i.i 0) (drop (begin_of c.args.lengths.now c.loop-i.i) (numbers c.args.patterns.now)))

  -- the results have room
  results-room : result_places * c.loop-i.i + result_places ≤ length c.loop-i.results
  results-room = omega (arith, c.loop-i.auto.results, c.loop-i-test.true, c.requires.0.room)

  -- so far, and of one pattern more
  so_far : c.loop-i.count ≤ row_most * c.loop-i.i
  so_far =
      omega (arith, c.loop-i.invariant.1.count, laid-few (alphabet_of c.args.arities.now) (programme_of c.args.programme) c.requires.0.given (numbers c.args.patterns.now) c.args.lengths.now row_most c.loop-i.i (row_most_lem (alphabet_of c.args.arities.now) (programme_of c.args.programme) c.requires.0.given))

  row_few : length c.args.programme.row.now ≤ row_most
  row_few = row_most_lem (alphabet_of c.args.arities.now) (programme_of c.args.programme) c.requires.0.given

-- what is answered of pattern i
more-most : (c : After-answer_pattern-more) → c.answer_pattern-more.result ≤ length c.args.programme.row.now
more-most c =
    omega (arith, c.answer_pattern-more.ensures.count, alone_most (alphabet_of c.args.arities.now) (programme_of c.args.programme) c.requires.0.given (numbers (take (2 * (c.loop-i.begin + c.from.result) - 2 * c.loop-i.begin) (drop (2 * c.loop-i.begin) c.args.patterns.now))))

pub loop-i-init : goal.loop-i-init
loop-i-init c = (sym (begin_none _), answered_none _ _ _ _ _ _, c.requires.1, search rules)

pub overflow_add-end : goal.overflow_add-end
overflow_add-end c = record { fits = omega (arith, within (goal.at.overflow_add-end c).After-from, c.from.ensures, numbers-length c.args.patterns.now, c.well_formed) }

pub overflow_mul-pattern : goal.overflow_mul-pattern
overflow_mul-pattern c = record { fits = omega (arith, within (goal.at.overflow_mul-pattern c).After-from, c.from.ensures, numbers-length c.args.patterns.now, c.well_formed) }

pub overflow_mul-pattern-in-loop-i : goal.overflow_mul-pattern-in-loop-i
overflow_mul-pattern-in-loop-i c = record { fits = omega (arith, within (goal.at.overflow_mul-pattern-in-loop-i c).After-from, c.from.ensures, numbers-length c.args.patterns.now, c.well_formed) }

pub slice_bounds-pattern-end : goal.slice_bounds-pattern-end
slice_bounds-pattern-end c = omega (arith, within (goal.at.slice_bounds-pattern-end c).After-from, c.from.ensures, numbers-length c.args.patterns.now)

pub answer_pattern-more-requires : goal.answer_pattern-more-requires
answer_pattern-more-requires c =
    let d = (goal.at.answer_pattern-more-requires c).After-from in
    (c.requires.0.given, omega (arith, ap length (pattern-is d), pattern-most d, c.type_inv.length), results-room d, c.loop-i.invariant.3, c.loop-i.invariant.2)

pub slice_bounds-put_behind-end : goal.slice_bounds-put_behind-end
slice_bounds-put_behind-end c =
    omega (arith, more-most (goal.at.slice_bounds-put_behind-end c).After-answer_pattern-more, c.answer_pattern-more.auto.room, c.loop-i.invariant.2)

pub slice_bounds-put_behind-end-in-loop-i : goal.slice_bounds-put_behind-end-in-loop-i
slice_bounds-put_behind-end-in-loop-i c =
    sym (length-take-le _ _ (omega (arith, more-most (goal.at.slice_bounds-put_behind-end-in-loop-i c).After-answer_pattern-more, c.answer_pattern-more.auto.room, c.loop-i.invariant.2)))

pub put_behind-requires : goal.put_behind-requires
put_behind-requires c =
    let d = (goal.at.put_behind-requires c).After-from in
    let m = more-most (goal.at.put_behind-requires c).After-answer_pattern-more in
    (omega (arith, so_far d, c.loop-i-test.true, c.requires.0.few), omega (arith, length-take c.answer_pattern-more.result c.answer_pattern-more.new.room, m, row_few d))

pub overflow_add-count : goal.overflow_add-count
overflow_add-count c =
    let d = (goal.at.overflow_add-count c).After-from in
    let m = more-most (goal.at.overflow_add-count c).After-answer_pattern-more in
    record { fits = omega (arith, so_far d, c.loop-i-test.true, c.requires.0.few, m, row_few d) }

pub loop-i-preserved : goal.loop-i-preserved
loop-i-preserved c =
    let d = (goal.at.loop-i-preserved c).After-from in
    let l = c.loop-i in
    let ls = c.args.lengths.now in
    let p = c.answer_pattern-more in (
      ap (λ (n : ℕ). l.begin + n) c.from.ensures ∙ ap (λ (b : ℕ). b + get_or ls l.i 0) l.invariant.0 ∙ sym (begin_more ls l.i),
      answered_more (alphabet_of c.args.arities.now) c.args.programme.row.now (numbers c.args.patterns.now) ls l.i _ _ _ _ _ l.invariant.1 _ _ _ _ _ _ (pattern-is d)
          (omega (arith, alone_most (alphabet_of c.args.arities.now) (programme_of c.args.programme) c.requires.0.given (numbers (take (2 * (l.begin + c.from.result) - 2 * l.begin) (drop (2 * l.begin) c.args.patterns.now))), l.invariant.2))
          (omega (arith, c.loop-i-test.true, c.requires.0.room))
          p.ensures
          c.put_behind.ensures,
      omega (arith, p.auto.room, l.invariant.2),
      omega (arith, p.auto.q, l.invariant.3),
    )
