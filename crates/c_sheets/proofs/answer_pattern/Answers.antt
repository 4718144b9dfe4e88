-- A pattern that is too long is refused, and so is a faulty one; the matches of another are listed.
use Rattle.std.proofs.Common.{◌≡◌, ◌∙◌, sym, ap, subst, inl, refl, ℕ, ◌*◌, List, length, take, Ok, Err, arith}
use Rattle.std.proofs.Math.Seq.{take-length}
use Rattle.rows.specs.Limits.{result_places}
use Rattle.rows.specs.Programme.{alphabet_of, programme_of}
use Rattle.rows.specs.Buffers.{written}
use Rattle.rows.specs.Refusals.{pattern}
use Rattle.rows.specs.declared.Fault.TheVariants.{Long}
use Rattle.rows.specs.declared.Refusal.TheVariants.{Pattern}
use Rattle.patterns.specs.Searchable.{Checked}
use Rattle.searches.specs.Searches.{Lists}
use Rattle.sheets.specs.Result.{result_of}
use Rattle.sheets.proofs.Sheets.{pattern-small, row_most_lem, fine_checked, alone_most, refused-answered, told_count, listed_answered}
use Rattle.wire.specs.Wire.{numbers}
use Rattle.wire.proofs.Numbers.{front_read}
use Rattle.c_copied.proofs.Checks.{pattern_long}
use Rattle.c_sheets.proofs.answer_pattern.Goals as goal
use Rattle.c_sheets.proofs.answer_pattern.Goals.{After-decode}

-- the copy of the pattern
front : (c : After-decode) → take c.count-m.result c.decode.new.room ≡ numbers c.args.pattern.now
front c =
    let q = numbers c.args.pattern.now in
    let k = c.count-m in
    ap (take k.result) c.decode.ensures
    ∙ front_read q c.args.q.now k.result (omega (arith, k.ensures))
    ∙ ap (λ (n : ℕ). take n q) k.ensures
    ∙ take-length q

pub returns-then-m-gt-PATTERN_MOST : goal.returns-then-m-gt-PATTERN_MOST
returns-then-m-gt-PATTERN_MOST c =
    let q = numbers c.args.pattern.now in
    let m = c.count-m.ensures in
    refused-answered (alphabet_of c.args.arities.now) (programme_of c.args.programme) c.requires.0 q c.args.room.now c.args.i c.args.results.now (Pattern (Long (length q)))
    (pattern_long c.args.arities.now q (omega (arith, m, c.if-m-gt-PATTERN_MOST.true)))
    _
    (c.write_refusal.ensures ∙ ap (λ (l : ℕ). written c.args.results.now (result_places * c.args.i) (result_of (Err (Pattern (Long l))) 0)) m)

pub write_refusal-requires-in-Err : goal.write_refusal-requires-in-Err
write_refusal-requires-in-Err c =
    let same = front (goal.at.write_refusal-requires-in-Err c).After-decode in
    let small = pattern-small c.args.arities.now (numbers c.args.pattern.now) _ (ap (pattern c.args.arities.now) (sym same) ∙ sym c.check_pattern.ensures ∙ c.in-Err.is) in
    (omega (arith, small.0), omega (arith, small.1, c.requires.1), c.requires.2)

pub returns-in-Err : goal.returns-in-Err
returns-in-Err c =
    let same = front (goal.at.returns-in-Err c).After-decode in
    refused-answered (alphabet_of c.args.arities.now) (programme_of c.args.programme) c.requires.0 (numbers c.args.pattern.now) c.args.room.now c.args.i c.args.results.now _
    (ap (pattern c.args.arities.now) (sym same) ∙ sym c.check_pattern.ensures ∙ c.in-Err.is) _ c.write_refusal-in-Err.ensures

pub write_matches-count-requires : goal.write_matches-count-requires
write_matches-count-requires c =
    let a = alphabet_of c.args.arities.now in
    let P = programme_of c.args.programme in
    let same = front (goal.at.write_matches-count-requires c).After-decode in
    let fine = ap (pattern c.args.arities.now) (sym same) ∙ sym c.check_pattern.ensures ∙ c.in-Ok.is in
    ((a, subst (Checked a P) (sym same) (fine_checked a P c.requires.0 (numbers c.args.pattern.now) fine)), c.requires.4)

pub write_result-requires : goal.write_result-requires
write_result-requires c =
    let a = alphabet_of c.args.arities.now in
    let P = programme_of c.args.programme in
    let q = numbers c.args.pattern.now in
    let same = front (goal.at.write_result-requires c).After-decode in
    let fine = ap (pattern c.args.arities.now) (sym same) ∙ sym c.check_pattern.ensures ∙ c.in-Ok.is in
    let w = c.write_matches-count in
    let lists = subst (λ (q : List ℕ). Lists a P.row q c.args.room.now (Ok w.result) w.new.out) same (w.ensures a (subst (Checked a P) (sym same) (fine_checked a P c.requires.0 q fine))) in
    let n = told_count a P c.requires.0 q fine _ _ _ lists _ (inl refl) in
    (omega arith, omega arith, omega (arith, n, alone_most a P c.requires.0 q, row_most_lem a P c.requires.0), c.requires.2)

pub returns-in-Ok : goal.returns-in-Ok
returns-in-Ok c =
    let a = alphabet_of c.args.arities.now in
    let P = programme_of c.args.programme in
    let q = numbers c.args.pattern.now in
    let same = front (goal.at.returns-in-Ok c).After-decode in
    let fine = ap (pattern c.args.arities.now) (sym same) ∙ sym c.check_pattern.ensures ∙ c.in-Ok.is in
    let w = c.write_matches-count in
    let lists = subst (λ (q : List ℕ). Lists a P.row q c.args.room.now (Ok w.result) w.new.out) same (w.ensures a (subst (Checked a P) (sym same) (fine_checked a P c.requires.0 q fine))) in
    listed_answered a P c.requires.0 q fine _ _ _ lists _ c.args.i c.args.results.now _ (inl refl) c.write_result.ensures
