-- `sheets::Sheet::answer_pattern` meets its contract: a refused pattern has no positions, an accepted one those that are listed.
use Rattle.std.proofs.Common.{◌≡◌, ◌⊎◌, Ok, Err, sym, subst, ◌∙◌, ℕ, arith}
use Rattle.rows.specs.Programme.{alphabet_of, programme_of}
use Rattle.sheets.proofs.Sheets.{pattern-small, row_most_lem, fine_checked, alone_most, refused-answered, told_count, listed_answered}
use Rattle.sheets.proofs.Sheet.answer_pattern.Goals as goal
use Rattle.sheets.proofs.Sheet.answer_pattern.Goals.{in-Ok, in-Ok-2}

pub write_refusal-requires : goal.write_refusal-requires
write_refusal-requires c =
    let small = pattern-small c.args.self.now.arities.now c.args.pattern.now _ (sym c.check_pattern.ensures ∙ c.in-Err.is) in
    (omega (arith, small.0), omega (arith, small.1, c.requires.1), c.requires.2)

pub returns-in-Err : goal.returns-in-Err
returns-in-Err c =
    refused-answered (alphabet_of c.args.self.now.arities.now) (programme_of c.args.self.now.programme) c.requires.0 c.args.pattern.now c.args.out.now c.args.i c.args.results.now _ (sym c.check_pattern.ensures ∙ c.in-Err.is) _ c.write_refusal.ensures

pub list_matches-requires : goal.list_matches-requires
list_matches-requires c =
    let a = alphabet_of c.args.self.now.arities.now in
    (a, fine_checked a (programme_of c.args.self.now.programme) c.requires.0 c.args.pattern.now (sym c.check_pattern.ensures ∙ c.in_default.is))

pub write_result-requires : goal.write_result-requires
write_result-requires c =
    let a = alphabet_of c.args.self.now.arities.now in
    let P = programme_of c.args.self.now.programme in
    let q = c.args.pattern.now in
    let fine = sym c.check_pattern.ensures ∙ c.in_default.is in
    let counted : (c.list_matches.result ≡ Ok c.match-list_matches.count) ⊎ (c.list_matches.result ≡ Err c.match-list_matches.count) =
    elim c.match-list_matches.branch [
      | in-Ok w ↦ subst (λ (n : ℕ). (c.list_matches.result ≡ Ok n) ⊎ (c.list_matches.result ≡ Err n)) (sym w.count-is) w.in-Ok.is
      | in-Ok-2 w ↦ subst (λ (n : ℕ). (c.list_matches.result ≡ Ok n) ⊎ (c.list_matches.result ≡ Err n)) (sym w.count-is) w.in-Ok.is
    ] in
    let n = told_count a P c.requires.0 q fine _ _ _ (c.list_matches.ensures a (fine_checked a P c.requires.0 q fine)) _ counted in
    (omega arith, omega arith, omega (arith, n, alone_most a P c.requires.0 q, row_most_lem a P c.requires.0), c.requires.2)

pub returns : goal.returns
returns c =
    let a = alphabet_of c.args.self.now.arities.now in
    let P = programme_of c.args.self.now.programme in
    let q = c.args.pattern.now in
    let fine = sym c.check_pattern.ensures ∙ c.in_default.is in
    let counted : (c.list_matches.result ≡ Ok c.match-list_matches.count) ⊎ (c.list_matches.result ≡ Err c.match-list_matches.count) =
    elim c.match-list_matches.branch [
      | in-Ok w ↦ subst (λ (n : ℕ). (c.list_matches.result ≡ Ok n) ⊎ (c.list_matches.result ≡ Err n)) (sym w.count-is) w.in-Ok.is
      | in-Ok-2 w ↦ subst (λ (n : ℕ). (c.list_matches.result ≡ Ok n) ⊎ (c.list_matches.result ≡ Err n)) (sym w.count-is) w.in-Ok.is
    ] in
    listed_answered a P c.requires.0 q fine _ _ _ (c.list_matches.ensures a (fine_checked a P c.requires.0 q fine)) _ c.args.i c.args.results.now _ counted c.write_result.ensures
