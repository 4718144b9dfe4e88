-- A pattern over its limit is refused; one within it is read from its copy.
use Rattle.std.proofs.Common.{ℕ, ◌≡◌, ◌∙◌, sym, ap, subst, refl, List, take, Result, Err, rules, arith}
use Rattle.std.proofs.Math.Seq.{take-length}
use Rattle.std.specs.Prelude.{⊤}
use Rattle.rows.specs.Programme.{Alphabet, alphabet_of, programme_of}
use Rattle.rows.specs.Refusals.{◌then◌, pattern}
use Rattle.rows.specs.declared.Fault.TheVariants.{Long}
use Rattle.rows.specs.declared.Refusal.{Refusal}
use Rattle.rows.specs.declared.Refusal.TheVariants.{Pattern}
use Rattle.patterns.specs.Searchable.{Checked}
use Rattle.checks.specs.Checks.{search_check}
use Rattle.checks.proofs.Passing.{search_checked}
use Rattle.wire.specs.Wire.{numbers, Bytes}
use Rattle.wire.proofs.Numbers.{front_read}
use Rattle.c_lent.specs.Answer.{find_answer}
use Rattle.c_lent.specs.Calls.{FoundBytes}
use Rattle.c_copied.proofs.Checks.{pattern_long}
use Rattle.c_copied.proofs.Found.{found-refused}
use Rattle.c_copied.proofs.search.find_pattern.Goals as goal
use Rattle.c_copied.proofs.search.find_pattern.Goals.{After-count-m, After-decode, After-check_pattern}

-- row, table and classes are right, so the pattern decides
decided : (c : After-count-m) (r : Result ⊤ Refusal) → pattern c.args.arities.now (numbers c.args.pattern.now) ≡ r
    → search_check (alphabet_of c.args.arities.now) (programme_of c.args.programme) (numbers c.args.pattern.now) ≡ r
unfolding search_check
decided c r e = ap (λ (g : Result ⊤ Refusal). g then pattern c.args.arities.now (numbers c.args.pattern.now)) c.requires.0 ∙ e

-- the copy of the pattern
front : (c : After-decode) → take c.count-m.result c.decode.new.room ≡ numbers c.args.pattern.now
front c =
    let q = numbers c.args.pattern.now in
    let k = c.count-m in
    ap (take k.result) c.decode.ensures
    ∙ front_read q _ k.result (omega (arith, k.ensures))
    ∙ ap (λ (n : ℕ). take n q) k.ensures
    ∙ take-length q

pub returns-then-m-gt-PATTERN_MOST : goal.returns-then-m-gt-PATTERN_MOST
returns-then-m-gt-PATTERN_MOST c =
    let q = numbers c.args.pattern.now in
    let m = c.count-m.ensures in
    let small : Bytes c.args.out.now = search rules in
    found-refused (alphabet_of c.args.arities.now) (programme_of c.args.programme) q c.args.out.now small _ _ refl
    (decided (goal.at.returns-then-m-gt-PATTERN_MOST c).After-count-m _ (pattern_long c.args.arities.now q (omega (arith, m, c.if-m-gt-PATTERN_MOST.true)) ∙ ap (λ (l : ℕ). Err (Pattern (Long l))) (sym m)))

pub returns-in_err-check_pattern : goal.returns-in_err-check_pattern
returns-in_err-check_pattern c =
    let q = numbers c.args.pattern.now in
    let small : Bytes c.args.out.now = search rules in
    let is : c.from_residual.result ≡ Err c.in_err-check_pattern.field-0.0 = search rules in
    found-refused (alphabet_of c.args.arities.now) (programme_of c.args.programme) q c.args.out.now small _ _ is
    (decided (goal.at.returns-in_err-check_pattern c).After-count-m _ (ap (pattern c.args.arities.now) (sym (front (goal.at.returns-in_err-check_pattern c).After-decode)) ∙ sym c.check_pattern.ensures ∙ c.in_err-check_pattern.was))

pub write_found-requires : goal.write_found-requires
write_found-requires c =
    let q = numbers c.args.pattern.now in
    let P = programme_of c.args.programme in
    let a = alphabet_of c.args.arities.now in
    let same = front (goal.at.write_found-requires c).After-decode in
    let fine = decided (goal.at.write_found-requires c).After-count-m _ (ap (pattern c.args.arities.now) (sym same) ∙ sym c.check_pattern.ensures ∙ c.in_ok-check_pattern.was) in
    (subst (λ (l : List ℕ). (x : Alphabet) × Checked x P l) (sym same) (a, search_checked a P q fine), c.requires.1)

pub returns : goal.returns
returns c =
    let q = numbers c.args.pattern.now in
    let P = programme_of c.args.programme in
    let a = alphabet_of c.args.arities.now in
    let f = c.write_found in
    let same = front (goal.at.returns c).After-decode in
    let fine = decided (goal.at.returns c).After-count-m _ (ap (pattern c.args.arities.now) (sym same) ∙ sym c.check_pattern.ensures ∙ c.in_ok-check_pattern.was) in
    subst (λ (l : List ℕ). FoundBytes a P l c.args.out.now (find_answer f.result) f.new.out) same
    (f.ensures a (ap (search_check a P) same ∙ fine))
