-- `decimal::digits` meets its contract.
use Rattle.std.proofs.Common.{◌≡◌, ◌+◌, ◌*◌, ◌++◌, drop, refl, sym, ◌∙◌, arith, rules}
use Rattle.decimal.specs.Lines.{numeral}
use Rattle.decimal.proofs.Reading.{none_larger, digit_more, digit_here, ended_is}
use mathlib.Core.Logic.{inr}
use Rattle.decimal.proofs.digits.Goals as goal

pub overflow_add-n : goal.overflow_add-n
overflow_add-n c = let d = digit_here c.args.text.now c.loop-n.at (sym c.digit_at.ensures ∙ c.loop-n-test.true) in omega arith

pub returns-then-n-gt-NUMBER_MOST : goal.returns-then-n-gt-NUMBER_MOST
returns-then-n-gt-NUMBER_MOST c start e =
    let l = c.loop-n in
    let more : numeral c.args.first ++ drop c.args.next.at c.args.text.now ≡ numeral (l.n * 10 + c.from.result) ++ drop (l.at + 1) c.args.text.now
    = l.invariant.2 ∙ rw c.from.ensures (digit_more c.args.text.now l.at l.n l.invariant.0 (sym c.digit_at.ensures ∙ c.loop-n-test.true)) in
    ((λ m end s. none_larger c.args.text.now start _ m end _ (e ∙ more) c.if-n-gt-NUMBER_MOST.true s), refl)

pub loop-n-smaller : goal.loop-n-smaller
loop-n-smaller c = let d = digit_here c.args.text.now c.loop-n.at (sym c.digit_at.ensures ∙ c.loop-n-test.true) in omega arith

pub loop-n-preserved : goal.loop-n-preserved
loop-n-preserved c =
    let l = c.loop-n in
    let more : numeral c.args.first ++ drop c.args.next.at c.args.text.now ≡ numeral (l.n * 10 + c.from.result) ++ drop (l.at + 1) c.args.text.now
    = l.invariant.2 ∙ rw c.from.ensures (digit_more c.args.text.now l.at l.n l.invariant.0 (sym c.digit_at.ensures ∙ c.loop-n-test.true)) in
    (search rules, search rules, more)

pub returns : goal.returns
returns c start e =
    let a = c.args in
    let l = c.loop-n in
    ended_is a.text.now start l.at a.next.line l.n c.ended.result l.invariant.1 (e ∙ l.invariant.2)
    (inr (sym c.digit_at.ensures ∙ c.loop-n-test.false)) c.ended.ensures
