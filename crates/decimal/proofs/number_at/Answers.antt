-- `decimal::number_at` meets its contract. Only 0 itself begins with a 0; behind any other digit more may follow.
use Rattle.std.proofs.Common.{◌+◌, refl, sym, ◌∙◌, arith, rules}
use mathlib.Core.Logic.{inl}
use Rattle.decimal.proofs.Reading.{digit_here, digit_first, ended_is, none_here}
use Rattle.decimal.proofs.number_at.Goals as goal

pub returns-then-first-eq48 : goal.returns-then-first-eq48
returns-then-first-eq48 c =
    let a = c.args in
    let e = digit_first a.text.now a.from.at (sym c.digit_at.ensures ∙ c.if-digit_at.true) in
    let z = c.if-first-eq48.true in
    ended_is a.text.now a.from.at (a.from.at + 1) a.from.line 0 c.ended.result (search rules) (rw z at e) (inl refl) c.ended.ensures

pub digits-requires : goal.digits-requires
digits-requires c =
    let d = digit_here c.args.text.now c.args.from.at (sym c.digit_at.ensures ∙ c.if-digit_at.true) in omega arith

pub returns-then-digit_at : goal.returns-then-digit_at
returns-then-digit_at c =
    let a = c.args in
    c.digits.ensures a.from.at (rw c.from.ensures (digit_first a.text.now a.from.at (sym c.digit_at.ensures ∙ c.if-digit_at.true)))

pub returns : goal.returns
returns c =
    let a = c.args in
    ((λ n end s. none_here a.text.now a.from.at n end (sym c.digit_at.ensures ∙ c.if-digit_at.false) s), refl)
