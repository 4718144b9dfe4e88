-- `rows::read_end` meets its contract. Nothing more is due, or something is.
use Rattle.std.proofs.Common.{ℕ, ◌≡◌, ◌-◌, [], sym, ap, ◌∙◌, arith}
use Rattle.rows.specs.Row.{verdict}
use Rattle.rows.proofs.Scan.{verdict_early, verdict_whole}
use Rattle.rows.proofs.read_end.Goals as goal

pub returns-then-due-n : goal.returns-then-due-n
returns-then-due-n c = λ A ok.
    let a = c.args in
    let none : 0 ≡ a.due - a.n = omega (arith, c.if-due-n.true) in
    sym (verdict_whole A ok a.n) ∙ ap (λ (k : ℕ). verdict A ok k a.n []) none

pub returns-else-due-n : goal.returns-else-due-n
returns-else-due-n c = λ A ok.
    let a = c.args in
    sym (verdict_early A ok (a.due - a.n) a.n (omega (arith, c.requires, c.if-due-n.false)))
