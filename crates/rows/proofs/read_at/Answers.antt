-- `rows::read_at` meets its contract. The number that stands at i decides how the verdict goes on.
use Rattle.std.proofs.Common.{ℕ, ◌+◌, ◌≡◌, ap, sym, ◌∙◌, get_or, subst, arith}
use Rattle.rows.specs.Row.{allowed}
use Rattle.rows.specs.Reading.{ReadTo}
use Rattle.rows.proofs.Scan.{read_extra, read_stray, read_next}
use Rattle.rows.proofs.read_at.Goals as goal

pub returns-then-due-i : goal.returns-then-due-i
returns-then-due-i g c = read_extra _ _ _ _ _ c.requires.0 c.requires.1 c.if-due-i.true

pub returns-then-allows : goal.returns-then-allows
returns-then-allows g c =
    let a = c.args in
    let w = g.E.Piece.numbers a.row.now in
    let ok = allowed a.leaves a.arities.now in
    let told = ap ok (sym c.number_at-s.ensures) ∙ sym c.allows.ensures ∙ c.if-allows.true in
    let arity : c.from.result ≡ get_or a.arities.now (get_or w a.i 0) 0 = c.from.ensures ∙ c.arity_of.ensures ∙ ap (λ (s : ℕ). get_or a.arities.now s 0) c.number_at-s.ensures in
    let next = read_next a.arities.now ok w _ _ c.requires.0 c.requires.1 (omega (arith, c.requires.0.1, c.if-due-i.false)) told (omega (arith, arity, c.from.ensures)) in
    subst (λ (n : ℕ). ReadTo a.arities.now ok w (a.i + 1) (a.due + n)) (sym arity) next

pub returns : goal.returns
returns g c =
    let a = c.args in
    let ok = allowed a.leaves a.arities.now in
    read_stray a.arities.now ok (g.E.Piece.numbers a.row.now) _ _ c.requires.0 c.requires.1 (omega (arith, c.requires.0.1, c.if-due-i.false)) (ap ok (sym c.number_at-s.ensures) ∙ sym c.allows.ensures ∙ c.if-allows.false)
