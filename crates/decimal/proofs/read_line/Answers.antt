-- `decimal::read_line` meets its contract.
use Rattle.std.proofs.Common.{rules, refl, ◌∙◌}
use Rattle.decimal.proofs.Lining.{none_lines, line_read}
use Rattle.decimal.proofs.read_line.Goals as goal

pub returns-in_default : goal.returns-in_default
returns-in_default c =
    let a = c.args in
    let l = c.loop-value in (
      (λ ns end h. none_lines a.text.now a.from.at l.at l.invariant.numbers ns end l.invariant.text (λ e. c.if-byte_at-eq10.false (c.byte_at.ensures ∙ e)) (c.in_default.ensures.0) h),
      refl,
    )

pub returns-then-byte_at-eq10-2 : goal.returns-then-byte_at-eq10-2
returns-then-byte_at-eq10-2 c = line_read _ _ _ _ _ _ _ c.loop-value.invariant _ _ (search rules) (search rules)
