-- Row, table and classes are changed where nothing is refused.
use Rattle.std.proofs.Common.{◌≡◌, ◌∙◌, sym, ap, Ok}
use Rattle.rows.specs.Programme.{Programme, alphabet_of}
use Rattle.edits.specs.Buffers.{buffers_of}
use Rattle.edits.specs.Replace.{Replaceable}
use Rattle.checks.specs.Checks.{replace_check}
use Rattle.checks.proofs.Replacing.{replace_able, replace_classes, replace_short, able_sizes}
use Rattle.sparrowhem.proofs.edit.replace.Goals as goal
use Rattle.sparrowhem.proofs.edit.replace.Goals.{In_ok-check_replace}

module _ (c : In_ok-check_replace) where
  fine : replace_check (alphabet_of c.args.arities.now) (buffers_of c.args.lent.now) c.args.row_length c.args.replacement.now c.args.position ≡ Ok tt
  fine = ap (λ (P : Programme). replace_check (alphabet_of c.args.arities.now) P c.args.row_length c.args.replacement.now c.args.position) (sym c.programme.ensures) ∙ sym c.check_replace.ensures ∙ c.in_ok-check_replace.was

  able : Replaceable c.args.arities.now c.args.lent.now.row.now c.args.lent.now.table.now c.args.row_length c.args.replacement.now c.args.position
  able = replace_able (alphabet_of c.args.arities.now) (buffers_of c.args.lent.now) c.args.row_length c.args.replacement.now c.args.position fine

pub replace_at-length-requires : goal.replace_at-length-requires
replace_at-length-requires c =
    let s = (goal.at.replace_at-length-requires c).In_ok-check_replace in
    let a = alphabet_of c.args.arities.now in
    let P = buffers_of c.args.lent.now in
    ((able s, replace_classes a P c.args.row_length c.args.replacement.now c.args.position (fine s)), replace_short a P c.args.row_length c.args.replacement.now c.args.position (fine s))

pub change-requires : goal.change-requires
change-requires c =
    able_sizes c.args.arities.now c.args.lent.now.row.now c.args.lent.now.table.now c.args.row_length c.args.replacement.now c.args.position c.replace_at-length.result (able (goal.at.change-requires c).In_ok-check_replace) c.replace_at-length.ensures.changing.0.length_now
