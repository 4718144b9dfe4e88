-- `bars::reader::check_rooted` meets its contract. The first number decides, or what is found behind the root.
use Rattle.std.proofs.Common.{ℕ, [], ◌∷◌, drop, sym, ap, ◌∙◌, arith}
use Rattle.std.proofs.lemmas.List.{get_or-set_same}
use Rattle.bars.specs.Bars.{closing}
use Rattle.bars.proofs.Reading.{root_bar, root_stray, root_opens}
use Rattle.bars.proofs.reader.check_rooted.Goals as goal

pub returns-then-s : goal.returns-then-s
returns-then-s c = sym (root_bar c.args.arities.now c.args.bars.now c.requires.some c.if-s.true)

pub returns-then-arities-from : goal.returns-then-arities-from
returns-then-arities-from c = sym (root_stray c.args.arities.now c.args.bars.now c.requires.some c.if-s.false (omega (arith, c.from.ensures)))

pub returns : goal.returns
returns c =
    let A = c.args.arities.now in
    let v = c.args.bars.now in
    let a = c.children_of in
    c.check_closing.ensures
    ∙ ap (λ (n : ℕ). closing A (n ∷ []) 1 (drop 1 v)) (get_or-set_same c.args.lacks.now 0 a.result 0 (omega (arith, c.requires.some, c.requires.room)) ∙ a.ensures)
    ∙ sym (root_opens A v c.requires.some c.if-s.false (omega (arith, c.from.ensures)))
