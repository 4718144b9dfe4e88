use Rattle.std.proofs.Common.{◌≡◌, ◌+◌, ◌*◌, ap, ◌∙◌, arith}
use Rattle.wire.specs.Wire.{numbers}
use Rattle.catalogue.specs.Reading.{wide, entry_at}
use Rattle.catalogue_read.proofs.contents.entry_at.Goals as goal

pub returns : goal.returns
unfolding entry_at
returns c =
    let a = c.args in
    let w = numbers a.file.now in
    let start : 4 + 6 * a.k ≡ 2 + 6 * a.k + 2 = omega arith in
    let long : 6 + 6 * a.k ≡ 2 + 6 * a.k + 4 = omega arith in
    cc (c.wide_at.ensures, c.wide_at-2.ensures ∙ ap (wide w) start, c.wide_at-3.ensures ∙ ap (wide w) long)
