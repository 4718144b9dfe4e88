use Rattle.std.proofs.Common.{take, flat_map}
use Rattle.std.specs.Io.KnownBytes.{Appends}
use Rattle.script.specs.Printed.{number_text}
use Rattle.script.proofs.printing.numbers.Given as goal

-- The numbers before the place went out.
abbrev pub invariant-loop-x : goal.invariant-loop-x
invariant-loop-x g l =
    Appends (g.W.Write.contents l.initial.to) (g.W.Write.contents l.to) (flat_map number_text (take l.x-index l.xs))
