-- `class_checks::same_part` meets its contract. Of a long part the library says it.
use Rattle.std.proofs.Common.{arith}
use Rattle.class_checks.proofs.Parts.{same_slices}
use Rattle.class_checks.proofs.same_part.Goals as goal

pub returns-then-n-ge-LONG : goal.returns-then-n-ge-LONG
returns-then-n-ge-LONG c = same_slices c.args.list.now c.args.p c.args.q c.args.n _ _ c.eq.result c.requires.0 c.requires.1 (omega arith) (omega arith) c.eq.ensures
