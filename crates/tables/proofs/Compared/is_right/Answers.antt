-- `tables::Compared::is_right` meets its contract: row and table agree from the start on, and one tree stands there.
use Rattle.std.specs.Prelude.{ℕ, List, length, Option, Some, None, eqb, ◌≡◌, true}
use Rattle.std.specs.Option.{option_eq}
use Rattle.std.proofs.Common.{sym, ◌∙◌}
use borrow.Author.Tests.{eqb-true}
use Rattle.tables.specs.Given.{Sees}
use Rattle.tables.specs.Beside.{Agrees}
use Rattle.tables.proofs.Pass.{passed_all}
use Rattle.tables.proofs.Compared.is_right.Goals as goal

one_tree : (A w t l : List ℕ) (r : Option ℕ) → Agrees A w t 0 l r → option_eq eqb r (Some 1) ≡ true → Sees A w t (Some (length w))
one_tree A w t l None a e = cc
one_tree A w t l (Some n) a e = passed_all A w t l n _ a (eqb-true _ _ e)

pub returns : goal.returns
returns c e = one_tree _ _ _ _ _ c.agree.ensures (sym c.eq.ensures ∙ e)
