-- `plain::fits` meets its contract: S or a variable alone takes the whole tree, and else the walk that the first node tells of is right.
use Rattle.std.proofs.Common.{sym, ◌∙◌, arith}
use mathlib.Core.Logic.{⊎_elim}
use Rattle.rows.specs.Programme.{alphabet_of}
use Rattle.plain.proofs.Parting.{pattern-starts, lent_start, bare_matches, past_matches, through_matches, miss_differs}
use Rattle.plain.proofs.fits.Goals as goal

pub bounds-pattern-0 : goal.bounds-pattern-0
bounds-pattern-0 c = pattern-starts (alphabet_of c.args.arities.now) _ _ c.requires

pub returns-in_default : goal.returns-in_default
returns-in_default c = bare_matches (alphabet_of c.args.arities.now) _ _ c.requires (λ z. c.in_default.not-Plain (c.leaf_of.ensures ∙ z))

pub node-requires : goal.node-requires
node-requires c = (
  lent_start (alphabet_of c.args.arities.now) _ _ c.requires _ (λ i l u. c.count_compared-told.ensures.blank i (omega arith) u),
  sym c.leaf_of.ensures ∙ c.in-Plain.is,
)

pub returns-in-Past : goal.returns-in-Past
returns-in-Past c =
    let a = alphabet_of c.args.arities.now in
    ⊎_elim (λ e. past_matches a _ _ c.requires _ _ _ _ (c.node.ensures.past _ _ e.2)) (λ e. through_matches a _ _ c.requires (c.node.ensures.through e)) c.in-Past.is

pub returns-in-Miss : goal.returns-in-Miss
returns-in-Miss c = miss_differs (alphabet_of c.args.arities.now) _ _ c.requires _ _ (c.node.ensures.miss _ _ c.in-Miss.is)
