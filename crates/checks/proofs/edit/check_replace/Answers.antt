-- What refusals 1 to 10 and 62 leave is what the others are told by.
use Rattle.std.proofs.Common.{ℕ, ◌+◌, ◌-◌, ◌≡◌, ◌∙◌, sym, ap, length, get_or, rules, Ok}
use Rattle.rows.specs.Programme.{alphabet_of, programme_of, room}
use Rattle.rows.specs.Refusals.{◌then◌, given, replacement, position, grown}
use Rattle.tables.proofs.Given.{Held}
use Rattle.checks.specs.Checks.{replace_check}
use Rattle.checks.proofs.Replacing.{given_held, held_end, place-behind}
use Rattle.checks.proofs.edit.check_replace.Goals as goal
use Rattle.checks.proofs.edit.check_replace.Goals.{In_ok-check_given}

module _ (c : In_ok-check_given) where
  is_given : given (alphabet_of c.args.arities.now) (programme_of c.args.programme) c.args.n ≡ Ok tt
  is_given = sym c.check_given.ensures ∙ c.in_ok-check_given.was

  held : Held (alphabet_of c.args.arities.now) (programme_of c.args.programme) c.args.n
  held = given_held (alphabet_of c.args.arities.now) (programme_of c.args.programme) c.args.n is_given

pub check_replacement-requires : goal.check_replacement-requires
check_replacement-requires c =
    let h = held (goal.at.check_replacement-requires c).In_ok-check_given in
    (h.most, search (rules, h.fits), held_end (alphabet_of c.args.arities.now) (programme_of c.args.programme) c.args.n c.args.position h)

pub returns : goal.returns
unfolding replace_check
returns c =
    let s = (goal.at.returns c).In_ok-check_given in
    let P = programme_of c.args.programme in
    let A = c.args.arities.now in
    let v = c.args.replacement.now in
    let n = c.args.n in
    let p = c.args.position in
    simp (is_given s)
    (c.check_replacement.ensures
    ∙ ap (λ (places : ℕ). replacement A v then position n p then grown (p + length v + (n - get_or P.table p 0)) places) c.room.ensures
    ∙ place-behind (alphabet_of A) P n v p (room P) (held s))
