-- What the checks leave is searched, the corrected row first.
use Rattle.std.proofs.Common.{◌≡◌, ◌∙◌, sym, subst, Ok}
use Rattle.rows.specs.Programme.{alphabet_of, programme_of}
use Rattle.patterns.specs.Searchable.{Checked}
use Rattle.checks.specs.Checks.{newer_check}
use Rattle.checks.proofs.Passing.{newer_checked}
use Rattle.sparrowhem.specs.Parts.{FirstIs}
use Rattle.sparrowhem.proofs.parts.newer_answer.Goals as goal
use Rattle.sparrowhem.proofs.parts.newer_answer.Goals.{In_ok-check_newer}

module _ (c : In_ok-check_newer) where
  fine : newer_check (alphabet_of c.args.arities.now) (programme_of c.args.corrected) (programme_of c.args.«record») c.args.pattern.now ≡ Ok tt
  fine = sym c.check_newer.ensures ∙ c.in_ok-check_newer.was

  both : Checked (alphabet_of c.args.arities.now) (programme_of c.args.corrected) c.args.pattern.now × Checked (alphabet_of c.args.arities.now) (programme_of c.args.«record») c.args.pattern.now
  both = newer_checked (alphabet_of c.args.arities.now) (programme_of c.args.corrected) (programme_of c.args.«record») c.args.pattern.now fine

pub first_span-requires : goal.first_span-requires
first_span-requires c = (_, (both (goal.at.first_span-requires c).In_ok-check_newer).0)

pub first_span-requires-2 : goal.first_span-requires-2
first_span-requires-2 c = (_, (both (goal.at.first_span-requires-2 c).In_ok-check_newer).1)

pub returns-in-Some : goal.returns-in-Some
returns-in-Some c =
    let s = (goal.at.returns-in-Some c).In_ok-check_newer in
    (fine s, subst (FirstIs (alphabet_of c.args.arities.now) c.args.corrected.row.now c.args.pattern.now) c.in-Some.is (c.first_span.ensures _ (both s).0))

pub returns-in-Some-first_span : goal.returns-in-Some-first_span
returns-in-Some-first_span c =
    let s = (goal.at.returns-in-Some-first_span c).In_ok-check_newer in
    let Says = FirstIs (alphabet_of c.args.arities.now) in (
      fine s,
      subst (Says c.args.corrected.row.now c.args.pattern.now) c.in_default.is (c.first_span.ensures _ (both s).0),
      subst (Says c.args.«record».row.now c.args.pattern.now) c.in-Some-first_span.is (c.first_span-2.ensures _ (both s).1),
    )

pub returns-in-None : goal.returns-in-None
returns-in-None c =
    let s = (goal.at.returns-in-None c).In_ok-check_newer in
    let Says = FirstIs (alphabet_of c.args.arities.now) in (
      fine s,
      subst (Says c.args.corrected.row.now c.args.pattern.now) c.in_default.is (c.first_span.ensures _ (both s).0),
      subst (Says c.args.«record».row.now c.args.pattern.now) c.in-None.is (c.first_span-2.ensures _ (both s).1),
    )
