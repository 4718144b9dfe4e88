-- What the checks leave is tried, from the position on.
use Rattle.std.proofs.Common.{◌≡◌, ◌∙◌, sym, Ok, arith}
use Rattle.rows.specs.Programme.{alphabet_of}
use Rattle.checks.specs.Checks.{plain_check}
use Rattle.checks.proofs.Passing.{Open, plain_open}
use Rattle.sparrowhem.proofs.Trying.{open_tryable, plain_tried}
use Rattle.sparrowhem.proofs.matcher.plain_match.Goals as goal
use Rattle.sparrowhem.proofs.matcher.plain_match.Goals.{In_ok-check_plain}

module _ (c : In_ok-check_plain) where
  fine : plain_check (alphabet_of c.args.arities.now) c.args.row.now c.args.pattern.now c.args.position ≡ Ok tt
  fine = sym c.check_plain.ensures ∙ c.in_ok-check_plain.was

  opened : Open (alphabet_of c.args.arities.now) c.args.row.now c.args.pattern.now c.args.position
  opened = plain_open (alphabet_of c.args.arities.now) c.args.row.now c.args.pattern.now c.args.position fine

pub offset_bounds-row-position : goal.offset_bounds-row-position
offset_bounds-row-position c = omega (arith, (opened (goal.at.offset_bounds-row-position c).In_ok-check_plain).below, c.well_formed)

pub slice_bounds-fits-count : goal.slice_bounds-fits-count
slice_bounds-fits-count c = omega (arith, (opened (goal.at.slice_bounds-fits-count c).In_ok-check_plain).below)

pub slice_bounds-fits-start : goal.slice_bounds-fits-start
slice_bounds-fits-start c = omega (arith, (opened (goal.at.slice_bounds-fits-start c).In_ok-check_plain).below)

pub fits-requires : goal.fits-requires
fits-requires c = open_tryable _ _ _ _ (opened (goal.at.fits-requires c).In_ok-check_plain)

pub returns : goal.returns
returns c =
    let o = opened (goal.at.returns c).In_ok-check_plain in
    plain_tried (alphabet_of c.args.arities.now) c.args.row.now c.args.pattern.now c.args.position o (fine (goal.at.returns c).In_ok-check_plain) c.fits.result c.fits.ensures c.is_ok.result c.is_ok.ensures.value
