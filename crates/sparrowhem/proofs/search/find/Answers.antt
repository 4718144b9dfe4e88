-- What the checks leave is searched.
use Rattle.std.proofs.Common.{◌≡◌, ◌∙◌, sym, Ok, rules}
use Rattle.rows.specs.Programme.{alphabet_of, programme_of}
use Rattle.checks.specs.Checks.{search_check}
use Rattle.patterns.specs.Searchable.{Checked}
use Rattle.checks.proofs.Passing.{search_checked}
use Rattle.sparrowhem.proofs.Searching.{finds_refused, finds_told}
use Rattle.sparrowhem.proofs.search.find.Goals as goal
use Rattle.sparrowhem.proofs.search.find.Goals.{In_ok-check_search}

module _ (c : In_ok-check_search) where
  fine : search_check (alphabet_of c.args.arities.now) (programme_of c.args.programme) c.args.pattern.now ≡ Ok tt
  fine = sym c.check_search.ensures ∙ c.in_ok-check_search.was

  checked : Checked (alphabet_of c.args.arities.now) (programme_of c.args.programme) c.args.pattern.now
  checked = search_checked (alphabet_of c.args.arities.now) (programme_of c.args.programme) c.args.pattern.now fine

pub returns-in_err-check_search : goal.returns-in_err-check_search
returns-in_err-check_search c =
    finds_refused (alphabet_of c.args.arities.now) (programme_of c.args.programme) c.args.pattern.now c.args.out.now _ _ (search rules) (sym c.check_search.ensures ∙ c.in_err-check_search.was)

pub list_matches-requires : goal.list_matches-requires
list_matches-requires c = (_, checked (goal.at.list_matches-requires c).In_ok-check_search)

pub returns : goal.returns
returns c =
    let s = (goal.at.returns c).In_ok-check_search in
    let l = c.list_matches in
    finds_told (alphabet_of c.args.arities.now) (programme_of c.args.programme) c.args.pattern.now c.args.out.now (fine s) l.result l.new.out (l.ensures _ (checked s)) c.map_err.result (search rules)
