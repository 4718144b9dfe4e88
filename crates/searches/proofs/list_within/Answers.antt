-- `searches::list_within` meets its contract: the candidates are those of the stretch that can match, and of them the matches stay.
use Rattle.std.proofs.Common.{◌≡◌, length, take, refl, arith, rules}
use lib.Seq.{length-take-le}
use Rattle.rows.specs.Programme.{programme_of}
use Rattle.patterns.proofs.Matching.{checked_ends, checked_pattern}
use Rattle.searches.specs.Searches.{twins}
use Rattle.searches.proofs.Stretch.{each, paired, all_kept, those_kept, twins_kept}
use Rattle.searches.proofs.list_within.Goals as goal

pub bounds-pattern-0 : goal.bounds-pattern-0
bounds-pattern-0 c = let s = c.requires.0.searchable in (checked_pattern s.0 (programme_of c.args.programme) c.args.pattern.now s.1).some

pub write_candidates-many-requires : goal.write_candidates-many-requires
write_candidates-many-requires c =
    let s = c.requires.0.searchable in
    (checked_ends s.0 (programme_of c.args.programme) c.args.pattern.now s.1, c.requires.1, refl)

pub returns-then-outline-eq1 : goal.returns-then-outline-eq1
returns-then-outline-eq1 c =
    let a = c.args in
    let n = c.write_candidates-many.result in
    let w = c.write_candidates-many.ensures in
    let size : length (take n c.write_candidates-many.new.places) ≡ n = length-take-le n _ (omega (arith, w.0, w.1, c.requires.1.short)) in
    all_kept (programme_of a.programme) a.pattern.now a.outline c.requires.0 a.from a.to c.requires.1 n _ w.2 c.if-outline-eq1.true a.out.now _ size c.copy_from_slice.ensures.after

pub keep-requires-clause-asked : goal.keep-requires-clause-asked
keep-requires-clause-asked c i h _ _ _ _ _ _ _ _ =
    let a = c.args in
    paired (programme_of a.programme) a.pattern.now a.outline c.requires.0 a.from a.to c.requires.1 c.write_candidates-many.result _ c.write_candidates-many.ensures.2 (c.is_twin.ensures c.if-is_twin.true) i h

pub returns-then-is_twin : goal.returns-then-is_twin
returns-then-is_twin c =
    let a = c.args in
    twins_kept (programme_of a.programme) a.pattern.now a.outline c.requires.0 a.from a.to c.requires.1 c.write_candidates-many.result _ c.write_candidates-many.ensures.2 (c.is_twin.ensures c.if-is_twin.true) _ _ _
    (c.keep.ensures (twins a.programme.table.now a.programme.classes.now) (search rules))

pub keep_matches-requires-clause-walkable : goal.keep_matches-requires-clause-walkable
keep_matches-requires-clause-walkable c = record { searchable = c.requires.0.searchable; compared = c.requires.0.outlined.compared }

pub keep_matches-requires-clause-within : goal.keep_matches-requires-clause-within
keep_matches-requires-clause-within c i h =
    let a = c.args in
    (each (programme_of a.programme) a.pattern.now a.outline c.requires.0 a.from a.to c.requires.1 c.write_candidates-many.result _ c.write_candidates-many.ensures.2 i h).0

pub returns : goal.returns
returns c =
    let a = c.args in
    those_kept (programme_of a.programme) a.pattern.now a.outline c.requires.0 a.from a.to c.requires.1 c.write_candidates-many.result _ c.write_candidates-many.ensures.2 _ _ _ c.keep_matches.ensures
