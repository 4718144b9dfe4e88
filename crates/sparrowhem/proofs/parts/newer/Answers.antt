-- The span that the companion answers is that of the subtree.
use Rattle.std.proofs.Common.{◌≡◌, ◌<◌, ◌≤◌, subst, rules, arith, length, Ok}
use Rattle.rows.specs.Programme.{alphabet_of, programme}
use Rattle.sparrowhem.specs.Parts.{NewestSays}
use Rattle.sparrowhem.specs.declared.parts.Newest.{Newest}
use Rattle.sparrowhem.specs.declared.parts.Newest.TheVariants.{Corrected, OnRecord}
use Rattle.sparrowhem.proofs.Preferring.{match_within, match_part}
use Rattle.sparrowhem.proofs.parts.newer.Goals as goal
use Rattle.sparrowhem.proofs.parts.newer.Goals.{In-Ok-Corrected, In-Ok-OnRecord}

module _ (c : In-Ok-Corrected) where
  abbrev newest : Newest
  newest = Corrected c.in-Ok-Corrected.begin c.in-Ok-Corrected.end

  said : NewestSays (alphabet_of c.args.arities.now) (programme c.args.corrected.now c.args.corrected_table.now c.args.corrected_classes.now) (programme c.args.«record».now c.args.record_table.now c.args.record_classes.now) c.args.pattern.now (Ok newest)
  said =
      subst (NewestSays (alphabet_of c.args.arities.now) (programme c.args.corrected.now c.args.corrected_table.now c.args.corrected_classes.now) (programme c.args.«record».now c.args.record_table.now c.args.record_classes.now) c.args.pattern.now)
      (let is : c.newer_answer-newest.result ≡ Ok newest = search rules in is) c.newer_answer-newest.ensures

  within : (c.in-Ok-Corrected.begin < c.in-Ok-Corrected.end) × (c.in-Ok-Corrected.end ≤ length c.args.corrected.now)
  within = match_within _ _ _ _ _ said.1

module _ (c : In-Ok-OnRecord) where
  abbrev older : Newest
  older = OnRecord c.in-Ok-OnRecord.begin c.in-Ok-OnRecord.end

  said_older : NewestSays (alphabet_of c.args.arities.now) (programme c.args.corrected.now c.args.corrected_table.now c.args.corrected_classes.now) (programme c.args.«record».now c.args.record_table.now c.args.record_classes.now) c.args.pattern.now (Ok older)
  said_older =
      subst (NewestSays (alphabet_of c.args.arities.now) (programme c.args.corrected.now c.args.corrected_table.now c.args.corrected_classes.now) (programme c.args.«record».now c.args.record_table.now c.args.record_classes.now) c.args.pattern.now)
      (let is : c.newer_answer-newest.result ≡ Ok older = search rules in is) c.newer_answer-newest.ensures

  within_older : (c.in-Ok-OnRecord.begin < c.in-Ok-OnRecord.end) × (c.in-Ok-OnRecord.end ≤ length c.args.«record».now)
  within_older = match_within _ _ _ _ _ said_older.2

pub slice_bounds-result-count : goal.slice_bounds-result-count
slice_bounds-result-count c = omega (arith, within (goal.at.slice_bounds-result-count c).In-Ok-Corrected)

pub slice_bounds-result-start : goal.slice_bounds-result-start
slice_bounds-result-start c = omega (arith, within (goal.at.slice_bounds-result-start c).In-Ok-Corrected)

pub slice_bounds-result-end : goal.slice_bounds-result-end
slice_bounds-result-end c = omega (arith, within (goal.at.slice_bounds-result-end c).In-Ok-Corrected)

pub slice_bounds-result-count-in-Ok-OnRecord : goal.slice_bounds-result-count-in-Ok-OnRecord
slice_bounds-result-count-in-Ok-OnRecord c = omega (arith, within_older (goal.at.slice_bounds-result-count-in-Ok-OnRecord c).In-Ok-OnRecord)

pub slice_bounds-result-start-in-Ok-OnRecord : goal.slice_bounds-result-start-in-Ok-OnRecord
slice_bounds-result-start-in-Ok-OnRecord c = omega (arith, within_older (goal.at.slice_bounds-result-start-in-Ok-OnRecord c).In-Ok-OnRecord)

pub slice_bounds-result-end-in-Ok-OnRecord : goal.slice_bounds-result-end-in-Ok-OnRecord
slice_bounds-result-end-in-Ok-OnRecord c = omega (arith, within_older (goal.at.slice_bounds-result-end-in-Ok-OnRecord c).In-Ok-OnRecord)

pub returns-in-Ok-Corrected-clause-newer_part : goal.returns-in-Ok-Corrected-clause-newer_part
returns-in-Ok-Corrected-clause-newer_part c =
    let s = (goal.at.returns-in-Ok-Corrected-clause-newer_part c).In-Ok-Corrected in
    record { answer = Ok (newest s); says = said s; part = match_part _ _ _ _ _ (said s).1 }

pub returns-in-Ok-OnRecord-clause-newer_part : goal.returns-in-Ok-OnRecord-clause-newer_part
returns-in-Ok-OnRecord-clause-newer_part c =
    let s = (goal.at.returns-in-Ok-OnRecord-clause-newer_part c).In-Ok-OnRecord in
    record { answer = Ok (older s); says = said_older s; part = match_part _ _ _ _ _ (said_older s).2 }
