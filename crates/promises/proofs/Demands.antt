-- All demands of specs/Demands.
-- Assumes nothing.
use Rattle.rows.proofs.Promises.{one_tree, tree_of_row}
use Rattle.rows.proofs.Classes.{class_of_row, same_class, equal_subtrees}
use Rattle.refusal_numbers.proofs.Table.{table}
use Rattle.promises.specs.Demands.{Demands}
use Rattle.promises.proofs.Demand1.{build_one, find_one, variables_one, replace_one, subtree_one, subtree_place_one, newer_one, newer_place_one, plain_one, build_order, find_order, variables_order, replace_order, subtree_order, newer_order, plain_order, find_short, build_refused, find_refused, variables_refused, replace_refused, find_stale, variables_stale, replace_stale, subtree_stale, newer_stale, newer_refused}
use Rattle.promises.proofs.Demand2.{rows_accepted, patterns_accepted, replacements_accepted, build_accepts, build_writes, find_lists, variables_exactly, plain_exactly, plain_finds, plain_refuses, subtree_part_is, subtree_empty, newer_part_is, newer_empty}
use Rattle.promises.proofs.Demand3.{replace_writes, after_run, variables_stay, find_stays, plain_stays, putting_back, either_order}
use Rattle.promises.proofs.Sheeting.{sheet_one, sheet_order, sheet_refused, sheet_stale, sheet_alone, sheet_settled}

pub demands : Demands
demands =
    record {
      build_one = build_one;
      find_one = find_one;
      variables_one = variables_one;
      sheet_one = sheet_one;
      replace_one = replace_one;
      subtree_one = subtree_one;
      subtree_place_one = subtree_place_one;
      newer_one = newer_one;
      newer_place_one = newer_place_one;
      plain_one = plain_one;
      table = table;
      build_order = build_order;
      find_order = find_order;
      variables_order = variables_order;
      sheet_order = sheet_order;
      replace_order = replace_order;
      subtree_order = subtree_order;
      newer_order = newer_order;
      plain_order = plain_order;
      find_short = find_short;
      build_refused = build_refused;
      find_refused = find_refused;
      variables_refused = variables_refused;
      sheet_refused = sheet_refused;
      replace_refused = replace_refused;
      find_stale = find_stale;
      variables_stale = variables_stale;
      sheet_stale = sheet_stale;
      replace_stale = replace_stale;
      subtree_stale = subtree_stale;
      newer_stale = newer_stale;
      newer_refused = newer_refused;
      rows_accepted = rows_accepted;
      patterns_accepted = patterns_accepted;
      replacements_accepted = replacements_accepted;
      one_tree = one_tree;
      tree_of_row = tree_of_row;
      class_of_row = class_of_row;
      same_class = same_class;
      equal_subtrees = equal_subtrees;
      build_accepts = build_accepts;
      build_writes = build_writes;
      find_lists = find_lists;
      sheet_alone = sheet_alone;
      sheet_settled = sheet_settled;
      variables_exactly = variables_exactly;
      plain_exactly = plain_exactly;
      plain_finds = plain_finds;
      plain_refuses = plain_refuses;
      subtree_part_is = subtree_part_is;
      subtree_empty = subtree_empty;
      newer_part_is = newer_part_is;
      newer_empty = newer_empty;
      replace_writes = replace_writes;
      after_run = after_run;
      variables_stay = variables_stay;
      find_stays = find_stays;
      plain_stays = plain_stays;
      putting_back = putting_back;
      either_order = either_order;
    }
