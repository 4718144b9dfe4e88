-- The promises of specs/Promises, each with its proof.
-- Assumes nothing.
use mathlib.Core.Path.{refl, sym, ap, ◌∙◌}
use Rattle.rows.specs.Tree.{Forest, single, prefix, ends, subtree_at}
use Rattle.rows.specs.Parse.{table}
use Rattle.rows.specs.Promises.{OneTree, TreeOfRow, EntryOfTable}
use Rattle.rows.specs.Notation.{ReadsRows, ChecksumRule, NoBeginning, TableOfRow, TheLimits}
use Rattle.rows.proofs.Parse.{same_tree, no_longer}
use Rattle.rows.proofs.Accept.{whole_iff_row, whole_of_row, parse_row, tree_row}
use Rattle.rows.proofs.Checksum.{row_iff_checks}
use Rattle.rows.proofs.Entry.{entry_bounds, entry_only}
use Rattle.rows.proofs.Subtrees.{subtree_row}

pub reads_rows : ReadsRows
reads_rows = whole_iff_row

pub checksum_rule : ChecksumRule
checksum_rule = row_iff_checks

pub one_tree : OneTree
one_tree A ok = same_tree A ok ok

pub no_beginning : NoBeginning
no_beginning A ok = no_longer A ok ok

pub tree_of_row : TreeOfRow
tree_of_row A ok w r = (parse_row A ok w r, tree_row A ok w r)

pub table_of_row : TableOfRow
unfolding table
table_of_row A ok w r = ap (ends 0) (parse_row A ok w r)

pub entry_of_table : EntryOfTable
entry_of_table A ok w r p h =
    let b = entry_bounds A w p h in
    record {
      behind = b.0;
      within = b.1;
      subtree = ap (λ (f : Forest). prefix (single (subtree_at f p))) (sym (parse_row A ok w r)) ∙ subtree_row A w p h;
      only = λ d lo hi q. entry_only A ok ok w 1 0 (whole_of_row A ok w r) p d h lo hi q;
    }

pub the_limits : TheLimits
the_limits =
    record {
      of_alphabet = refl;
      of_arity = refl;
      of_row = refl;
      of_pattern = refl;
      of_sheet = refl;
      S = refl;
      X0 = refl;
      to_X15 = refl;
      two_each = refl;
      three_each = refl;
      freed_in_row = refl;
      freed_in_table = refl;
      freed_in_classes = refl;
    }
