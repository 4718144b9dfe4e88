-- The table of worked programmes, computed: in each line the one outcome of the call is the one that stands there.
-- Assumes nothing.
use Rattle.std.specs.Prelude.{true, Ok, Err}
use mathlib.Core.Path.{◌≡◌, refl, subst}
use mathlib.Core.List.{[], ◌∷◌, ◌++◌}
use Rattle.rows.specs.Tree.{size, prefix, ends, subtrees}
use Rattle.rows.specs.Programme.{programme}
use Rattle.rows.specs.Parse.{first, rest, over, parse, table}
use Rattle.rows.specs.Classes.{alike, place_of, classes_of, classes}
use Rattle.rows.specs.Row.{verdict, sized, reading}
use Rattle.rows.specs.Sheet.{begin_of, pattern_at, laid}
use Rattle.rows.specs.Buffers.{written, One}
use Rattle.rows.specs.Refusals.{alphabet_size, arities_fit, some_leaf, alphabet, sizes, symbols, differs, fresh, classed, kept, given, pattern, sheet_size, sheet_sum, sheet, replacement, position, grown, output}
use Rattle.rows.specs.declared.Fault.TheVariants.{Stray, Early, Extra}
use Rattle.rows.specs.declared.Kept.TheVariants.{Misread, Stale, Misclassed}
use Rattle.rows.specs.declared.BarsFault.TheVariants.{Children, Unclosed}
use Rattle.rows.specs.declared.Refusal.{Refusal}
use Rattle.rows.specs.declared.Refusal.TheVariants.{Row, OutputShort, Bars, Programme as OfProgramme}
use Rattle.patterns.specs.Pattern.{leaf}
use Rattle.patterns.specs.Answers.{faced, span, spansBelow}
use Rattle.patterns.specs.Walk.{same_front, meets, takes, steps, walk, below}
use Rattle.buffers.specs.Renewed.{renewed}
use Rattle.edits.specs.Put.{put}
use Rattle.checks.specs.Checks.{build_check, search_check, find_check, variables_check, results_check, sheet_check, replace_check}
use Rattle.sheets.specs.Sheets.{alone, result}
use Rattle.bars.specs.Bars.{bar_form, bars_of, unbarred, closing, rooted, read_check as barsReadCheck, write_check as barsWriteCheck}
use Rattle.wire.specs.Wire.{numbers, bytes_of}
use Rattle.catalogue.specs.Catalogue.{halves, contents, entries, rows, first_row, opening, file_of}
use Rattle.catalogue.specs.Reading.{wide, entry_at, entries_of, programmes_in, symbols_in, entries_in, arities_in, first_row_in, row_in, programme_in, catalogue_in}
use Rattle.catalogue.specs.Refusals.{file_size, holds, few, rises, placed, rows_fit, head_fits, contents_fit, file_check, read_check, row_check, numbered, total, lengths_fit, size_of, given_fits, write_check}
use Rattle.promises.specs.Worked.{A, T, T_built, T_stale, T_misclassed, T_with_3_0_1, T_with_1, places, S, X0, spans_of_X0, ends_of_T, classes_of_T, four_patterns, four_lengths, two_rows, two_programmes, entry, unset_entry, unset_bytes, ranks, two_parts, two_parts_barred, a_bar_short, last_bar_lost, Worked}
use Rattle.promises.proofs.Demand1.{build_one, find_one, variables_one, replace_one}
use Rattle.promises.proofs.Sheeting.{sheet_one}
use Rattle.promises.proofs.Catalogues.{read_one, take_one, write_one}
use Rattle.promises.proofs.Bars.{bars_read_one, bars_write_one}
use lib.IntN.{pos, negsuc}
use Rattle.catalogue_read.specs.Answers.{holding}

-- the contract admits what its one outcome is
says : {X : Type 0} {admits : X → Type 0} (o : One admits) (x : X) → o.some ≡ x → admits x
says {X} {admits} o x e = subst admits e o.holds

-- entry 4 is stale
stale : Refusal
stale = Row (Stale 4)

-- class 6 is not the row's
misclassed : Refusal
misclassed = Row (Misclassed 6)

pub worked : Worked
unfolding build_one find_one variables_one sheet_one replace_one stale misclassed table classes classes_of place_of alike parse over first rest ends size verdict sized written alphabet_size arities_fit some_leaf alphabet sizes symbols differs fresh classed kept build_check subtrees reading given pattern position leaf faced span spansBelow same_front meets takes steps walk below search_check output find_check variables_check prefix replacement renewed put grown replace_check begin_of pattern_at laid sheet_size sheet_sum sheet results_check sheet_check alone result read_one take_one write_one numbers bytes_of halves contents entries rows first_row opening file_of wide entry_at entries_of programmes_in symbols_in entries_in arities_in first_row_in row_in programme_in catalogue_in file_size holds few rises placed rows_fit head_fits contents_fit file_check read_check row_check numbered total lengths_fit size_of given_fits write_check bars_read_one bars_write_one bar_form bars_of unbarred closing rooted barsReadCheck barsWriteCheck
worked =
    record {
      the_table = (Ok tt, says (build_one A (programme T (places 9) (places 9))) (Ok tt, T_built) refl, refl);
      equal_parts = (Ok 2, says (find_one A T_built (3 ∷ X0 ∷ X0 ∷ []) (places 9)) (Ok 2, 1 ∷ 6 ∷ places 7) refl, refl);
      alike_at_both_ends = (Ok 1, says (find_one A T_built (4 ∷ X0 ∷ S ∷ X0 ∷ []) (places 9)) (Ok 1, 0 ∷ places 8) refl, refl);
      its_variable = (Ok true, says (variables_one A T_built (4 ∷ X0 ∷ S ∷ X0 ∷ []) 0 (places 32)) (Ok true, spans_of_X0 1 4) refl, refl);
      nowhere = (Ok 0, says (find_one A T_built (4 ∷ X0 ∷ X0 ∷ S ∷ []) (places 9)) (Ok 0, places 9) refl, refl);
      everywhere = (Ok 9, says (find_one A T_built (S ∷ []) (places 9)) (Ok 9, 0 ∷ 1 ∷ 2 ∷ 3 ∷ 4 ∷ 5 ∷ 6 ∷ 7 ∷ 8 ∷ []) refl, refl);
      the_whole = (Ok true, says (variables_one A T_built (X0 ∷ []) 0 (places 32)) (Ok true, spans_of_X0 0 9) refl, refl);
      grown = (Ok (10, (pos 1)), says (replace_one A (programme (T ++ places 1) (ends_of_T ++ places 1) (classes_of_T ++ places 1)) 9 (3 ∷ 0 ∷ 1 ∷ []) 4) (Ok (10, (pos 1)), T_with_3_0_1) refl, refl);
      equal_parts_then = (Ok 2, says (find_one A T_with_3_0_1 (3 ∷ X0 ∷ X0 ∷ []) (places 9)) (Ok 2, 1 ∷ 7 ∷ places 7) refl, refl);
      shrunk = (Ok (7, (negsuc 1)), says (replace_one A T_built 9 (1 ∷ []) 1) (Ok (7, (negsuc 1)), T_with_1) refl, refl);
      ends_early = (Err (Row (Misread (Early 2))), says (build_one A (programme (3 ∷ 0 ∷ []) (places 9) (places 9))) (Err (Row (Misread (Early 2))), programme (3 ∷ 0 ∷ []) (places 9) (places 9)) refl, refl);
      goes_on = (Err (Row (Misread (Extra 1))), says (build_one A (programme (0 ∷ 0 ∷ []) (places 9) (places 9))) (Err (Row (Misread (Extra 1))), programme (0 ∷ 0 ∷ []) (places 9) (places 9)) refl, refl);
      goes_on_badly = (Err (Row (Misread (Extra 1))), says (build_one A (programme (0 ∷ 9 ∷ []) (places 9) (places 9))) (Err (Row (Misread (Extra 1))), programme (0 ∷ 9 ∷ []) (places 9) (places 9)) refl, refl);
      bad_number = (Err (Row (Misread (Stray 1))), says (build_one A (programme (3 ∷ 9 ∷ 0 ∷ []) (places 9) (places 9))) (Err (Row (Misread (Stray 1))), programme (3 ∷ 9 ∷ 0 ∷ []) (places 9) (places 9)) refl, refl);
      stale_find = (Err stale, says (find_one A T_stale (3 ∷ X0 ∷ X0 ∷ []) (places 9)) (Err stale, places 9) refl, refl);
      stale_variables = (Err stale, says (variables_one A T_stale (3 ∷ X0 ∷ X0 ∷ []) 1 (places 32)) (Err stale, places 32) refl, refl);
      stale_replace = (Err stale, says (replace_one A T_stale 9 (1 ∷ []) 1) (Err stale, T_stale) refl, refl);
      misclassed_find = (Err misclassed, says (find_one A T_misclassed (3 ∷ X0 ∷ X0 ∷ []) (places 9)) (Err misclassed, places 9) refl, refl);
      misclassed_variables = (Err misclassed, says (variables_one A T_misclassed (3 ∷ X0 ∷ X0 ∷ []) 1 (places 32)) (Err misclassed, places 32) refl, refl);
      misclassed_replace = (Err misclassed, says (replace_one A T_misclassed 9 (1 ∷ []) 1) (Err misclassed, T_misclassed) refl, refl);
      four_at_once = (
        Ok (4, 3),
        says (sheet_one A T_built four_patterns four_lengths (places 9) (places 13))
            (Ok (4, 3), 1 ∷ 6 ∷ 4 ∷ places 6, 0 ∷ 0 ∷ 2 ∷ 14 ∷ 2 ∷ 0 ∷ 11 ∷ 0 ∷ 0 ∷ 0 ∷ 0 ∷ 1 ∷ places 1) refl,
        refl,
      );
      four_without_room = (
        Err (OutputShort 12),
        says (sheet_one A T_built four_patterns four_lengths (places 9) (places 11)) (Err (OutputShort 12), places 9, places 11) refl,
        refl,
      );
      two_written = (
        Ok 53,
        says (write_one A.arities (7 ∷ 900 ∷ []) (9 ∷ 1 ∷ []) two_rows (unset_bytes 60)) (Ok 53, two_programmes ++ unset_bytes 7) refl,
        refl,
      );
      two_read = (
        Ok (holding 2 5),
        says (read_one two_programmes (unset_entry ∷ unset_entry ∷ unset_entry ∷ [])) (Ok (holding 2 5), entry 7 33 9 ∷ entry 900 51 1 ∷ unset_entry ∷ []) refl,
        refl,
      );
      second_row = (
        Ok 1,
        says (take_one (row_check two_programmes (entry 900 51 1) 9) (row_in two_programmes (entry 900 51 1)) (places 9)) (Ok 1, 1 ∷ places 8) refl,
        refl,
      );
      two_cut_wrongly = (
        OfProgramme 7 (Early 8),
        says (write_one A.arities (7 ∷ 900 ∷ []) (8 ∷ 2 ∷ []) two_rows (unset_bytes 60)) (Err (OfProgramme 7 (Early 8)), unset_bytes 60) refl,
        refl,
        refl,
      );
      bars_written = (Ok 14, says (bars_write_one ranks two_parts (places 16)) (Ok 14, two_parts_barred ++ places 2) refl, refl);
      bars_read = (Ok 7, says (bars_read_one ranks two_parts_barred (places 9)) (Ok 7, two_parts ++ places 2) refl, refl);
      child_too_many = (Err (Bars (Children 8)), says (bars_read_one ranks a_bar_short (places 9)) (Err (Bars (Children 8)), places 9) refl, refl);
      root_unclosed = (Err (Bars (Unclosed 17)), says (bars_read_one ranks last_bar_lost (places 9)) (Err (Bars (Unclosed 17)), places 9) refl, refl);
    }
