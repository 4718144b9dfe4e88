-- `catalogue_read::head::check_head` meets its contract. A file of under 4 bytes ends before any first row.
use Rattle.std.proofs.Common.{◌<◌, length, sym, arith}
use borrow.Author.Tests.{lt-ltb, le-ltb}
use Rattle.catalogue.specs.Catalogue.{first_row}
use Rattle.catalogue.specs.Reading.{first_row_in}
use Rattle.catalogue.specs.Refusals.{head_fits, file_size, holds, few}
use Rattle.catalogue_read.proofs.head.check_head.Goals as goal

pub returns-then-size-gt-FILE_MOST : goal.returns-then-size-gt-FILE_MOST
unfolding head_fits file_size
returns-then-size-gt-FILE_MOST c = simp (lt-ltb _ _ c.if-size-gt-FILE_MOST.true)

pub returns-then-size-lt4 : goal.returns-then-size-lt4
unfolding head_fits file_size holds first_row_in first_row
returns-then-size-lt4 c =
    let f = c.args.file.now in
    let short : length f < first_row_in f = omega (arith, c.if-size-lt4.true) in
    simp (le-ltb _ _ c.if-size-gt-FILE_MOST.false, lt-ltb _ _ short)

pub returns-then-size-first_row_in : goal.returns-then-size-first_row_in
unfolding head_fits file_size holds
returns-then-size-first_row_in c = simp (le-ltb _ _ c.if-size-gt-FILE_MOST.false, sym c.first_row_in.ensures, lt-ltb _ _ c.if-size-first_row_in.true)

pub returns-then-n-gt-PROGRAMMES_MOST : goal.returns-then-n-gt-PROGRAMMES_MOST
unfolding head_fits file_size holds few
returns-then-n-gt-PROGRAMMES_MOST c =
    let size = le-ltb _ _ c.if-size-gt-FILE_MOST.false in
    let long = le-ltb _ _ c.if-size-first_row_in.false in
    simp (size, sym c.first_row_in.ensures, long, sym c.programmes_in-n.ensures.0, lt-ltb _ _ c.if-n-gt-PROGRAMMES_MOST.true)

pub returns : goal.returns
unfolding head_fits file_size holds few
returns c =
    let size = le-ltb _ _ c.if-size-gt-FILE_MOST.false in
    let long = le-ltb _ _ c.if-size-first_row_in.false in
    simp (size, sym c.first_row_in.ensures, long, sym c.programmes_in-n.ensures.0, le-ltb _ _ c.if-n-gt-PROGRAMMES_MOST.false)
