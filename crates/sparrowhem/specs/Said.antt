-- What an answer says on paper: that the call refuses, with number and place; or the values that docs/SCOPE.md names for the call.
use Rattle.std.specs.Prelude.{ℕ, List, [], ◌∷◌, ℤ, pos, Bool, true, false, Result, Ok, Err, ⊤}
use Rattle.refusal_numbers.specs.Numbers.{number, place}
use Rattle.rows.specs.declared.Refusal.{Refusal}
use Rattle.catalogue_read.specs.declared.Opened.{Opened}
use Rattle.sparrowhem.specs.declared.parts.Newest.{Newest}
use Rattle.sparrowhem.specs.declared.parts.Newest.TheVariants.{Corrected, OnRecord, Nowhere}

pub data Said : Type 0 where
  refused : ℕ → ℕ → Said
  gives : List ℤ → Said

-- number and place
abbrev pub refusal : Refusal → Said
refusal r = refused (number r) (place r)

-- build: nothing more
abbrev pub check_said : Result ⊤ Refusal → Said
check_said (Ok _) = gives []
check_said (Err r) = refusal r

-- find: the number of the matches
abbrev pub found_said : Result ℕ Refusal → Said
found_said (Ok n) = gives (pos n ∷ [])
found_said (Err r) = refusal r

-- variables: 1 for matched, 0 for not
abbrev pub bound_said : Result Bool Refusal → Said
bound_said (Ok true) = gives (pos 1 ∷ [])
bound_said (Ok false) = gives (pos 0 ∷ [])
bound_said (Err r) = refusal r

-- sheet: the number of its patterns, and that of all positions
abbrev pub sheet_said : Result (ℕ × ℕ) Refusal → Said
sheet_said (Ok (n, m)) = gives (pos n ∷ pos m ∷ [])
sheet_said (Err r) = refusal r

-- replace: the new length, and the change in length
abbrev pub replaced_said : Result (ℕ × ℤ) Refusal → Said
replaced_said (Ok (m, change)) = gives (pos m ∷ change ∷ [])
replaced_said (Err r) = refusal r

-- the companion of subtree: begin and end
abbrev pub placed_said : Result (ℕ × ℕ) Refusal → Said
placed_said (Ok (b, e)) = gives (pos b ∷ pos e ∷ [])
placed_said (Err r) = refusal r

-- the companion of newer or older: 1 for the corrected row, 2 for the row on record, with position and end; 0 for neither
abbrev pub newest_said : Result Newest Refusal → Said
newest_said (Ok (Corrected p e)) = gives (pos 1 ∷ pos p ∷ pos e ∷ [])
newest_said (Ok (OnRecord p e)) = gives (pos 2 ∷ pos p ∷ pos e ∷ [])
newest_said (Ok Nowhere) = gives (pos 0 ∷ [])
newest_said (Err r) = refusal r

-- plain matcher: 1 for yes, 0 for no
abbrev pub fits_said : Result Bool Refusal → Said
fits_said (Ok true) = gives (pos 1 ∷ [])
fits_said (Ok false) = gives (pos 0 ∷ [])
fits_said (Err r) = refusal r

-- read catalogue: the number of its programmes, and that of its symbols
abbrev pub opened_said : Result Opened Refusal → Said
opened_said (Ok o) = gives (pos o.programmes ∷ pos o.symbols ∷ [])
opened_said (Err r) = refusal r

-- alphabet of a catalogue, and row of an entry: how many numbers were written
abbrev pub taken_said : Result ℕ Refusal → Said
taken_said (Ok n) = gives (pos n ∷ [])
taken_said (Err r) = refusal r

-- write catalogue: the file's size
abbrev pub filed_said : Result ℕ Refusal → Said
filed_said (Ok n) = gives (pos n ∷ [])
filed_said (Err r) = refusal r

-- read bars: the row's length
abbrev pub bars_read_said : Result ℕ Refusal → Said
bars_read_said (Ok n) = gives (pos n ∷ [])
bars_read_said (Err r) = refusal r

-- write bars: the length of the bar form
abbrev pub bars_written_said : Result ℕ Refusal → Said
bars_written_said (Ok n) = gives (pos n ∷ [])
bars_written_said (Err r) = refusal r
