-- The promises on the catalogue file. Each is proved in proofs/Promises, under the same name in small letters.
use Rattle.std.specs.Prelude.{ℕ, ◌≡◌, List, ◌↔◌, Ok}
use Rattle.wire.specs.Wire.{Bytes}
use Rattle.catalogue.specs.Catalogue.{Catalogue, file_of, Accepted}
use Rattle.catalogue.specs.Reading.{catalogue_in}
use Rattle.catalogue.specs.Refusals.{file_check, write_check, catalogue_of}

-- the file of a catalogue holds this catalogue
abbrev pub ReadsWritten : Type 0
ReadsWritten = (c : Catalogue) → catalogue_in (file_of c) ≡ c

-- a file that is accepted is the file of the catalogue that it holds
abbrev pub WritesRead : Type 0
WritesRead = (f : List ℕ) → Bytes f → file_check f ≡ Ok tt → file_of (catalogue_in f) ≡ f

-- no two catalogues have the same file
abbrev pub OneCatalogue : Type 0
OneCatalogue = (c d : Catalogue) → file_of c ≡ file_of d → c ≡ d

-- and each has one: two files that are accepted and hold the same catalogue are equal
abbrev pub OneFile : Type 0
OneFile = (f g : List ℕ) → Bytes f → Bytes g → file_check f ≡ Ok tt → file_check g ≡ Ok tt → catalogue_in f ≡ catalogue_in g → f ≡ g

-- bytes are accepted exactly if they are the file of a catalogue that is
abbrev pub AcceptsExactly : Type 0
AcceptsExactly = (f : List ℕ) → Bytes f → (file_check f ≡ Ok tt) ↔ ((c : Catalogue) × Accepted c × (file_of c ≡ f))

-- what the writer accepts is a catalogue that is accepted, so the reader accepts its file
abbrev pub AcceptsWritten : Type 0
AcceptsWritten = (A ns ls w : List ℕ) (k : ℕ) → write_check A ns ls w k ≡ Ok tt → Accepted (catalogue_of A ns ls w)
