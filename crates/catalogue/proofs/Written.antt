-- The file of a catalogue holds it: the round trip on lists.
-- Assumes nothing.
use Prim.Native.Nat.{ℕ, suc, ◌+◌, ◌*◌, ◌/◌, ◌%◌}
use mathlib.Core.Path.{◌≡◌, refl, sym, ap, ap₂, ◌∙◌}
use mathlib.Core.List.{List, [], ◌∷◌, ◌++◌, map, append_assoc}
use native.Mathlib.Omega.{arith}
use lib.ListN.{length, get_or, take, drop, length-append}
use lib.Seq.{take_at, drop_at, take-append_seam, drop-append_seam}
use Rattle.wire.specs.Wire.{numbers, bytes_of}
use Rattle.wire.proofs.Numbers.{bytes_of-length, bytes_of-append, read_written}
use Rattle.catalogue.specs.Catalogue.{Numbered, Catalogue, contents, entries, rows, first_row, opening, file_of}
use Rattle.catalogue.specs.Reading.{entries_of, programmes_in, symbols_in, entries_in, arities_in, row_in, programme_in, catalogue_in}
use Rattle.catalogue.specs.declared.Entry.{Entry}
use Rattle.catalogue.proofs.Halves.{contents-length, entries_read}

-- numbers at the front are read first
pub numbers-append : (v z : List ℕ) → numbers (bytes_of v ++ z) ≡ v ++ numbers z
unfolding numbers bytes_of
numbers-append [] z = refl
numbers-append (x ∷ v) z =
    let pair : x % 256 + 256 * (x / 256) ≡ x = omega arith in
    ap₂ (λ (a : ℕ) (l : List ℕ). a ∷ l) pair (numbers-append v z)

pub entries-length : (at : ℕ) (ps : List Numbered) → length (entries at ps) ≡ length ps
unfolding entries
entries-length at [] = refl
entries-length at (p ∷ ps) = ap suc (entries-length (at + 2 * length p.row) ps)

-- the rows laid behind `pre` are read by their entries
programmes_read : (pre : List ℕ) (ps : List Numbered) (f : List ℕ) → f ≡ pre ++ bytes_of (rows ps)
    → map (programme_in f) (entries (length pre) ps) ≡ ps
unfolding entries rows programme_in row_in bytes_of
programmes_read pre [] f e = refl
programmes_read pre (p ∷ ps) f e =
    let laid : f ≡ pre ++ (bytes_of p.row ++ bytes_of (rows ps)) = e ∙ ap (λ (l : List ℕ). pre ++ l) (bytes_of-append p.row (rows ps)) in
    let here : take (2 * length p.row) (drop (length pre) f) ≡ bytes_of p.row =
    ap (λ (l : List ℕ). take (2 * length p.row) (drop (length pre) l)) laid
    ∙ ap (take (2 * length p.row)) (drop-append_seam pre (bytes_of p.row ++ bytes_of (rows ps)))
    ∙ take_at (bytes_of p.row) (bytes_of (rows ps)) (2 * length p.row) (bytes_of-length p.row) in
    let row : numbers (take (2 * length p.row) (drop (length pre) f)) ≡ p.row = ap numbers here ∙ read_written p.row in
    let next : length (pre ++ bytes_of p.row) ≡ length pre + 2 * length p.row =
    length-append pre (bytes_of p.row) ∙ ap (λ (n : ℕ). length pre + n) (bytes_of-length p.row) in
    ap₂ (λ (x : Numbered) (l : List Numbered). x ∷ l)
    (ap (λ (l : List ℕ). record { number = p.number; row = l }) row)
    (ap (λ (n : ℕ). map (programme_in f) (entries n ps)) (sym next)
    ∙ programmes_read (pre ++ bytes_of p.row) ps f (laid ∙ sym (append_assoc pre (bytes_of p.row) (bytes_of (rows ps)))))

module _ (c : Catalogue) where
  abbrev behind : List ℕ
  behind = c.arities ++ bytes_of (rows c.programmes)

  abbrev es : List Entry
  es = entries (first_row (length c.programmes) (length c.arities)) c.programmes

  -- head and contents are so many bytes
  pub opening-length : length (bytes_of (opening c)) ≡ 4 + 12 * length c.programmes
  unfolding opening
  opening-length =
      bytes_of-length (opening c)
      ∙ omega (arith, contents-length es, entries-length (first_row (length c.programmes) (length c.arities)) c.programmes)

  -- what the numbers of the file begin with
  numbers_file : numbers (file_of c) ≡ length c.programmes ∷ (length c.arities ∷ (contents es ++ numbers behind))
  unfolding file_of opening
  numbers_file = numbers-append (opening c) behind

  pub programmes_in_lem : programmes_in (file_of c) ≡ length c.programmes
  unfolding programmes_in
  programmes_in_lem = ap (λ (l : List ℕ). get_or l 0 0) numbers_file

  pub symbols_in_lem : symbols_in (file_of c) ≡ length c.arities
  unfolding symbols_in
  symbols_in_lem = ap (λ (l : List ℕ). get_or l 1 0) numbers_file

  pub entries_in_lem : entries_in (file_of c) ≡ es
  unfolding entries_in
  entries_in_lem =
      ap₂ (λ (n : ℕ) (l : List ℕ). entries_of n (drop 2 l))
      (programmes_in_lem ∙ sym (entries-length (first_row (length c.programmes) (length c.arities)) c.programmes))
      numbers_file
      ∙ entries_read es (numbers behind)

  pub arities_in_lem : arities_in (file_of c) ≡ c.arities
  unfolding arities_in file_of
  arities_in_lem =
      ap₂ (λ (n s : ℕ). take s (drop (4 + 12 * n) (file_of c))) programmes_in_lem symbols_in_lem
      ∙ ap (take (length c.arities)) (drop_at (bytes_of (opening c)) behind (4 + 12 * length c.programmes) opening-length)
      ∙ take-append_seam c.arities (bytes_of (rows c.programmes))

  pub programmes_back : map (programme_in (file_of c)) es ≡ c.programmes
  unfolding file_of first_row
  programmes_back =
      let pre = bytes_of (opening c) ++ c.arities in
      let begin : first_row (length c.programmes) (length c.arities) ≡ length pre =
      sym (length-append (bytes_of (opening c)) c.arities ∙ ap (λ (n : ℕ). n + length c.arities) opening-length) in
      ap (λ (n : ℕ). map (programme_in (file_of c)) (entries n c.programmes)) begin
      ∙ programmes_read pre c.programmes (file_of c) (sym (append_assoc (bytes_of (opening c)) c.arities (bytes_of (rows c.programmes))))

  pub reads_back : catalogue_in (file_of c) ≡ c
  unfolding catalogue_in
  reads_back =
      ap₂ (λ (A : List ℕ) (ps : List Numbered). record { arities = A; programmes = ps })
      arities_in_lem
      (ap (map (programme_in (file_of c))) entries_in_lem ∙ programmes_back)
