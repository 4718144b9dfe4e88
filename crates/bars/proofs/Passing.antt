-- What the checks of the reader and the writer leave where they refuse nothing.
-- Assumes nothing.
use Rattle.std.specs.Prelude.{Ok}
use Prim.Native.Nat.{ℕ, ◌*◌, ◌<◌, ◌≤◌}
use mathlib.Core.Path.{◌≡◌}
use mathlib.Core.List.{List}
use lib.ListN.{length}
use Rattle.rows.specs.Limits.{row_most, bars_most}
use Rattle.rows.specs.Row.{allowed, sized, verdict, reading}
use Rattle.rows.specs.Programme.{alphabet_of}
use Rattle.rows.specs.Reading.{Accepted}
use Rattle.rows.specs.Refusals.{◌then◌, as_kept, alphabet, output}
use Rattle.rows.specs.declared.Leaves.TheVariants.{Symbols}
use Rattle.rows.specs.declared.Refusal.TheVariants.{Row}
use Rattle.rows.proofs.Passing.{both_fine, row_fine, output_fine, both_whole}
use Rattle.rows.proofs.Scan.{sized_fits}
use Rattle.bars.specs.Bars.{unbarred, rooted, read_check, write_check}
use Rattle.bars.specs.Given.{Writable}
use Rattle.bars.specs.Promises.{Sound}

-- the alphabet, the row and the room that are left to the writer
pub record Legible (A w : List ℕ) (m : ℕ) : Type 0 where
  pub fine : Sound A
  pub some : 0 < length w
  pub most : length w ≤ row_most
  pub accepted : Accepted A w
  pub room : 2 * length w ≤ m

pub write_legible : (A w : List ℕ) (m : ℕ) → write_check A w m ≡ Ok tt → Legible A w m
unfolding write_check reading
write_legible A w m e =
    let row = as_kept Row (reading A Symbols row_most w) in
    let room = output (2 * length w) m in
    let a = both_fine (alphabet (alphabet_of A)) (row then room) e in
    let b = both_fine row room a.1 in
    let whole = both_whole (sized (length w) row_most) (verdict A (allowed Symbols A) 1 0 w) (row_fine Row (reading A Symbols row_most w) b.0) in
    let fits = sized_fits (length w) row_most whole.0 in
    record { fine = a.0; some = fits.0; most = fits.1; accepted = whole.1; room = output_fine (2 * length w) m b.1 }

pub write_writable : (A w b : List ℕ) → write_check A w (length b) ≡ Ok tt → Writable A w b
write_writable A w b e =
    let l = write_legible A w (length b) e in
    record { fine = l.fine; accepted = l.accepted; most = l.most; fits = l.room }

-- the alphabet, the input and the room that are left to the reader
pub record Readable (A v : List ℕ) (m : ℕ) : Type 0 where
  pub fine : Sound A
  pub some : 0 < length v
  pub most : length v ≤ bars_most
  pub closed : rooted A v ≡ Ok tt
  pub room : length (unbarred v) ≤ m

pub read_readable : (A v : List ℕ) (m : ℕ) → read_check A v m ≡ Ok tt → Readable A v m
unfolding read_check
read_readable A v m e =
    let size = as_kept Row (sized (length v) bars_most) in
    let room = output (length (unbarred v)) m in
    let a = both_fine (alphabet (alphabet_of A)) (size then rooted A v then room) e in
    let b = both_fine size (rooted A v then room) a.1 in
    let c = both_fine (rooted A v) room b.1 in
    let fits = sized_fits (length v) bars_most (row_fine Row (sized (length v) bars_most) b.0) in
    record {
      fine = a.0;
      some = fits.0;
      most = fits.1;
      closed = c.0;
      room = output_fine (length (unbarred v)) m c.1;
    }
