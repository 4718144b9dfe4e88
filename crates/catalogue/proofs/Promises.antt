-- The promises of specs/Promises, each with its proof.
-- Assumes nothing.
use Rattle.std.specs.Prelude.{Ok}
use Prim.Native.Nat.{ℕ}
use mathlib.Core.Path.{◌≡◌, sym, ap, ◌∙◌, subst}
use mathlib.Core.List.{List}
use Rattle.catalogue.specs.Catalogue.{file_of}
use Rattle.catalogue.specs.Reading.{catalogue_in}
use Rattle.catalogue.specs.Refusals.{file_check}
use Rattle.catalogue.specs.Promises.{ReadsWritten, WritesRead, OneCatalogue, OneFile, AcceptsExactly, AcceptsWritten}
use Rattle.catalogue.proofs.Written.{reads_back}
use Rattle.catalogue.proofs.Read.{whole, writes_back}
use Rattle.catalogue.proofs.Accepting.{accepts_file, accepts_given, holds_accepted}

pub reads_written : ReadsWritten
reads_written = reads_back

pub writes_read : WritesRead
writes_read f small h = writes_back f small (whole f h)

pub one_catalogue : OneCatalogue
one_catalogue c d e = sym (reads_back c) ∙ ap catalogue_in e ∙ reads_back d

pub one_file : OneFile
one_file f g small small' h h' e = sym (writes_read f small h) ∙ ap file_of e ∙ writes_read g small' h'

pub accepts_exactly : AcceptsExactly
accepts_exactly f small =
    (λ h. (catalogue_in f, holds_accepted f small h, writes_read f small h), λ x. subst (λ (g : List ℕ). file_check g ≡ Ok tt) x.2 (accepts_file x.0 x.1))

pub accepts_written : AcceptsWritten
accepts_written = accepts_given
