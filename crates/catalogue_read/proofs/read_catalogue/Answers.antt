-- `catalogue_read::read_catalogue` meets its contract. What is answered says how many records are written, and these fit and have entries in
-- the file.
use Rattle.std.proofs.Common.{ℕ, ◌≡◌, length, sym, ap, ◌∙◌, arith}
use Rattle.wire.specs.Wire.{numbers}
use Rattle.catalogue.specs.Reading.{programmes_in}
use Rattle.catalogue.specs.Refusals.{read_check}
use Rattle.catalogue_read.specs.Records.{stored}
use Rattle.catalogue_read.specs.declared.Opened.{Opened}
use Rattle.catalogue_read.proofs.Storing.{accepts, stored_all, opened_fine}
use Rattle.catalogue_read.proofs.read_catalogue.Goals as goal

pub store-requires : goal.store-requires
store-requires c =
    let f = c.args.file.now in
    let m = length c.args.entries.now in
    let fine = opened_fine (read_check f m) f c.in_ok-opened.opened (sym c.answer.ensures ∙ c.in_ok-opened.was) in
    let many : c.in_ok-opened.opened.programmes ≡ programmes_in f = ap (λ (o : Opened). o.programmes) fine.1 in
    let ok = accepts f m fine.0 in
    (omega (arith, ok.room_for, many), λ i h. omega (arith, ok.long, many))

pub returns : goal.returns
returns c =
    let f = c.args.file.now in
    let es = c.args.entries.now in
    let fine = opened_fine (read_check f (length es)) f c.in_ok-opened.opened (sym c.answer.ensures ∙ c.in_ok-opened.was) in
    let many : c.in_ok-opened.opened.programmes ≡ programmes_in f = ap (λ (o : Opened). o.programmes) fine.1 in
    record {
      answer = sym c.in_ok-opened.was ∙ c.answer.ensures;
      records = c.store.ensures ∙ ap (λ (n : ℕ). stored (numbers f) n es) many ∙ stored_all f es fine.0 ∙ simp fine.0;
    }
