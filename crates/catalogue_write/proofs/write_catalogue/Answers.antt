-- `catalogue_write::write_catalogue` meets its contract. Where the check finds nothing, the file can be laid out.
use Rattle.std.proofs.Common.{ℕ, ◌≡◌, Result, Ok, length, sym, ap, ◌∙◌, arith}
use Rattle.std.specs.Prelude.{⊤}
use Rattle.rows.specs.declared.Refusal.{Refusal}
use Rattle.catalogue.specs.Catalogue.{file_of}
use Rattle.catalogue.specs.Refusals.{catalogue_of, size_of}
use Rattle.catalogue_write.specs.Answers.{filed}
use Rattle.catalogue.proofs.Accepting.{size_is}
use Rattle.catalogue_write.proofs.Granting.{given_of, room_of, given_is, symbols-few, rows_few, layable}
use Rattle.catalogue_write.proofs.write_catalogue.Goals as goal

pub lay_out-requires-clause-layable : goal.lay_out-requires-clause-layable
lay_out-requires-clause-layable g c =
    let h = sym c.check_write.ensures ∙ c.in_ok-check_write.was in
    layable _ _ _ _ (given_of _ _ _ _ _ h) _ (room_of _ _ _ _ _ h)

pub lay_out-requires-clause-given : goal.lay_out-requires-clause-given
lay_out-requires-clause-given g c = given_is _ _ _ _ (given_of _ _ _ _ _ (sym c.check_write.ensures ∙ c.in_ok-check_write.was))

pub lay_out-requires-clause-room : goal.lay_out-requires-clause-room
lay_out-requires-clause-room g c = room_of _ _ _ _ _ (sym c.check_write.ensures ∙ c.in_ok-check_write.was)

pub size_of-requires : goal.size_of-requires
size_of-requires g c =
    let h = given_of _ _ _ _ _ (sym c.check_write.ensures ∙ c.in_ok-check_write.was) in
    (symbols-few _ _ _ _ h, (given_is _ _ _ _ h).few, omega (arith, rows_few _ _ _ _ h, c.count.ensures))

pub returns : goal.returns
returns g c =
    let a = c.args in
    let w = g.E.Piece.numbers a.rows.now in
    let file = file_of (catalogue_of a.arities.now a.numbers.now a.lengths.now w) in
    let h = sym c.check_write.ensures ∙ c.in_ok-check_write.was in
    let given = given_is _ _ _ _ (given_of _ _ _ _ _ h) in
    let size = size_is a.arities.now a.numbers.now a.lengths.now w given.many given.sum in
    let long : c.size_of.result ≡ length file = c.size_of.ensures ∙ ap (size_of a.arities.now a.numbers.now) c.count.ensures ∙ sym size in
    record { answer = ap (λ (n : ℕ). Ok n) long ∙ sym (ap (λ (r : Result ⊤ Refusal). filed r (length file)) h); file = c.lay_out.ensures ∙ simp h }
