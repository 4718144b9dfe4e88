-- `catalogue_read::numbers::catalogue_alphabet` meets its contract. The part that is lent holds the arities.
use Rattle.std.proofs.Common.{ℕ, List, ◌≡◌, ◌+◌, ◌-◌, ◌*◌, length, drop, sym, ap, ◌∙◌, Err, arith, length-take}
use Rattle.std.proofs.lemmas.Grind.{common_steps}
use Rattle.rows.specs.Buffers.{written}
use Rattle.rows.proofs.Passing.{output_fine}
use Rattle.catalogue.specs.Reading.{arities_in}
use Rattle.catalogue.specs.Refusals.{alphabet_check}
use Rattle.catalogue_read.proofs.Behind.{headed, arities_fit_lem, arities_are}
use Rattle.catalogue_read.proofs.Taking.{takes_none, takes_all, alphabet_room, arities-count}
use Rattle.catalogue_read.proofs.numbers.catalogue_alphabet.Goals as goal

pub returns-in_err-check_head : goal.returns-in_err-check_head
unfolding alphabet_check
returns-in_err-check_head c =
    let a = c.args in
    let failed : c.from_residual.result ≡ Err c.in_err-check_head.field-0.0 = grind (arith, common_steps) in
    rw failed (takes_none (alphabet_check a.file.now (length a.arities.now)) (arities_in a.file.now) a.arities.now _ (simp (sym c.check_head.ensures ∙ c.in_err-check_head.was)))

pub symbols_in-n-requires : goal.symbols_in-n-requires
symbols_in-n-requires c = headed _ (sym c.check_head.ensures ∙ c.in_ok-check_head.was)

pub returns-in_err-check_room : goal.returns-in_err-check_room
returns-in_err-check_room c =
    let a = c.args in
    let f = a.file.now in
    let b = a.arities.now in
    let right = sym c.check_head.ensures ∙ c.in_ok-check_head.was in
    let s = c.symbols_in-n in
    let said = alphabet_room f right s.result (length b) s.ensures.0 ∙ sym c.check_room.ensures ∙ c.in_err-check_room.was in
    let failed : c.from_residual-in_err-check_room.result ≡ Err c.in_err-check_room.field-0.0 = grind (arith, common_steps) in
    rw failed (takes_none (alphabet_check f (length b)) (arities_in f) b _ said)

pub programmes_in-requires : goal.programmes_in-requires
programmes_in-requires c = headed _ (sym c.check_head.ensures ∙ c.in_ok-check_head.was)

pub slice_bounds-widen-end : goal.slice_bounds-widen-end
slice_bounds-widen-end c =
    let n = c.programmes_in in
    let s = c.symbols_in-n in
    omega (arith, arities_fit_lem _ (sym c.check_head.ensures ∙ c.in_ok-check_head.was) n.result s.result n.ensures.0 s.ensures.0)

pub widen-requires : goal.widen-requires
widen-requires c =
    let begin = 4 + 12 * c.programmes_in.result in
    let fits = output_fine c.symbols_in-n.result (length c.args.arities.now) (sym c.check_room.ensures ∙ c.in_ok-check_room.was) in
    omega (arith, fits, length-take (begin + c.symbols_in-n.result - begin) (drop begin c.args.file.now))

pub returns : goal.returns
returns c =
    let a = c.args in
    let f = a.file.now in
    let b = a.arities.now in
    let right = sym c.check_head.ensures ∙ c.in_ok-check_head.was in
    let n = c.programmes_in in
    let s = c.symbols_in-n in
    takes_all (alphabet_check f (length b)) (arities_in f) b s.result _
    (alphabet_room f right s.result (length b) s.ensures.0 ∙ sym c.check_room.ensures ∙ c.in_ok-check_room.was)
    (arities-count f right s.result (length b) s.ensures.0)
    (c.widen.ensures ∙ ap (λ (v : List ℕ). written b 0 v) (arities_are f n.result n.ensures.0 s.result s.ensures.0))
