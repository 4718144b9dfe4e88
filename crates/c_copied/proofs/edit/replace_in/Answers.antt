-- What the pass over the copies finds decides, or the replacement goes on.
use Rattle.std.proofs.Common.{ℕ, ◌≡◌, ◌∙◌, ◌≤◌, sym, ap, Result, Ok, Err, rules, arith}
use Rattle.std.proofs.lemmas.List.{length-replicate}
use Rattle.std.specs.Prelude.{⊤}
use Rattle.rows.specs.Programme.{Alphabet, Programme, alphabet_of, room}
use Rattle.rows.specs.Tree.{size}
use Rattle.rows.specs.Refusals.{◌then◌, symbols, fresh, classed, keeps, given, replacement, position, grown}
use Rattle.rows.specs.declared.Refusal.{Refusal}
use Rattle.rows.specs.declared.Refusal.TheVariants.{Row}
use Rattle.rows.proofs.Passing.{Fits}
use Rattle.checks.specs.Checks.{replace_check}
use Rattle.sparrowhem.specs.Edit.{new_tree}
use Rattle.wire.specs.Wire.{numbers, Bytes}
use Rattle.c_lent.specs.Lent.{Lent, lent, AreBytes, numbers_of}
use Rattle.c_copied.proofs.Checks.{sizes_left}
use Rattle.c_copied.proofs.Reading.{copies_find}
use Rattle.c_copied.proofs.Editing.{replaced_refused}
use Rattle.c_copied.proofs.edit.replace_in.Given.{Over}
use Rattle.c_copied.proofs.edit.replace_in.Goals as goal
use Rattle.c_copied.proofs.edit.replace_in.Goals.{Start, After-check_beside}

-- what the call is lent, and what the checks of the sizes leave
module _ (g : Over) (s : Start g) where
  abbrev a : Alphabet
  a = alphabet_of s.args.arities.now

  abbrev b : Lent
  b = lent s.args.row.now s.args.table.now s.args.classes.now

  fits : Fits s.args.n (room (numbers_of b))
  fits = sizes_left a (numbers_of b) s.args.n s.requires.n_value

  within : s.args.n ≤ g.row.N
  within = omega (arith, fits.most, s.requires.rooms.1)

pub copy-requires : goal.copy-requires
copy-requires g c =
    let s = (goal.at.copy-requires g c).Start in
    (search rules, (omega (arith, (fits g s).room), within g s))

pub programme-requires : goal.programme-requires
programme-requires g c = (search rules, within g (goal.at.programme-requires g c).Start)

-- the pass finds what is found of the whole
told : (g : Over) (c : After-check_beside g) → given (alphabet_of c.args.arities.now) (numbers_of (lent c.args.row.now c.args.table.now c.args.classes.now)) c.args.n ≡ keeps Row c.check_beside.result
told g c =
    let says : Programme → Result ⊤ Refusal = λ Q. symbols Row c.args.arities.now Q.row then fresh Row c.args.arities.now Q.row Q.table then classed Row c.args.arities.now Q.row Q.classes in
    copies_find _ _ c.args.n _ _ _ c.requires.n_value c.copy.ensures.copied ∙ ap says (sym c.programme.ensures) ∙ sym (c.check_beside.ensures Row)

pub returns-in_err-map_err : goal.returns-in_err-map_err
unfolding replace_check
returns-in_err-map_err g c =
    let s = (goal.at.returns-in_err-map_err g c).Start in
    let P = numbers_of (b g s) in
    let v = numbers c.args.replacement.now in
    let row : Bytes c.args.row.now = search rules in
    let table : Bytes c.args.table.now = search rules in
    let classes : Bytes c.args.classes.now = search rules in
    let small : AreBytes (b g s) = record { row = row; table = table; classes = classes } in
    let is : c.from_residual.result ≡ Err c.in_err-map_err.field-0.0 = search rules in
    let kept : keeps Row c.check_beside.result ≡ Err c.in_err-map_err.field-0.0 = search rules in
    replaced_refused (a g s) (b g s) c.args.n v c.args.p small _ _ is
    (ap (λ (g : Result ⊤ Refusal). g then replacement c.args.arities.now v then position c.args.n c.args.p then grown (size (new_tree (alphabet_of c.args.arities.now) P c.args.n v c.args.p)) (room P))
    (told g (goal.at.returns-in_err-map_err g c).After-check_beside ∙ kept))

pub replace_by-requires : goal.replace_by-requires
replace_by-requires g c =
    let kept : keeps Row c.check_beside.result ≡ Ok tt = search rules in
    let long = c.copy.ensures.long in
    let r = c.requires.rooms in (
      search rules,
      (
        omega arith,
        (
          told g (goal.at.replace_by-requires g c).After-check_beside ∙ kept,
          (
            c.copy.ensures.copied,
            record {
              row = omega (arith, r.1, long.0);
              table = omega (arith, r.1, long.1);
              classes = omega (arith, r.1, long.2);
              replacement = omega (arith, r.1, length-replicate {A = ℕ} g.row.N 0);
              ends = omega (arith, r.1, r.2, c.check_beside.auto.room, length-replicate {A = ℕ} g.row.R 0);
              heads = omega (arith, r.3, c.check_beside.auto.room, length-replicate {A = ℕ} g.row.R 0);
            },
          ),
        ),
      ),
    )
