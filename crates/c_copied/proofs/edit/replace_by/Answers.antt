-- A replacement over its limit is refused; one within it is read from its copy.
use Rattle.std.proofs.Common.{ℕ, ◌≡◌, ◌∙◌, ◌≤◌, ◌+◌, ◌-◌, sym, ap, ap₂, subst, refl, List, length, take, get_or, Result, Err, rules, arith}
use Rattle.std.proofs.Math.Seq.{take-length}
use Rattle.std.specs.Prelude.{⊤}
use Rattle.rows.specs.Programme.{Alphabet, alphabet_of, programme, room}
use Rattle.rows.specs.Refusals.{◌then◌, replacement, position, grown}
use Rattle.rows.specs.declared.Fault.TheVariants.{Long}
use Rattle.rows.specs.declared.Refusal.{Refusal}
use Rattle.rows.specs.declared.Refusal.TheVariants.{Replacement}
use Rattle.tables.proofs.Given.{Held}
use Rattle.checks.specs.Checks.{replace_check}
use Rattle.checks.proofs.Replacing.{given_held, held_end}
use Rattle.wire.specs.Wire.{numbers, Bytes}
use Rattle.wire.proofs.Numbers.{front_read}
use Rattle.c_lent.specs.Answer.{replace_answer}
use Rattle.c_lent.specs.Calls.{ReplacedBytes}
use Rattle.c_lent.specs.Lent.{Lent, lent, AreBytes, numbers_of}
use Rattle.c_copied.proofs.Checks.{replacement_long}
use Rattle.c_copied.proofs.Editing.{copy_held, copy_decides, replaced_refused}
use Rattle.c_copied.proofs.edit.replace_by.Given.{Over}
use Rattle.c_copied.proofs.edit.replace_by.Goals as goal
use Rattle.c_copied.proofs.edit.replace_by.Goals.{Start, After-decode}

-- what the call is lent
module _ (g : Over) (s : Start g) where
  abbrev a : Alphabet
  a = alphabet_of s.args.arities.now

  abbrev b : Lent
  b = lent s.args.row.now s.args.table.now s.args.classes.now

  abbrev v : List ℕ
  v = numbers s.args.replacement.now

  held : Held a (numbers_of b) s.args.n
  held = given_held a (numbers_of b) s.args.n s.requires.n_value

  fits : s.args.n ≤ room (programme s.args.copies.now.row s.args.copies.now.table s.args.copies.now.classes)
  fits = let r = s.requires.copied.1 in omega (arith, held.most, r.row, r.table, r.classes)

  copied : Held a (programme s.args.copies.now.row s.args.copies.now.table s.args.copies.now.classes) s.args.n
  copied = copy_held a (numbers_of b) s.args.n _ _ _ s.requires.copied.0 held fits

  -- row, table and classes are right, so the replacement and its place decide
  decided : (r : Result ⊤ Refusal)
      → replacement a.arities v then position s.args.n s.args.p then grown (s.args.p + length v + (s.args.n - get_or s.args.copies.now.table s.args.p 0)) (room (numbers_of b)) ≡ r
      → replace_check a (numbers_of b) s.args.n v s.args.p ≡ r
  decided r e = copy_decides a (numbers_of b) s.args.n _ _ _ s.requires.copied.0 held fits v s.args.p s.requires.n_value ∙ e

  -- what they say of a copy of the replacement, in buffers of so many places
  abbrev said : List ℕ → ℕ → Result ⊤ Refusal
  said l k = replacement a.arities l then position s.args.n s.args.p then grown (s.args.p + length l + (s.args.n - get_or s.args.copies.now.table s.args.p 0)) k

-- the copy of the replacement
front : (g : Over) (c : After-decode g) → take c.count-m.result c.decode.new.room ≡ numbers c.args.replacement.now
front g c =
    let l = numbers c.args.replacement.now in
    let k = c.count-m in
    ap (take k.result) c.decode.ensures
    ∙ front_read l c.args.v.now k.result (omega (arith, k.ensures))
    ∙ ap (λ (i : ℕ). take i l) k.ensures
    ∙ take-length l

pub returns-then-m-gt-ROW_MOST : goal.returns-then-m-gt-ROW_MOST
returns-then-m-gt-ROW_MOST g c =
    let s = (goal.at.returns-then-m-gt-ROW_MOST g c).Start in
    let m = c.count-m.ensures in
    let l = v g s in
    let row : Bytes c.args.row.now = search rules in
    let table : Bytes c.args.table.now = search rules in
    let classes : Bytes c.args.classes.now = search rules in
    let small : AreBytes (b g s) = record { row = row; table = table; classes = classes } in
    let told = ap (λ (k : Result ⊤ Refusal). k then position c.args.n c.args.p then grown (c.args.p + length l + (c.args.n - get_or c.args.copies.now.table c.args.p 0)) (room (numbers_of (b g s))))
    (replacement_long c.args.arities.now l (omega (arith, m, c.if-m-gt-ROW_MOST.true)) ∙ ap (λ (k : ℕ). Err (Replacement (Long k))) (sym m)) in
    replaced_refused (a g s) (b g s) c.args.n l c.args.p small _ _ refl (decided g s _ told)

pub check_replacement-requires : goal.check_replacement-requires
check_replacement-requires g c =
    let s = (goal.at.check_replacement-requires g c).Start in
    let h = copied g s in
    (h.most, omega (arith, h.fits), held_end (a g s) (programme c.args.copies.now.row c.args.copies.now.table c.args.copies.now.classes) c.args.n c.args.p h)

pub returns-in_err-check_replacement : goal.returns-in_err-check_replacement
returns-in_err-check_replacement g c =
    let s = (goal.at.returns-in_err-check_replacement g c).Start in
    let same = front g (goal.at.returns-in_err-check_replacement g c).After-decode in
    let row : Bytes c.args.row.now = search rules in
    let table : Bytes c.args.table.now = search rules in
    let classes : Bytes c.args.classes.now = search rules in
    let small : AreBytes (b g s) = record { row = row; table = table; classes = classes } in
    let is : c.from_residual.result ≡ Err c.in_err-check_replacement.field-0.0 = search rules in
    let told = ap₂ (said g s) (sym same) (sym c.room-places.ensures) ∙ sym c.check_replacement.ensures ∙ c.in_err-check_replacement.was in
    replaced_refused (a g s) (b g s) c.args.n (v g s) c.args.p small _ _ is (decided g s _ told)

pub write_replaced-requires : goal.write_replaced-requires
write_replaced-requires g c =
    let s = (goal.at.write_replaced-requires g c).Start in
    let same = front g (goal.at.write_replaced-requires g c).After-decode in
    let told = ap₂ (said g s) (sym same) (sym c.room-places.ensures) ∙ sym c.check_replacement.ensures ∙ c.in_ok-check_replacement.was in
    let r = c.requires.copied.1 in
    let long = ap length same in (
      search rules,
      (
        c.requires.n_bound,
        (
          ap (λ (l : List ℕ). replace_check (a g s) (numbers_of (b g s)) c.args.n l c.args.p) same ∙ decided g s _ told,
          (
            c.requires.copied.0,
            record {
              row = omega (arith, long, r.row);
              table = omega (arith, long, r.table);
              classes = omega (arith, long, r.classes);
              replacement = omega (arith, long);
              ends = omega (arith, long, r.ends);
              heads = r.heads;
            },
          ),
        ),
      ),
    )

pub returns : goal.returns
returns g c =
    let s = (goal.at.returns g c).Start in
    let z = c.write_replaced in
    subst (λ (l : List ℕ). ReplacedBytes (a g s) (b g s) c.args.n l c.args.p (replace_answer z.result) (lent z.new.row z.new.table z.new.classes))
    (front g (goal.at.returns g c).After-decode) z.ensures
