-- What an answer's four numbers tell, and runs of exported replacements as runs of the Rattle call on the numbers.
-- Assumes nothing.
use Rattle.std.specs.Prelude.{Result, Ok, Err, ⊤}
use Prim.Native.Nat.{ℕ}
use mathlib.Core.Path.{◌≡◌, refl, sym, ap, ◌∙◌}
use mathlib.Core.Bool.{Bool}
use mathlib.Core.List.{List, [], ◌∷◌}
use native.Mathlib.Omega.{arith}
use borrow.Author.Tests.{ne_eqb}
use lib.IntN.{ℤ}
use Rattle.rows.specs.Programme.{Alphabet}
use Rattle.rows.specs.Row.{pick}
use Rattle.rows.specs.Tree.{Forest}
use Rattle.rows.specs.Parse.{tree_of}
use Rattle.rows.specs.declared.Refusal.{Refusal}
use Rattle.refusal_numbers.specs.Numbers.{number}
use Rattle.edits.specs.Put.{put}
use Rattle.promises.specs.Runs.{Call, Run, length_after, edit, edits}
use Rattle.c_lent.specs.Answer.{refused, build_answer, find_answer, replace_answer}
use Rattle.c_lent.specs.declared.Answer.{Answer}
use Rattle.refusal_numbers.proofs.Few.{number-few}
use Rattle.host.specs.Runs.{StateForC, CallForC, RunForC, held_numbers, if_answered, edits_for_c}
use Rattle.host.proofs.Crossing.{replace_crosses}

-- no refusal's number is 0
pub refusal_tells : (x : Refusal) → (refused x).refusal ≡ 0 → ⊥
refusal_tells x e = omega (arith, number-few x)

-- an answer whose refusal is 0 is none of a refusal
pub build_answered : (o : Result ⊤ Refusal) (n : ℕ) (r : Answer) → r ≡ build_answer o n → r.refusal ≡ 0 → (o ≡ Ok tt) × (r.count ≡ n)
build_answered (Ok _) n r e z = (refl, ap (λ (x : Answer). x.count) e)
build_answered (Err y) n r e z = absurd (refusal_tells y (sym (ap (λ (x : Answer). x.refusal) e) ∙ z))

pub find_answered : (o : Result ℕ Refusal) (r : Answer) → r ≡ find_answer o → r.refusal ≡ 0 → o ≡ Ok r.count
find_answered (Ok n) r e z = ap Ok (sym (ap (λ (x : Answer). x.count) e))
find_answered (Err y) r e z = absurd (refusal_tells y (sym (ap (λ (x : Answer). x.refusal) e) ∙ z))

pub replace_answered : (o : Result (ℕ × ℤ) Refusal) (r : Answer) → r ≡ replace_answer o → r.refusal ≡ 0 → (d : ℤ) × (o ≡ Ok (r.count, d))
replace_answered (Ok (m, d)) r e z = (d, ap (λ (k : ℕ). Ok (k, d)) (sym (ap (λ (x : Answer). x.count) e)))
replace_answered (Err y) r e z = absurd (refusal_tells y (sym (ap (λ (x : Answer). x.refusal) e) ∙ z))

-- going on after a call: as the Rattle call's answer says
length_same : (o : Result (ℕ × ℤ) Refusal) (n : ℕ) → if_answered (replace_answer o) (replace_answer o).count n ≡ length_after n o
length_same (Ok (m, d)) n = refl
length_same (Err y) n = ap (λ (b : Bool). pick b 0 n) (ne_eqb (number y) 0 (refusal_tells y))

edit_same : (A : List ℕ) (f : Forest) (p : ℕ) (v : List ℕ) (o : Result (ℕ × ℤ) Refusal) → edit A f p v o ≡ if_answered (replace_answer o) (put f p (tree_of A v)) f
edit_same A f p v (Ok (m, d)) = refl
edit_same A f p v (Err y) = ap (λ (b : Bool). pick b (put f p (tree_of A v)) f) (sym (ne_eqb (number y) 0 (refusal_tells y)))

-- a run, as one of the Rattle call
pub record Crossed (a : Alphabet) (s : StateForC) (calls : List CallForC) (s' : StateForC) : Type 0 where
  pub these : List Call
  pub run : Run a (held_numbers s) these (held_numbers s')
  pub tree : (A : List ℕ) (f : Forest) → edits A f these ≡ edits_for_c A f calls

pub run_crosses : (a : Alphabet) (calls : List CallForC) (s s' : StateForC) → RunForC a s calls s' → Crossed a s calls s'
unfolding RunForC edits_for_c Run edits
run_crosses a [] s s' e = record { these = []; run = ap held_numbers e; tree = λ A f. refl }
run_crosses a (c ∷ cs) s s' r =
    let m : StateForC = r.0 in
    let now = replace_crosses a s.lists c.length c.replacement c.position c.answer m.lists r.1.outcome in
    let rest = run_crosses a cs m s' r.2 in
    let this : Call = record { length = c.length; replacement = c.replacement; position = c.position; answer = now.outcome } in
    record {
      these = this ∷ rest.these;
      run = (
        held_numbers m,
        record {
          outcome = now.call;
          goes_on = r.1.goes_on ∙ ap (λ (x : Answer). if_answered x x.count s.length) now.answer ∙ length_same now.outcome s.length;
        },
        rest.run,
      );
      tree = λ A f.
          ap (λ (g : Forest). edits A g rest.these)
          (edit_same A f c.position c.replacement now.outcome
          ∙ ap (λ (x : Answer). if_answered x (put f c.position (tree_of A c.replacement)) f) (sym now.answer))
          ∙ rest.tree A (if_answered c.answer (put f c.position (tree_of A c.replacement)) f);
    }
