-- What find and the variables call make of what their checks leave.
-- Assumes nothing.
use Rattle.std.specs.Prelude.{Result, Ok, Err, ⊤, is_ok}
use Prim.Native.Nat.{ℕ, ◌≤◌}
use mathlib.Core.Path.{◌≡◌, refl, sym, ap, ◌∙◌, subst}
use mathlib.Core.List.{List, []}
use mathlib.Core.Bool.{Bool, true, false}
use mathlib.Core.Logic.{◌↔◌}
use native.Mathlib.Omega.{arith}
use borrow.Author.Tests.{lt-ltb, le-ltb}
use lib.ListN.{length}
use Rattle.rows.specs.Programme.{Alphabet, Programme}
use Rattle.rows.specs.Parse.{table}
use Rattle.rows.specs.Row.{pick}
use Rattle.rows.specs.Buffers.{written, after}
use Rattle.rows.specs.Refusals.{◌then◌, output}
use Rattle.rows.specs.declared.Refusal.{Refusal}
use Rattle.rows.specs.declared.Refusal.TheVariants.{OutputShort}
use Rattle.rows.proofs.Passing.{clash, both_fine, output_fine}
use Rattle.patterns.specs.Answers.{MatchesAt, Listed, spans}
use Rattle.patterns.specs.Walk.{comes_through}
use Rattle.patterns.proofs.Promises.{one_list, walk_right}
use Rattle.searches.specs.Searches.{ListTold, Lists, VariablesAt}
use Rattle.checks.specs.Checks.{search_check, find_check, variables_check}
use Rattle.checks.proofs.Passing.{variables_checked}
use Rattle.sparrowhem.specs.Search.{found, Finds, bound, Binds}

-- a number of matches; or where they have no room, that they need so many places
abbrev pub counted : Result ℕ ℕ → Result ℕ Refusal
counted (Ok n) = Ok n
counted (Err n) = Err (OutputShort n)

-- FIND
module _ (a : Alphabet) (P : Programme) (q y : List ℕ) where
  pub finds_refused : (r : Result ℕ Refusal) (x : Refusal) → r ≡ Err x → search_check a P q ≡ Err x → Finds a P q y r y
  unfolding find_check
  finds_refused r x z e =
      record {
        positions = [];
        listed = λ f. absurd (clash (search_check a P q) x f e);
        answer = rw e z;
        output = rw e refl;
      }

  module _ (e : search_check a P q ≡ Ok tt) (r : Result ℕ ℕ) (y' : List ℕ) (l : Lists a P.row q y r y') where
    abbrev all : List ℕ
    all = l.positions

    find_check_lem : find_check a P q (length all) (length y) ≡ output (length all) (length y)
    unfolding find_check
    find_check_lem = ap (λ (x : Result ⊤ Refusal). x then output (length all) (length y)) e

    pub finds_told : (s : Result ℕ Refusal) → s ≡ counted r → Finds a P q y s y'
    unfolding output
    finds_told s z = go r l.told z
      where
        go : (r : Result ℕ ℕ) → ListTold all y r y' → s ≡ counted r → Finds a P q y s y'
        go (Err n) t z =
            let c : find_check a P q (length all) (length y) ≡ Err (OutputShort n) =
            find_check_lem ∙ rw (lt-ltb (length y) (length all) (omega (arith, t.0, t.1)), t.0) refl in
            record {
              positions = all;
              listed = λ f. l.listed;
              answer = z ∙ sym (ap (λ (x : Result ⊤ Refusal). found x (length all)) c);
              output = t.2 ∙ sym (ap (λ (x : Result ⊤ Refusal). after x (written y 0 all) y) c);
            }
        go (Ok n) t z =
            let c : find_check a P q (length all) (length y) ≡ (Ok tt) = find_check_lem ∙ rw (le-ltb (length y) (length all) (omega (arith, t.0, t.1))) refl in
            record {
              positions = all;
              listed = λ f. l.listed;
              answer = z ∙ ap Ok t.0 ∙ sym (ap (λ (x : Result ⊤ Refusal). found x (length all)) c);
              output = t.2 ∙ sym (ap (λ (x : Result ⊤ Refusal). after x (written y 0 all) y) c);
            }

-- VARIABLES
module _ (a : Alphabet) (P : Programme) (q : List ℕ) (p : ℕ) (y : List ℕ) where
  abbrev spanned : List ℕ
  spanned = written y 0 (spans a.arities P.row q p)

  module _ (c : variables_check a P q p (length y) ≡ Ok tt) (r : Result ⊤ (ℕ × ℕ)) (y' : List ℕ) (m : VariablesAt a P.row q p y r y') where
    pub binds_told : (b : Bool) → b ≡ is_ok r → Binds a P q p y (Ok b) y'
    binds_told b z = subst (λ (x : Bool). Binds a P q p y (Ok x) y') (sym z) (go r m)
      where
        go : (r : Result ⊤ (ℕ × ℕ)) → VariablesAt a P.row q p y r y' → Binds a P q p y (Ok (is_ok r)) y'
        go (Ok _) m =
            record {
              matched = true;
              exactly = λ f. (λ e. m.answer, λ e. refl);
              answer = sym (ap (λ (x : Result ⊤ Refusal). bound x true) c);
              output = m.buffer ∙ sym (ap (λ (x : Result ⊤ Refusal). after x spanned y) c);
            }
        go (Err k) m =
            record {
              matched = false;
              exactly = λ f. (λ e. (let x : ◌≡◌ {A = ℕ} 0 1 = cc in absurd (omega arith)), λ e. absurd (m.answer.0 e));
              answer = sym (ap (λ (x : Result ⊤ Refusal). bound x false) c);
              output = m.buffer ∙ sym (ap (λ (x : Result ⊤ Refusal). after x y y) c);
            }

-- WHAT AN ANSWER TELLS
module _ (a : Alphabet) (P : Programme) (q y : List ℕ) (r : Result ℕ Refusal) (y' : List ℕ) (f : Finds a P q y r y') where
  abbrev outcome : List ℕ → Result ⊤ Refusal → Type 0
  outcome ps c = (r ≡ found c (length ps)) × (y' ≡ after c (written y 0 ps) y)

  -- the list of all matches is the one that counts
  pub finds_list : (ps : List ℕ) → (search_check a P q ≡ Ok tt → Listed a P.row q (length P.row) ps) → outcome ps (find_check a P q (length ps) (length y))
  unfolding find_check
  finds_list ps l = go (search_check a P q) refl f.answer f.output
    where
      go : (c : Result ⊤ Refusal) → search_check a P q ≡ c → r ≡ found (c then output (length f.positions) (length y)) (length f.positions)
          → y' ≡ after (c then output (length f.positions) (length y)) (written y 0 f.positions) y → outcome ps (c then output (length ps) (length y))
      go (Err x) e is b = (is, b)
      go (Ok _) e is b =
          let same : f.positions ≡ ps = one_list a P.row q (length P.row) f.positions ps (f.listed e) (l e) in
          (is ∙ ap (λ (l : List ℕ). found (output (length l) (length y)) (length l)) same, b ∙ ap (λ (l : List ℕ). after (output (length l) (length y)) (written y 0 l) y) same)

  -- nothing is refused
  pub record Answered (n : ℕ) : Type 0 where
    pub checked : search_check a P q ≡ Ok tt
    pub room : n ≤ length y
    pub many : n ≡ length f.positions
    pub wrote : y' ≡ written y 0 f.positions

  pub finds_matches : (n : ℕ) → r ≡ Ok n → Answered n
  unfolding find_check
  finds_matches n z = go (find_check a P q (length f.positions) (length y)) refl (sym z ∙ f.answer) f.output
    where
      go : (c : Result ⊤ Refusal) → find_check a P q (length f.positions) (length y) ≡ c → Ok n ≡ found c (length f.positions)
          → y' ≡ after c (written y 0 f.positions) y → Answered n
      go (Err x) e is b = let z : ◌≡◌ {A = ℕ} 0 1 = cc in absurd (omega arith)
      go (Ok _) e is b =
          let both = both_fine (search_check a P q) (output (length f.positions) (length y)) e in
          let same : n ≡ length f.positions = cc in
          record { checked = both.0; room = omega (arith, output_fine (length f.positions) (length y) both.1); many = same; wrote = b }

  pub finds_kept : (x : Refusal) → r ≡ Err x → y' ≡ y
  finds_kept x z = go (find_check a P q (length f.positions) (length y)) (sym z ∙ f.answer) f.output
    where
      go : (c : Result ⊤ Refusal) → Err x ≡ found c (length f.positions) → y' ≡ after c (written y 0 f.positions) y → y' ≡ y
      go (Err x) is b = b
      go (Ok _) is b = let z : ◌≡◌ {A = ℕ} 0 1 = cc in absurd (omega arith)

both_ways : (a b : Bool) (X : Type 0) → (a ≡ true) ↔ X → (b ≡ true) ↔ X → a ≡ b
both_ways true b X f g = sym (g.1 (f.0 refl))
both_ways false true X f g = f.1 (g.0 refl)
both_ways false false X f g = refl

module _ (a : Alphabet) (P : Programme) (q : List ℕ) (p : ℕ) (y : List ℕ) (r : Result Bool Refusal) (y' : List ℕ) (f : Binds a P q p y r y') where
  -- the walk says whether the pattern matches
  pub binds_walk : (r ≡ bound (variables_check a P q p (length y)) (comes_through P.row (table a.arities P.row) q p))
      × (y' ≡ after (variables_check a P q p (length y)) (pick (comes_through P.row (table a.arities P.row) q p) (written y 0 (spans a.arities P.row q p)) y) y)
  binds_walk = go (variables_check a P q p (length y)) refl f.answer f.output
    where
      m : Bool
      m = comes_through P.row (table a.arities P.row) q p

      go : (c : Result ⊤ Refusal) → variables_check a P q p (length y) ≡ c → r ≡ bound c f.matched → y' ≡ after c (pick f.matched (written y 0 (spans a.arities P.row q p)) y) y
          → (r ≡ bound c m) × (y' ≡ after c (pick m (written y 0 (spans a.arities P.row q p)) y) y)
      go (Err x) e is b = (is, b)
      go (Ok _) e is b =
          let i = variables_checked a P q p (length y) e in
          let same : f.matched ≡ m = both_ways f.matched m (MatchesAt a P.row q p) (f.exactly e) (walk_right a P q i.0 p i.1) in
          (is ∙ ap (bound (Ok tt)) same, b ∙ ap (λ (x : Bool). pick x (written y 0 (spans a.arities P.row q p)) y) same)

  abbrev Tells : Result Bool Refusal → Type 0
  Tells (Ok true) = MatchesAt a P.row q p × (y' ≡ written y 0 (spans a.arities P.row q p))
  Tells (Ok false) = (MatchesAt a P.row q p → ⊥) × (y' ≡ y)
  Tells (Err x) = y' ≡ y

  pub binds_tells : Tells r
  binds_tells =
      subst Tells (sym f.answer) (go (variables_check a P q p (length y)) refl f.matched (λ e. f.exactly e) f.output)
    where
      go : (c : Result ⊤ Refusal) → variables_check a P q p (length y) ≡ c → (m : Bool) → (variables_check a P q p (length y) ≡ Ok tt → (m ≡ true) ↔ MatchesAt a P.row q p)
          → y' ≡ after c (pick m (written y 0 (spans a.arities P.row q p)) y) y → Tells (bound c m)
      go (Err x) e m k b = b
      go (Ok _) e true k b = ((k e).0 refl, b)
      go (Ok _) e false k b = (λ x. (let y = (k e).1 x in let z : ◌≡◌ {A = ℕ} 0 1 = cc in omega arith), b)
