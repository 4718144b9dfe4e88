-- Laws of a sheet: the answer for one pattern, those for one pattern more, and those for all.
-- Assumes nothing.
use Rattle.std.specs.Prelude.{Result, Ok, Err, ⊤}
use Prim.Native.Nat.{ℕ, zero, suc, ◌+◌, ◌*◌, ◌-◌, ◌≤◌, min}
use mathlib.Core.Path.{◌≡◌, refl, sym, ap, ap₂, ◌∙◌, subst}
use mathlib.Core.List.{List, [], ◌∷◌, ◌++◌}
use mathlib.Core.Logic.{◌⊎◌, ⊎_elim}
use native.Mathlib.Omega.{arith}
use lib.ListN.{length, take, drop, length-append, length-drop}
use lib.Seq.{length-take-le}
use Rattle.rows.specs.Limits.{row_most, result_places}
use Rattle.rows.specs.Programme.{Alphabet, Programme}
use Rattle.rows.specs.Sheet.{pattern_at, laid}
use Rattle.rows.specs.Buffers.{written}
use Rattle.rows.specs.Refusals.{◌then◌, given, pattern}
use Rattle.rows.specs.declared.Refusal.{Refusal}
use Rattle.rows.proofs.Buffers.{length-written, written-front}
use Rattle.rows.proofs.Sheet.{laid_more, laid-length, laid_most, laid_each}
use Rattle.refusal_numbers.specs.Numbers.{number, place}
use Rattle.refusal_numbers.specs.Table.{Refuses}
use Rattle.refusal_numbers.proofs.Table.{table}
use Rattle.tables.proofs.Given.{given_right}
use Rattle.buffers.proofs.Written.{written_right, lent_tail}
use Rattle.patterns.specs.Answers.{Listed}
use Rattle.patterns.specs.Searchable.{Checked}
use Rattle.patterns.proofs.Promises.{one_list, walk_lists}
use Rattle.searches.specs.Searches.{ListTold, Lists}
use Rattle.searches.proofs.Counting.{listed_length}
use Rattle.checks.specs.Checks.{search_check}
use Rattle.checks.proofs.Passing.{search_checked}
use Rattle.sheets.specs.Result.{result_of}
use Rattle.sheets.specs.Sheets.{alone, result, positions_of, results_of, Holds, Answered, AnsweredTo}

-- number and place of a refused pattern are small: the place lies in it, or is its length
pub pattern-small : (A q : List ℕ) (x : Refusal) → pattern A q ≡ Err x → (number x ≤ 15) × (place x ≤ length q)
pattern-small A q x e =
    ⊎_elim
    (λ long. ⊎_elim (λ h. (omega (arith, h.0), omega (arith, h.1))) (λ h. (omega (arith, h.0), omega (arith, h.1))) long)
    (λ tree. ⊎_elim (λ h. (omega (arith, h.0), omega (arith, h.1))) (λ h. ⊎_elim (λ h. (omega (arith, h.0), omega (arith, h.1))) (λ h. (omega (arith, h.0), omega (arith, h.1))) h) tree.2)
    ((table.pattern_wrong A q (number x) (place x)).0 (subst (λ (c : Result ⊤ Refusal). Refuses c (number x) (place x)) (sym e) (refl, refl)))

module _ (a : Alphabet) (P : Programme) (g : given a P (length P.row) ≡ Ok tt) where
  pub row_most_lem : length P.row ≤ row_most
  row_most_lem = (given_right a P g).row.sized.most

  module _ (q : List ℕ) where
    -- an accepted pattern can be searched for
    pub fine_checked : pattern a.arities q ≡ Ok tt → Checked a P q
    unfolding search_check
    fine_checked e = search_checked a P q (ap₂ ◌then◌ g e)

    -- its positions are its matches
    pub alone_listed : pattern a.arities q ≡ Ok tt → Listed a P.row q (length P.row) (alone a P.row q)
    unfolding alone
    alone_listed e = rw e (walk_lists a P q (fine_checked e))

    -- a refused one has none
    pub alone-refused : (x : Refusal) → pattern a.arities q ≡ Err x → alone a P.row q ≡ []
    unfolding alone
    alone-refused x e = rw e refl

    -- no more than the row has
    pub alone_most : length (alone a P.row q) ≤ length P.row
    alone_most = go (pattern a.arities q) refl
      where
        go : (c : Result ⊤ Refusal) → pattern a.arities q ≡ c → length (alone a P.row q) ≤ length P.row
        go (Ok _) e = listed_length a P q (fine_checked e) (length P.row) (alone a P.row q) (omega arith) (alone_listed e)
        go (Err x) e = rw (alone-refused x e) (omega arith)

    -- ONE PATTERN
    pub refused-answered : (y : List ℕ) (i : ℕ) (z : List ℕ) (x : Refusal) → pattern a.arities q ≡ Err x → (z' : List ℕ)
        → z' ≡ written z (result_places * i) (result_of (Err x) 0) → Answered a P.row q y i z 0 y z'
    unfolding result alone written
    refused-answered y i z x e z' w =
        record {
          count = rw e refl;
          positions = record { long = refl; front = λ h. rw e refl };
          result = w ∙ rw e refl;
        }

    -- the listing counts them
    module _ (e : pattern a.arities q ≡ Ok tt) (y : List ℕ) (r : Result ℕ ℕ) (y' : List ℕ) (l : Lists a P.row q y r y') (n : ℕ) where
      told : (x : Result ℕ ℕ) → r ≡ x → ListTold (alone a P.row q) y x y'
      told x d =
          subst
          (λ (x : Result ℕ ℕ). ListTold (alone a P.row q) y x y')
          d
          (subst
          (λ (ps : List ℕ). ListTold ps y r y')
          (one_list a P.row q (length P.row) l.positions (alone a P.row q) l.listed (alone_listed e))
          l.told)

      pub told_count : (r ≡ Ok n) ⊎ (r ≡ Err n) → n ≡ length (alone a P.row q)
      told_count s = ⊎_elim (λ d. (told (Ok n) d).0) (λ d. (told (Err n) d).0) s

      told_holds : (r ≡ Ok n) ⊎ (r ≡ Err n) → Holds (alone a P.row q) y y'
      told_holds s = ⊎_elim (λ d. all (told (Ok n) d)) (λ d. needs (told (Err n) d)) s
        where
          all : ListTold (alone a P.row q) y (Ok n) y' → Holds (alone a P.row q) y y'
          all t = record { long = ap length t.2 ∙ length-written y 0 (alone a P.row q) (omega (arith, t.0, t.1)); front = λ h. t.2 }

          needs : ListTold (alone a P.row q) y (Err n) y' → Holds (alone a P.row q) y y'
          needs t = record { long = ap length t.2; front = λ h. absurd (omega (arith, t.0, t.1)) }

      pub listed_answered : (i : ℕ) (z z' : List ℕ) → (r ≡ Ok n) ⊎ (r ≡ Err n) → z' ≡ written z (result_places * i) (0 ∷ 0 ∷ n ∷ [])
          → Answered a P.row q y i z n y' z'
      unfolding result
      listed_answered i z z' s w =
          record {
            count = told_count s;
            positions = told_holds s;
            result = w ∙ ap (λ (m : ℕ). written z (result_places * i) (0 ∷ 0 ∷ m ∷ [])) (told_count s) ∙ rw e refl;
          }

-- ONE PATTERN MORE
length-result : (a : Alphabet) (w q : List ℕ) → length (result a w q) ≡ result_places
unfolding result
length-result a w q = go (pattern a.arities q) (length (alone a w q))
  where
    go : (c : Result ⊤ Refusal) (n : ℕ) → length (result_of c n) ≡ result_places
    go (Ok _) n = refl
    go (Err x) n = refl

-- the results of n patterns take three places each
pub results_length : (a : Alphabet) (w qs ls : List ℕ) (n : ℕ) → length (laid (results_of a w qs ls) n) ≡ result_places * n
results_length a w qs ls n = laid_each (results_of a w qs ls) result_places n (λ i. length-result a w (pattern_at qs ls i))

-- one result more
pub results_more : (a : Alphabet) (w qs ls : List ℕ) (i : ℕ) (z z₁ z₂ : List ℕ) → result_places * i + result_places ≤ length z
    → z₁ ≡ written z 0 (laid (results_of a w qs ls) i) → z₂ ≡ written z₁ (result_places * i) (results_of a w qs ls i)
    → z₂ ≡ written z 0 (laid (results_of a w qs ls) (i + 1))
results_more a w qs ls i z z₁ z₂ room e m =
    let three : length (laid (results_of a w qs ls) i) ≡ result_places * i = results_length a w qs ls i in
    m
    ∙ ap (λ (b : List ℕ). written b (result_places * i) (results_of a w qs ls i)) e
    ∙ written_right z 0 (laid (results_of a w qs ls) i) (results_of a w qs ls i) (result_places * i) (omega arith) (omega (arith, length-result a w (pattern_at qs ls i)))
    ∙ ap (written z 0) (sym (laid_more (results_of a w qs ls) i))

-- a list behind another, in a buffer of which the part behind the other was lent
held_more : (ps more y y₁ left : List ℕ) (at : ℕ) → Holds ps y y₁ → at ≡ min (length ps) (length y₁) → Holds more (take (length y₁ - at) (drop at y₁)) left
    → Holds (ps ++ more) y (take at y₁ ++ (left ++ drop (length y₁ - at) (drop at y₁)))
held_more ps more y y₁ left at h e m =
    record {
      long =
          length-append (take at y₁) _
          ∙ ap₂ ◌+◌ (length-take-le at y₁ (omega arith)) (length-append left _ ∙ ap₂ ◌+◌ (m.long ∙ part) rest)
          ∙ omega (arith, h.long);
      front = fits;
    }
  where
    part : length (take (length y₁ - at) (drop at y₁)) ≡ length y₁ - at
    part = length-take-le (length y₁ - at) (drop at y₁) (simp length-drop (omega arith))

    rest : length (drop (length y₁ - at) (drop at y₁)) ≡ 0
    rest = simp length-drop (omega arith)

    fits : length (ps ++ more) ≤ length y → take at y₁ ++ (left ++ drop (length y₁ - at) (drop at y₁)) ≡ written y 0 (ps ++ more)
    fits f =
        let both : length ps + length more ≤ length y = omega (arith, f, length-append ps more) in
        let there : at ≡ length ps = omega (arith, h.long) in
        let first : y₁ ≡ written y 0 ps = h.front (omega arith) in
        let second : left ≡ written (take (length y₁ - at) (drop at y₁)) 0 more = m.front (omega (arith, part, h.long)) in
        ap (λ (l : List ℕ). take at y₁ ++ (l ++ drop (length y₁ - at) (drop at y₁))) second
        ∙ lent_tail y₁ at more
        ∙ ap₂ (λ (b : List ℕ) (k : ℕ). written b k more) first there
        ∙ written_right y 0 ps more (length ps) (omega arith) both

module _ (a : Alphabet) (w qs ls : List ℕ) where
  pub answered_none : (y z : List ℕ) → AnsweredTo a w qs ls 0 y z 0 y z
  unfolding laid written
  answered_none y z = record { count = refl; positions = record { long = refl; front = λ h. refl }; results = refl }

  module _ (i : ℕ) (y z : List ℕ) (r : ℕ) (y₁ z₁ : List ℕ) (l : AnsweredTo a w qs ls i y z r y₁ z₁) where
    pub answered_more : (q : List ℕ) (at n : ℕ) (left z₂ : List ℕ) → q ≡ pattern_at qs ls i → at ≡ min r (length y₁) → result_places * i + result_places ≤ length z
        → Answered a w q (take (length y₁ - at) (drop at y₁)) i z₁ n left z₂
        → AnsweredTo a w qs ls (i + 1) y z (r + n) (take at y₁ ++ (left ++ drop (length y₁ - at) (drop at y₁))) z₂
    answered_more q at n left z₂ is e room one =
        let m = subst (λ (q : List ℕ). Answered a w q (take (length y₁ - at) (drop at y₁)) i z₁ n left z₂) is one in
        let more : laid (positions_of a w qs ls) (i + 1) ≡ laid (positions_of a w qs ls) i ++ positions_of a w qs ls i = laid_more (positions_of a w qs ls) i in
        let here : at ≡ min (length (laid (positions_of a w qs ls) i)) (length y₁) = e ∙ ap (λ (k : ℕ). min k (length y₁)) l.count in
        record {
          count = ap₂ ◌+◌ l.count m.count ∙ sym (laid-length (positions_of a w qs ls) i);
          positions = subst (λ (ps : List ℕ). Holds ps y (take at y₁ ++ (left ++ drop (length y₁ - at) (drop at y₁)))) (sym more) (held_more _ _ y y₁ left at l.positions here m.positions);
          results = results_more a w qs ls i z z₁ z₂ room l.results m.result;
        }

-- ALL PATTERNS
-- no more positions than the row has, for each
pub laid-few : (a : Alphabet) (P : Programme) → given a P (length P.row) ≡ Ok tt → (qs ls : List ℕ) (b n : ℕ) → length P.row ≤ b
    → length (laid (positions_of a P.row qs ls) n) ≤ b * n
laid-few a P g qs ls b n h = laid_most (positions_of a P.row qs ls) b n (λ i k. omega (arith, alone_most a P g (pattern_at qs ls i)))

-- the list of the results stays as long as it was
pub results_long : (a : Alphabet) (w qs ls : List ℕ) (n : ℕ) (z z' : List ℕ) → z' ≡ written z 0 (laid (results_of a w qs ls) n) → result_places * n ≤ length z
    → length z' ≡ length z
results_long a w qs ls n z z' e h = ap length e ∙ length-written z 0 (laid (results_of a w qs ls) n) (omega (arith, results_length a w qs ls n))

-- a list that was written at the front of a buffer is read there
pub front_read : (y y' l : List ℕ) (n : ℕ) → y' ≡ written y 0 l → n ≡ length l → take n y' ≡ l
front_read y y' l n e h = ap₂ take h e ∙ written-front y l

-- a product is at most that of a larger number
pub product_most : (n b m : ℕ) → n ≤ b → n * m ≤ b * m
product_most n b zero h = omega arith
product_most n b (suc m) h = omega (arith, product_most n b m h)
