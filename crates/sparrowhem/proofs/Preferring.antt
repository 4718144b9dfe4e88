-- Newer or older: what the checks leave, and what the search of a row says.
-- Assumes nothing.
use Rattle.std.specs.Prelude.{Result, Ok, Err}
use Prim.Native.Nat.{ℕ, ◌-◌, ◌≤◌, ◌<◌}
use mathlib.Core.Path.{◌≡◌, refl, sym, ap, ap₂, ◌∙◌}
use mathlib.Core.List.{List}
use native.Mathlib.Decide.{dec_lt}
use native.Mathlib.Omega.{arith}
use lib.ListN.{length, get_or, take, drop}
use Rattle.rows.specs.Programme.{Alphabet, Programme}
use Rattle.rows.specs.Tree.{single, prefix, subtree_at}
use Rattle.rows.specs.Parse.{parse, table}
use Rattle.rows.proofs.Entry.{entry_bounds}
use Rattle.rows.proofs.Subtrees.{subtree_row}
use Rattle.tables.proofs.Given.{right_entry}
use Rattle.patterns.specs.Searchable.{Checked}
use Rattle.searches.specs.Searches.{FirstFrom, NoneFrom}
use Rattle.sparrowhem.specs.Parts.{FirstMatch, NoMatch, NewestSays}
use Rattle.sparrowhem.specs.declared.parts.Newest.{Newest}
use Rattle.sparrowhem.specs.declared.parts.Newest.TheVariants.{Corrected, OnRecord as OnRecordAt, Nowhere}
use Rattle.rows.specs.declared.Refusal.{Refusal}
use Rattle.rows.proofs.Passing.{clash}

-- the search of a row from its start
module _ (a : Alphabet) (P : Programme) (q : List ℕ) where
  pub first_match : Checked a P q → (p : ℕ) → FirstFrom a P.row q 0 (length P.row) p → FirstMatch a P.row q p (get_or P.table p 0)
  first_match c p n =
      record {
        within = n.within;
        here = n.here;
        before = λ k b. n.none_between k (omega arith) b;
        end = right_entry a.arities P.row P.table c.row p n.within;
      }

  pub no_match : NoneFrom a P.row q 0 (length P.row) → NoMatch a P.row q
  no_match n k b = n k (omega arith) b

-- where a first match lies, and its subtree's row
module _ (a : Alphabet) (w q : List ℕ) (p e : ℕ) (f : FirstMatch a w q p e) where
  pub match_within : (p < e) × (e ≤ length w)
  match_within = let b = entry_bounds a.arities w p f.within in (omega (arith, f.end), omega (arith, f.end))

  pub match_part : take (e - p) (drop p w) ≡ prefix (single (subtree_at (parse a.arities w) p))
  match_part = ap (λ (i : ℕ). take (i - p) (drop p w)) f.end ∙ sym (subtree_row a.arities w p f.within)

-- A CONTRACT LEAVES NO CHOICE. There is one first match, and where there is one, there is some.
first_once : (a : Alphabet) (w q : List ℕ) (p e p' e' : ℕ) → FirstMatch a w q p e → FirstMatch a w q p' e' → (p ≡ p') × (e ≡ e')
first_once a w q p e p' e' f g = (same, f.end ∙ ap (λ (n : ℕ). get_or (table a.arities w) n 0) same ∙ sym g.end)
  where
    go : Dec (p < p') → Dec (p' < p) → p ≡ p'
    go (yes h) k = absurd (g.before p h f.here)
    go (no h) (yes k) = absurd (f.before p' k g.here)
    go (no h) (no k) = omega arith

    same : p ≡ p'
    same = go (dec_lt p p') (dec_lt p' p)

some_match : {a : Alphabet} {w q : List ℕ} {p e : ℕ} → FirstMatch a w q p e → NoMatch a w q → ⊥
some_match f n = n _ f.within f.here

module _ (a : Alphabet) (P O : Programme) (q : List ℕ) where
  abbrev Says : Result Newest Refusal → Type 0
  Says = NewestSays a P O q

  pub one_answer : (r s : Result Newest Refusal) → Says r → Says s → r ≡ s
  one_answer (Ok (Corrected p e)) (Ok (Corrected p' e')) h k = let o = first_once a P.row q p e p' e' h.1 k.1 in ap₂ (λ (b e : ℕ). Ok (Corrected b e)) o.0 o.1
  one_answer (Ok (Corrected p e)) (Ok (OnRecordAt p' e')) h k = absurd (some_match h.1 k.1)
  one_answer (Ok (Corrected p e)) (Ok Nowhere) h k = absurd (some_match h.1 k.1)
  one_answer (Ok (Corrected p e)) (Err y) h k = absurd (clash _ y h.0 k)
  one_answer (Ok (OnRecordAt p e)) (Ok (Corrected p' e')) h k = absurd (some_match k.1 h.1)
  one_answer (Ok (OnRecordAt p e)) (Ok (OnRecordAt p' e')) h k = let o = first_once a O.row q p e p' e' h.2 k.2 in ap₂ (λ (b e : ℕ). Ok (OnRecordAt b e)) o.0 o.1
  one_answer (Ok (OnRecordAt p e)) (Ok Nowhere) h k = absurd (some_match h.2 k.2)
  one_answer (Ok (OnRecordAt p e)) (Err y) h k = absurd (clash _ y h.0 k)
  one_answer (Ok Nowhere) (Ok (Corrected p e)) h k = absurd (some_match k.1 h.1)
  one_answer (Ok Nowhere) (Ok (OnRecordAt p e)) h k = absurd (some_match k.2 h.2)
  one_answer (Ok Nowhere) (Ok Nowhere) h k = refl
  one_answer (Ok Nowhere) (Err y) h k = absurd (clash _ y h.0 k)
  one_answer (Err y) (Ok (Corrected p e)) h k = absurd (clash _ y k.0 h)
  one_answer (Err y) (Ok (OnRecordAt p e)) h k = absurd (clash _ y k.0 h)
  one_answer (Err y) (Ok Nowhere) h k = absurd (clash _ y k.0 h)
  one_answer (Err y) (Err z) h k = let x : y ≡ z = cc (sym h ∙ k) in ap Err x
