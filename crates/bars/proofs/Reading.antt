-- What a turn of the reader's loop finds at position i; and how the symbols are copied.
-- Assumes nothing.
use Rattle.std.specs.Prelude.{Result, Ok, Err, ⊤}
use Prim.Native.Nat.{ℕ, suc, ◌+◌, ◌-◌, ◌≤◌, ◌<◌}
use mathlib.Core.Path.{◌≡◌, refl, sym, ap, ap₂, ◌∙◌}
use mathlib.Core.List.{List, [], ◌∷◌}
use mathlib.Core.Bool.{Bool, true, false}
use native.Mathlib.Omega.{arith}
use borrow.Author.Tests.{eq-eqb, ne_eqb, lt-ltb, le-ltb}
use lib.Dec.{eqb}
use lib.ListN.{length, get_or, drop, set, drop_of_length-le}
use Rattle.rows.specs.Row.{pick, symbol}
use Rattle.rows.specs.declared.Fault.TheVariants.{Stray}
use Rattle.rows.specs.declared.Kept.TheVariants.{Misread}
use Rattle.rows.specs.declared.BarsFault.TheVariants.{NothingOpen, Children, Unclosed}
use Rattle.rows.specs.declared.Refusal.TheVariants.{Row, Bars}
use Rattle.rows.proofs.Scan.{drop_more}
use Rattle.rows.specs.Limits.{bar}
use Rattle.bars.specs.Bars.{unbarred, closing, rooted}
use Rattle.bars.proofs.Lacking.{lacking, lacking_top, lacking_child}
use Rattle.rows.specs.declared.Refusal.{Refusal}

-- the innermost open node lacks nothing, or a child
pub closing_full : (A ks : List ℕ) (at x : ℕ) (v : List ℕ) (b : Bool) → eqb x bar ≡ b
    → closing A (0 ∷ ks) at (x ∷ v) ≡ pick b (closing A ks (at + 1) v) (Err (Bars (Children at)))
unfolding closing
closing_full A ks at x v b e = ap (λ (c : Bool). pick c (closing A ks (at + 1) v) (Err (Bars (Children at)))) e

pub closing_lack : (A : List ℕ) (k : ℕ) (ks : List ℕ) (at x : ℕ) (v : List ℕ) (b c : Bool) → eqb x bar ≡ b → symbol A x ≡ c
    → closing A (suc k ∷ ks) at (x ∷ v)
    ≡ pick b (Err (Bars (Children at))) (pick c (closing A (get_or A x 0 ∷ (k ∷ ks)) (at + 1) v) (Err (Row (Misread (Stray at)))))
unfolding closing
closing_lack A k ks at x v b c e d =
    ap₂ (λ (i j : Bool). pick i (Err (Bars (Children at))) (pick j (closing A (get_or A x 0 ∷ (k ∷ ks)) (at + 1) v) (Err (Row (Misread (Stray at)))))) e d

pub closing_none : (A : List ℕ) (at x : ℕ) (v : List ℕ) → closing A [] at (x ∷ v) ≡ Err (Bars (NothingOpen at))
unfolding closing
closing_none A at x v = refl

pub closing_end : (A : List ℕ) (k : ℕ) (ks : List ℕ) (at : ℕ) → closing A (k ∷ ks) at [] ≡ Err (Bars (Unclosed at))
unfolding closing
closing_end A k ks at = refl

pub closing_done : (A : List ℕ) (at : ℕ) → closing A [] at [] ≡ Ok tt
unfolding closing
closing_done A at = refl

-- No node is open any more: the input ends, or it goes on.
module _ (A v : List ℕ) (i : ℕ) where
  pub all_closed : length v ≤ i → closing A [] i (drop i v) ≡ Ok tt
  all_closed h = ap (closing A [] i) (drop_of_length-le v h) ∙ closing_done A i

  pub none_open : i < length v → closing A [] i (drop i v) ≡ Err (Bars (NothingOpen i))
  none_open h = ap (closing A [] i) (drop_more v i h) ∙ closing_none A i (get_or v i 0) (drop (i + 1) v)

-- The list v is read up to position i, where `depth` nodes are open and the list l tells how many children each lacks: the answer
-- is what reading on from there gives.
module _ (A v l : List ℕ) (depth i : ℕ) (r : Result ⊤ Refusal) (e : r ≡ closing A (lacking l depth) i (drop i v)) where
  -- the input ends
  module _ (h : length v ≤ i) where
    ended : r ≡ closing A (lacking l depth) i []
    ended = e ∙ ap (closing A (lacking l depth) i) (drop_of_length-le v h)

    pub end_open : 0 < depth → r ≡ Err (Bars (Unclosed i))
    end_open some = ended ∙ ap (λ (ks : List ℕ). closing A ks i []) (lacking_top l depth some) ∙ closing_end A (get_or l (depth - 1) 0) (lacking l (depth - 1)) i

  -- it goes on
  module _ (h : i < length v) where
    module _ (some : 0 < depth) where
      here : (k : ℕ) → get_or l (depth - 1) 0 ≡ k → r ≡ closing A (k ∷ lacking l (depth - 1)) i (get_or v i 0 ∷ drop (i + 1) v)
      here k q =
          e
          ∙ ap₂ (λ (ks u : List ℕ). closing A ks i u) (lacking_top l depth some) (drop_more v i h)
          ∙ ap (λ (n : ℕ). closing A (n ∷ lacking l (depth - 1)) i (get_or v i 0 ∷ drop (i + 1) v)) q

      -- the innermost node lacks nothing
      module _ (full : get_or l (depth - 1) 0 ≡ 0) where
        pub bar_closes : get_or v i 0 ≡ bar → r ≡ closing A (lacking l (depth - 1)) (i + 1) (drop (i + 1) v)
        bar_closes x = here 0 full ∙ closing_full A (lacking l (depth - 1)) i (get_or v i 0) (drop (i + 1) v) true (eq-eqb _ _ x)

        pub child_too_many : (get_or v i 0 ≡ bar → ⊥) → r ≡ Err (Bars (Children i))
        child_too_many x = here 0 full ∙ closing_full A (lacking l (depth - 1)) i (get_or v i 0) (drop (i + 1) v) false (ne_eqb _ _ x)

      -- it lacks a child
      module _ (lack : 0 < get_or l (depth - 1) 0) where
        more : (b c : Bool) → eqb (get_or v i 0) bar ≡ b → symbol A (get_or v i 0) ≡ c
            → r ≡ pick b (Err (Bars (Children i))) (pick c (closing A (get_or A (get_or v i 0) 0 ∷ ((get_or l (depth - 1) 0 - 1) ∷ lacking l (depth - 1))) (i + 1) (drop (i + 1) v)) (Err (Row (Misread (Stray i)))))
        more b c p q =
            let up : get_or l (depth - 1) 0 ≡ suc (get_or l (depth - 1) 0 - 1) = omega arith in
            here (suc (get_or l (depth - 1) 0 - 1)) up
            ∙ closing_lack A (get_or l (depth - 1) 0 - 1) (lacking l (depth - 1)) i (get_or v i 0) (drop (i + 1) v) b c p q

        pub bar_too_soon : get_or v i 0 ≡ bar → r ≡ Err (Bars (Children i))
        bar_too_soon x = more true (symbol A (get_or v i 0)) (eq-eqb _ _ x) refl

        module _ (other : get_or v i 0 ≡ bar → ⊥) where
          pub no_symbol : length A ≤ get_or v i 0 → r ≡ Err (Row (Misread (Stray i)))
          no_symbol x = more false false (ne_eqb _ _ other) (le-ltb _ _ x)

          pub symbol_opens : get_or v i 0 < length A → depth < length l
              → r ≡ closing A (lacking (set (set l (depth - 1) (get_or l (depth - 1) 0 - 1)) depth (get_or A (get_or v i 0) 0)) (depth + 1)) (i + 1) (drop (i + 1) v)
          symbol_opens x room =
              more false true (ne_eqb _ _ other) (lt-ltb _ _ x)
              ∙ ap (λ (ks : List ℕ). closing A ks (i + 1) (drop (i + 1) v)) (sym (lacking_child l depth (get_or l (depth - 1) 0 - 1) (get_or A (get_or v i 0) 0) some room))

-- what is left to copy at position i, and what a number there adds
module _ (v : List ℕ) (i : ℕ) (h : i < length v) where
  copy_here : (b : Bool) → eqb (get_or v i 0) bar ≡ b → unbarred (drop i v) ≡ pick b (unbarred (drop (i + 1) v)) (get_or v i 0 ∷ unbarred (drop (i + 1) v))
  unfolding unbarred
  copy_here b e =
      ap unbarred (drop_more v i h) ∙ ap (λ (c : Bool). pick c (unbarred (drop (i + 1) v)) (get_or v i 0 ∷ unbarred (drop (i + 1) v))) e

  pub copy_bar : get_or v i 0 ≡ bar → unbarred (drop i v) ≡ unbarred (drop (i + 1) v)
  copy_bar x = copy_here true (eq-eqb _ _ x)

  pub copy_symbol : (get_or v i 0 ≡ bar → ⊥) → unbarred (drop i v) ≡ get_or v i 0 ∷ unbarred (drop (i + 1) v)
  copy_symbol x = copy_here false (ne_eqb _ _ x)

-- the root
module _ (A v : List ℕ) (some : 0 < length v) where
  pub root_here : (b c : Bool) → eqb (get_or v 0 0) bar ≡ b → symbol A (get_or v 0 0) ≡ c
      → rooted A v ≡ pick b (Err (Bars (NothingOpen 0))) (pick c (closing A (get_or A (get_or v 0 0) 0 ∷ []) 1 (drop 1 v)) (Err (Row (Misread (Stray 0)))))
  unfolding rooted
  root_here b c p q =
      ap (rooted A) (drop_more v 0 some)
      ∙ ap₂ (λ (i j : Bool). pick i (Err (Bars (NothingOpen 0))) (pick j (closing A (get_or A (get_or v 0 0) 0 ∷ []) 1 (drop 1 v)) (Err (Row (Misread (Stray 0)))))) p q

  pub root_bar : get_or v 0 0 ≡ bar → rooted A v ≡ Err (Bars (NothingOpen 0))
  root_bar x = root_here true (symbol A (get_or v 0 0)) (eq-eqb _ _ x) refl

  module _ (other : get_or v 0 0 ≡ bar → ⊥) where
    pub root_stray : length A ≤ get_or v 0 0 → rooted A v ≡ Err (Row (Misread (Stray 0)))
    root_stray x = root_here false false (ne_eqb _ _ other) (le-ltb _ _ x)

    pub root_opens : get_or v 0 0 < length A → rooted A v ≡ closing A (get_or A (get_or v 0 0) 0 ∷ []) 1 (drop 1 v)
    root_opens x = root_here false true (ne_eqb _ _ other) (lt-ltb _ _ x)
