-- Laws of symbols that are read several at once, whichever leaves may stand beside them.
-- Assumes nothing.
use Prim.Native.Nat.{ℕ, zero, suc, ◌+◌, ◌-◌, ◌≤◌, ◌<◌}
use mathlib.Core.Path.{◌≡◌, refl, sym, ap, ap₂, ◌∙◌, subst}
use mathlib.Core.List.{List}
use native.Mathlib.Omega.{arith}
use Rattle.std.specs.Prelude.{◌≢◌}
use lib.ListN.{length, get_or, take, drop, length-drop}
use lib.Seq.{length-take-le, get_or-take, get_or-drop}
use Rattle.rows.specs.Row.{allowed}
use Rattle.rows.specs.Reading.{ReadTo, BelowTo, SymbolsTo, children}
use Rattle.rows.specs.declared.Leaves.{Leaves}
use Rattle.rows.specs.declared.Leaves.TheVariants.{Symbols}
use Rattle.rows.proofs.Scan.{read_start, read_next, allowed-symbol}

whichever : (A w : List ℕ) (i due : ℕ) → ((leaves : Leaves) → ReadTo A (allowed leaves A) w i due) → SymbolsTo A w i due
whichever A w i due h = ((h Symbols).0, (h Symbols).1, (h Symbols).2, h)

pub symbols_start : (A w : List ℕ) → SymbolsTo A w 0 1
symbols_start A w = whichever A w 0 1 (λ leaves. read_start A (allowed leaves A) w)

-- one symbol, up to the next position
pub read_one : (A w : List ℕ) (i due : ℕ) → SymbolsTo A w i due → (j d a : ℕ) → j ≡ i + 1 → d ≡ due + a → a ≡ get_or A (get_or w i 0) 0 → a ≤ 65535
    → i < length w → i < due → get_or w i 0 < length A → SymbolsTo A w j d
read_one A w i due r j d a next after arity small within more one =
    let on = λ (leaves : Leaves). read_next A (allowed leaves A) w i due (r.3 leaves) within more (allowed-symbol leaves A (get_or w i 0) one) (omega (arith, arity)) in
    let sum : due + get_or A (get_or w i 0) 0 ≡ d = omega (arith, after, arity) in
    subst (λ (k : ℕ). SymbolsTo A w k d) (sym next) (subst (SymbolsTo A w (i + 1)) sum (whichever A w (i + 1) (due + get_or A (get_or w i 0) 0) on))

-- four symbols from p on, one after the other, where d more are due than are read: each is read if there are still more
module _ (A w : List ℕ) (p d end : ℕ) (read : SymbolsTo A w p (p + d)) (below : BelowTo (length A) w end) (four : p + 4 ≤ end) where
  symbol : (q : ℕ) → q < p + 4 → (q < length w) × (get_or w q 0 < length A)
  symbol q h = (omega (arith, four, below.0), below.1 q (omega (arith, four)))

  module _ (more : d ≢ 0) (a : ℕ) (first : (a ≡ get_or A (get_or w p 0) 0) × (a ≤ 65535)) where
    pub read_first : SymbolsTo A w (p + 1) (p + (d + a))
    read_first =
        let here = symbol p (omega arith) in
        read_one A w p (p + d) read (p + 1) (p + (d + a)) a refl (omega arith) first.0 first.1 here.0 (omega (arith, more)) here.1

    module _ (more_1 : d + a ≢ 1) (b : ℕ) (second : (b ≡ get_or A (get_or w (p + 1) 0) 0) × (b ≤ 65535)) where
      pub read_second : SymbolsTo A w (p + 2) (p + (d + a + b))
      read_second =
          let here = symbol (p + 1) (omega arith) in
          read_one A w (p + 1) (p + (d + a)) read_first (p + 2) (p + (d + a + b)) b (omega arith) (omega arith) second.0 second.1
          here.0 (omega (arith, read_first.1, more_1)) here.1

      module _ (more_2 : d + a + b ≢ 2) (c : ℕ) (third : (c ≡ get_or A (get_or w (p + 2) 0) 0) × (c ≤ 65535)) where
        pub read_third : SymbolsTo A w (p + 3) (p + (d + a + b + c))
        read_third =
            let here = symbol (p + 2) (omega arith) in
            read_one A w (p + 2) (p + (d + a + b)) read_second (p + 3) (p + (d + a + b + c)) c (omega arith) (omega arith) third.0 third.1
            here.0 (omega (arith, read_second.1, more_2)) here.1

        pub read_fourth : d + a + b + c ≢ 3 → (e : ℕ) → (e ≡ get_or A (get_or w (p + 3) 0) 0) × (e ≤ 65535) → SymbolsTo A w (p + 4) (p + 4 + (d + a + b + c + e - 4))
        read_fourth more_3 e fourth =
            let here = symbol (p + 3) (omega arith) in
            read_one A w (p + 3) (p + (d + a + b + c)) read_third (p + 4) (p + 4 + (d + a + b + c + e - 4)) e (omega arith)
            (omega (arith, read_third.1, more_3)) fourth.0 fourth.1 here.0 (omega (arith, read_third.1, more_3)) here.1

-- where m symbols are due, the next m can be read at once
pub read_many : (A w : List ℕ) (i due : ℕ) → SymbolsTo A w i due → (m : ℕ) → i + m ≤ length w → i + m ≤ due
    → ((j : ℕ) → j < m → get_or w (i + j) 0 < length A) → ((k : ℕ) → get_or A k 0 ≤ 65535) → SymbolsTo A w (i + m) (due + children A w i m)
unfolding children
read_many A w i due r zero within many symbols small =
    let here : i ≡ i + 0 = omega arith in
    let same : due ≡ due + 0 = omega arith in
    subst (λ (d : ℕ). SymbolsTo A w (i + 0) d) same (subst (λ (k : ℕ). SymbolsTo A w k due) here r)
read_many A w i due r (suc m) within many symbols small =
    let before = read_many A w i due r m (omega arith) (omega arith) (λ j h. symbols j (omega arith)) small in
    let last = get_or A (get_or w (i + m) 0) 0 in
    read_one A w (i + m) (due + children A w i m) before (i + suc m) (due + (children A w i m + last)) last (omega arith) (omega arith) refl (small (get_or w (i + m) 0))
    (omega arith) (omega arith) (symbols m (omega arith))

-- the stretch s of m numbers of w from i on
module _ (w s : List ℕ) (i m : ℕ) (within : i + m ≤ length w) (is : s ≡ take m (drop i w)) where
  pub part_length : length s ≡ m
  part_length = ap length is ∙ length-take-le m (drop i w) (omega (arith, length-drop i w))

  pub part_at : (j : ℕ) → j < m → get_or s j 0 ≡ get_or w (i + j) 0
  part_at j h = ap (λ (l : List ℕ). get_or l j 0) is ∙ get_or-take m (drop i w) j 0 h ∙ get_or-drop i w j 0

  -- its children in all
  children_at : (A : List ℕ) (k : ℕ) → k ≤ m → children A s 0 k ≡ children A w i k
  unfolding children
  children_at A zero h = refl
  children_at A (suc k) h =
      let from_front : 0 + k ≡ k = omega arith in
      ap₂ (λ (a b : ℕ). a + b) (children_at A k (omega arith))
      (ap (λ (x : ℕ). get_or A x 0) (ap (λ (j : ℕ). get_or s j 0) from_front ∙ part_at k (omega arith)))

  pub part_children : (A : List ℕ) → children A s 0 (length s) ≡ children A w i m
  part_children A = ap (children A s 0) part_length ∙ children_at A m (omega arith)
