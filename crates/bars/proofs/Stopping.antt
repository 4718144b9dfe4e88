-- Where reading stops, and why: at the input's end; or at the first place where the input begins no bar form any more.
-- Assumes nothing.
use Rattle.std.specs.Prelude.{Ok, Err}
use Prim.Native.Nat.{ℕ, zero, suc, ◌+◌, ◌≤◌, ◌<◌}
use mathlib.Core.Path.{◌≡◌, refl, sym, ap, ◌∙◌, subst}
use mathlib.Core.List.{List, [], ◌∷◌, ◌++◌, append_assoc, append-nil}
use mathlib.Core.Bool.{Bool, true, false}
use native.Mathlib.Omega.{arith}
use borrow.Author.Tests.{eqb-true, eqb-false, lt-ltb, ltb-true, ltb-false}
use lib.Dec.{eqb, lt→ltb}
use lib.ListN.{length, get_or, length-append}
use lib.Seq.{take_all, take-append_seam, take-append-add}
use Rattle.rows.specs.Limits.{alphabet_most, bar}
use Rattle.rows.specs.Row.{pick, symbol}
use Rattle.rows.specs.declared.Fault.TheVariants.{Stray}
use Rattle.rows.specs.declared.Kept.TheVariants.{Misread}
use Rattle.rows.specs.declared.BarsFault.TheVariants.{NothingOpen, Children, Unclosed}
use Rattle.rows.specs.declared.Refusal.{Refusal}
use Rattle.rows.specs.declared.Refusal.TheVariants.{Row, Bars}
use Rattle.rows.proofs.Passing.{clash}
use Rattle.refusal_numbers.specs.Numbers.{place}
use Rattle.bars.specs.Bars.{IsBars, closing, rooted}
use Rattle.bars.specs.Promises.{Sound, Begins, Stops, StopsFirst, ChildDue, BarDue}
use Rattle.rows.proofs.Alphabets.{Leaf, symbols_most, some_leaf_lem}
use Rattle.bars.proofs.Forms.{no_bar}
use Rattle.bars.proofs.Closing.{closing-symbol, closing-bar, rooted_of_bars, bars_of_rooted}
use Rattle.bars.proofs.Reading.{closing_full, closing_lack, closing_none, closing_done, closing_end, root_here}

-- what begins a bar form with more behind it begins one
pub begins_before : (A w v : List ℕ) → Begins A (w ++ v) → Begins A w
begins_before A w v b = (v ++ b.0, subst (IsBars A) (append_assoc w v b.0) b.1)

-- why the number y is refused behind the list w, which begins a bar form
pub data Why (A w : List ℕ) (y : ℕ) (x : Refusal) : Type 0 where
  bar-first : length w ≡ 0 → y ≡ bar → Bars (NothingOpen (length w)) ≡ x → Why A w y x
  passed : IsBars A w → Bars (NothingOpen (length w)) ≡ x → Why A w y x
  early : 0 < length w → y ≡ bar → ChildDue A w → Bars (Children (length w)) ≡ x → Why A w y x
  extra : 0 < length w → (y ≡ bar → ⊥) → BarDue A w → Bars (Children (length w)) ≡ x → Why A w y x
  stray : (y ≡ bar → ⊥) → length A ≤ y → ChildDue A w → Row (Misread (Stray (length w))) ≡ x → Why A w y x

-- why the list v is refused: it ends; or at a number, and nothing behind that matters
pub data Told (A v : List ℕ) (x : Refusal) : Type 0 where
  ended : Begins A v → Bars (Unclosed (length v)) ≡ x → Told A v x
  fails : (w : List ℕ) (y : ℕ) (u : List ℕ) → w ++ (y ∷ u) ≡ v → Begins A w → ((t : List ℕ) → rooted A (w ++ (y ∷ t)) ≡ Err x)
      → Why A w y x → Told A v x

-- the list w is read, and the open nodes lack so many children
abbrev pub State : List ℕ → List ℕ → List ℕ → Type 0
State A w ks = (u : List ℕ) → rooted A (w ++ u) ≡ closing A ks (length w) u

-- with one number more read
state_on : (A w ks ls : List ℕ) (y : ℕ) → State A w ks → ((u : List ℕ) → closing A ks (length w) (y ∷ u) ≡ closing A ls (length w + 1) u)
    → State A (w ++ (y ∷ [])) ls
state_on A w ks ls y h e u =
    ap (rooted A) (append_assoc w (y ∷ []) u)
    ∙ h (y ∷ u)
    ∙ e u
    ∙ ap (λ (n : ℕ). closing A ls n u) (sym (length-append w (y ∷ [])))

-- nothing is open: the list is a bar form
pub state_whole : (A w : List ℕ) → State A w [] → IsBars A w
state_whole A w h = bars_of_rooted A w (ap (rooted A) (sym (append-nil w)) ∙ h [] ∙ closing_done A (length w))

module _ (A : List ℕ) (good : Sound A) where
  few : length A ≤ alphabet_most
  few = symbols_most A good

  leaf : Leaf A
  leaf = some_leaf_lem A good

  -- the open nodes can be closed, by leaves where children are lacking
  abbrev Closable : List ℕ → Type 0
  Closable ks = (u : List ℕ) × ((at : ℕ) → closing A ks at u ≡ Ok tt)

  close_one : (ks : List ℕ) → Closable ks → (k : ℕ) → Closable (k ∷ ks)
  close_one ks c zero = (bar ∷ c.0, λ at. closing-bar A ks at c.0 ∙ c.1 (at + 1))
  close_one ks c (suc k) =
      let d = close_one ks c k in
      let s = leaf.0 in (
        s ∷ (bar ∷ d.0),
        λ at.
            closing-symbol A k ks at s (bar ∷ d.0) few (lt→ltb s (length A) leaf.1)
            ∙ ap (λ (n : ℕ). closing A (n ∷ (k ∷ ks)) (at + 1) (bar ∷ d.0)) leaf.2
            ∙ closing-bar A (k ∷ ks) (at + 1) d.0
            ∙ d.1 (at + 1 + 1),
      )

  close_all : (ks : List ℕ) → Closable ks
  close_all [] = ([], λ at. closing_done A at)
  close_all (k ∷ ks) = close_one ks (close_all ks) k

  state_begins : (w ks : List ℕ) → State A w ks → Begins A w
  state_begins w ks h =
      let end = close_all ks in
      (end.0, bars_of_rooted A (w ++ end.0) (h end.0 ∙ end.1 (length w)))

  -- what is due: the bar, a child, the root
  pub state_bar : (w ks : List ℕ) → State A w (0 ∷ ks) → BarDue A w
  state_bar w ks h = state_begins (w ++ (bar ∷ [])) ks (state_on A w (0 ∷ ks) ks bar h (closing-bar A ks (length w)))

  state_symbol : (w : List ℕ) (k : ℕ) (ks : List ℕ) (s : ℕ) → State A w (suc k ∷ ks) → s < length A → State A (w ++ (s ∷ [])) (get_or A s 0 ∷ (k ∷ ks))
  state_symbol w k ks s h known =
      state_on A w (suc k ∷ ks) (get_or A s 0 ∷ (k ∷ ks)) s h (λ u. closing-symbol A k ks (length w) s u few (lt→ltb s (length A) known))

  pub state_child : (w : List ℕ) (k : ℕ) (ks : List ℕ) → State A w (suc k ∷ ks) → ChildDue A w
  state_child w k ks h = (leaf.0, leaf.1, state_begins (w ++ (leaf.0 ∷ [])) (get_or A leaf.0 0 ∷ (k ∷ ks)) (state_symbol w k ks leaf.0 h leaf.1))

  state_root : (s : ℕ) → s < length A → State A (s ∷ []) (get_or A s 0 ∷ [])
  state_root s known u = root_here A (s ∷ u) (omega arith) false true (no_bar A s few (lt→ltb s (length A) known)) (lt-ltb _ _ known)

  root_due : ChildDue A []
  root_due = (leaf.0, leaf.1, state_begins (leaf.0 ∷ []) (get_or A leaf.0 0 ∷ []) (state_root leaf.0 leaf.1))

  -- Reading on behind w, where the open nodes lack so many children.
  module _ (x : Refusal) where
    tell_none : (w v : List ℕ) (y : ℕ) → State A w [] → closing A [] (length w) (y ∷ v) ≡ Err x → Told A (w ++ (y ∷ v)) x
    tell_none w v y h e =
        let made : Err (Bars (NothingOpen (length w))) ≡ Err x = sym (closing_none A (length w) y v) ∙ e in
        let same : Bars (NothingOpen (length w)) ≡ x = cc in
        fails w y v refl (state_begins w [] h) (λ t. h (y ∷ t) ∙ closing_none A (length w) y t ∙ made) (passed (state_whole A w h) same)

    tell_full : (w v ks : List ℕ) (y : ℕ) (b : Bool) → eqb y bar ≡ b → 0 < length w → State A w (0 ∷ ks)
        → pick b (closing A ks (length w + 1) v) (Err (Bars (Children (length w)))) ≡ Err x
        → (State A (w ++ (y ∷ [])) ks → closing A ks (length (w ++ (y ∷ []))) v ≡ Err x → Told A ((w ++ (y ∷ [])) ++ v) x)
        → Told A (w ++ (y ∷ v)) x
    tell_full w v ks y true q some h e on =
        subst (λ (l : List ℕ). Told A l x) (append_assoc w (y ∷ []) v)
        (on (state_on A w (0 ∷ ks) ks y h (λ u. closing_full A ks (length w) y u true q)) (ap (λ (n : ℕ). closing A ks n v) (length-append w (y ∷ [])) ∙ e))
    tell_full w v ks y false q some h e on =
        let same : Bars (Children (length w)) ≡ x = cc in
        fails w y v refl (state_begins w (0 ∷ ks) h) (λ t. h (y ∷ t) ∙ closing_full A ks (length w) y t false q ∙ e)
        (extra some (eqb-false y bar q) (state_bar w ks h) same)

    tell_lack : (w v : List ℕ) (k : ℕ) (ks : List ℕ) (y : ℕ) (b c : Bool) → eqb y bar ≡ b → symbol A y ≡ c → 0 < length w → State A w (suc k ∷ ks)
        → pick b (Err (Bars (Children (length w)))) (pick c (closing A (get_or A y 0 ∷ (k ∷ ks)) (length w + 1) v) (Err (Row (Misread (Stray (length w)))))) ≡ Err x
        → (State A (w ++ (y ∷ [])) (get_or A y 0 ∷ (k ∷ ks)) → closing A (get_or A y 0 ∷ (k ∷ ks)) (length (w ++ (y ∷ []))) v ≡ Err x → Told A ((w ++ (y ∷ [])) ++ v) x)
        → Told A (w ++ (y ∷ v)) x
    tell_lack w v k ks y true c q r some h e on =
        let same : Bars (Children (length w)) ≡ x = cc in
        fails w y v refl (state_begins w (suc k ∷ ks) h) (λ t. h (y ∷ t) ∙ closing_lack A k ks (length w) y t true c q r ∙ e)
        (early some (eqb-true y bar q) (state_child w k ks h) same)
    tell_lack w v k ks y false true q r some h e on =
        subst (λ (l : List ℕ). Told A l x) (append_assoc w (y ∷ []) v)
        (on (state_symbol w k ks y h (ltb-true y (length A) r)) (ap (λ (n : ℕ). closing A (get_or A y 0 ∷ (k ∷ ks)) n v) (length-append w (y ∷ [])) ∙ e))
    tell_lack w v k ks y false false q r some h e on =
        let same : Row (Misread (Stray (length w))) ≡ x = cc in
        fails w y v refl (state_begins w (suc k ∷ ks) h) (λ t. h (y ∷ t) ∙ closing_lack A k ks (length w) y t false false q r ∙ e)
        (stray (eqb-false y bar q) (ltb-false y (length A) r) (state_child w k ks h) same)

    tell : (v w ks : List ℕ) → 0 < length w → State A w ks → closing A ks (length w) v ≡ Err x → Told A (w ++ v) x
    tell [] w [] some h e = absurd (clash (closing A [] (length w) []) x (closing_done A (length w)) e)
    tell [] w (k ∷ ks) some h e =
        let made : Err (Bars (Unclosed (length w))) ≡ Err x = sym (closing_end A k ks (length w)) ∙ e in
        let same : Bars (Unclosed (length w)) ≡ x = cc in
        subst (λ (l : List ℕ). Told A l x) (sym (append-nil w)) (ended (state_begins w (k ∷ ks) h) same)
    tell (y ∷ v) w [] some h e = tell_none w v y h e
    tell (y ∷ v) w (zero ∷ ks) some h e =
        tell_full w v ks y (eqb y bar) refl some h (sym (closing_full A ks (length w) y v (eqb y bar) refl) ∙ e)
        (λ s d. tell v (w ++ (y ∷ [])) ks (omega (arith, length-append w (y ∷ []))) s d)
    tell (y ∷ v) w (suc k ∷ ks) some h e =
        tell_lack w v k ks y (eqb y bar) (symbol A y) refl refl some h (sym (closing_lack A k ks (length w) y v (eqb y bar) (symbol A y) refl refl) ∙ e)
        (λ s d. tell v (w ++ (y ∷ [])) (get_or A y 0 ∷ (k ∷ ks)) (omega (arith, length-append w (y ∷ []))) s d)

    -- the root
    tell_root : (y : ℕ) (v : List ℕ) (b c : Bool) → eqb y bar ≡ b → symbol A y ≡ c
        → pick b (Err (Bars (NothingOpen 0))) (pick c (closing A (get_or A y 0 ∷ []) 1 v) (Err (Row (Misread (Stray 0))))) ≡ Err x
        → Told A (y ∷ v) x
    tell_root y v true c q r e =
        let same : Bars (NothingOpen 0) ≡ x = cc in
        fails [] y v refl (begins_before A [] (root_due.0 ∷ []) root_due.2) (λ t. root_here A (y ∷ t) (omega arith) true c q r ∙ e) (bar-first refl (eqb-true y bar q) same)
    tell_root y v false true q r e = tell v (y ∷ []) (get_or A y 0 ∷ []) (omega arith) (state_root y (ltb-true y (length A) r)) e
    tell_root y v false false q r e =
        let same : Row (Misread (Stray 0)) ≡ x = cc in
        fails [] y v refl (begins_before A [] (root_due.0 ∷ []) root_due.2) (λ t. root_here A (y ∷ t) (omega arith) false false q r ∙ e)
        (stray (eqb-false y bar q) (ltb-false y (length A) r) root_due same)

    pub told : (v : List ℕ) → 0 < length v → rooted A v ≡ Err x → Told A v x
    told [] some e = absurd (omega arith)
    told (y ∷ v) some e =
        tell_root y v (eqb y bar) (symbol A y) refl refl (sym (root_here A (y ∷ v) some (eqb y bar) (symbol A y) refl refl) ∙ e)

-- the place of a refusal
why_place : (A w : List ℕ) (y : ℕ) (x : Refusal) → Why A w y x → place x ≡ length w
why_place A w y x (bar-first n q e) = ap place (sym e)
why_place A w y x (passed b e) = ap place (sym e)
why_place A w y x (early s q d e) = ap place (sym e)
why_place A w y x (extra s q d e) = ap place (sym e)
why_place A w y x (stray q l d e) = ap place (sym e)

told_stops : (A v : List ℕ) (x : Refusal) → length A ≤ alphabet_most → Told A v x → Stops A v (place x)
told_stops A v x few (ended b e) =
    subst (Stops A v) (ap place e)
    (record {
      within = omega arith;
      before = subst (Begins A) (sym (take_all (length v) v (omega arith))) b;
      after = λ h c. omega arith;
    })
told_stops A v x few (fails w y u s b f why) =
    subst (λ (l : List ℕ). Stops A l (place x)) s
    (subst (Stops A (w ++ (y ∷ u))) (sym (why_place A w y x why))
    (record {
      within = omega (arith, length-append w (y ∷ u));
      before = subst (Begins A) (sym (take-append_seam w (y ∷ u))) b;
      after = λ h c.
          let form : IsBars A (w ++ (y ∷ c.0)) =
          subst (IsBars A) (ap (λ (l : List ℕ). l ++ c.0) (take-append-add w (y ∷ u) 1) ∙ append_assoc w (y ∷ []) c.0) c.1 in
          clash (rooted A (w ++ (y ∷ c.0))) x (rooted_of_bars A (w ++ (y ∷ c.0)) few form) (f c.0);
    }))

pub stops_first : StopsFirst
stops_first A v x good some e = told_stops A v x (symbols_most A good) (told A good x v some e)
