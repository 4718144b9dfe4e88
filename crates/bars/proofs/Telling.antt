-- What each refusal tells: what is due where it is given.
-- Assumes nothing.
use Rattle.std.specs.Prelude.{Ok, Err}
use Prim.Native.Nat.{ℕ, zero, suc, ◌+◌, ◌≤◌, ◌<◌}
use mathlib.Core.Path.{◌≡◌, refl, sym, ap, ap₂, ◌∙◌, subst}
use mathlib.Core.List.{List, [], ◌∷◌, ◌++◌, append_assoc, append-nil}
use mathlib.Core.Bool.{Bool, true, false}
use mathlib.Core.Logic.{◌⊎◌, inl, inr}
use native.Mathlib.Nat.{add-zero}
use native.Mathlib.Omega.{arith}
use borrow.Author.Tests.{eq-eqb, ne_eqb, le-ltb}
use lib.Dec.{eqb, lt→ltb}
use lib.ListN.{length, get_or, take, drop, length-append, take-append-drop}
use lib.Seq.{length-take-le, take-append_seam, get_or-append_seam}
use Rattle.rows.specs.Limits.{bar}
use Rattle.rows.specs.Row.{pick, symbol}
use Rattle.rows.specs.declared.Fault.TheVariants.{Stray}
use Rattle.rows.specs.declared.Kept.TheVariants.{Misread}
use Rattle.rows.specs.declared.BarsFault.TheVariants.{NothingOpen, Children, Unclosed}
use Rattle.rows.specs.declared.Refusal.TheVariants.{Row, Bars}
use Rattle.rows.proofs.Passing.{clash}
use Rattle.rows.proofs.Scan.{drop_more}
use Rattle.bars.specs.Bars.{bar_form, IsBars, closing, rooted}
use Rattle.bars.specs.Promises.{Sound, Begins, ChildDue, BarDue, OneDue, NothingIsOpen, WrongChildren, StrayChild, EndsOpen}
use Rattle.rows.proofs.Alphabets.{symbols_most}
use Rattle.bars.proofs.Forms.{no_bar}
use Rattle.bars.proofs.Closing.{rooted_of_bars}
use Rattle.bars.proofs.Reading.{closing_full, closing_lack, closing_none, closing_end, root_here, root_bar, root_stray}
use Rattle.bars.proofs.Stopping.{begins_before, Why.bar-first, Why.passed, Why.early, Why.extra, Why.stray, Told, Told.ended, Told.fails, State, state_whole, state_bar, state_child, told}

-- reading a list that is accepted with more behind it ends in a state from which the rest is read
abbrev Reach : List ℕ → List ℕ → ℕ → List ℕ → Type 0
Reach A ks at w = (ls : List ℕ) × ((u : List ℕ) → closing A ks at (w ++ u) ≡ closing A ls (at + length w) u)

reach_on : (A ks ks' : List ℕ) (at y : ℕ) (w : List ℕ) → ((u : List ℕ) → closing A ks at (y ∷ u) ≡ closing A ks' (at + 1) u)
    → Reach A ks' (at + 1) w → Reach A ks at (y ∷ w)
reach_on A ks ks' at y w h r =
    let far : at + 1 + length w ≡ at + length (y ∷ w) = omega arith in
    (r.0, λ u. h (w ++ u) ∙ r.1 u ∙ ap (λ (n : ℕ). closing A r.0 n u) far)

reach_full : (A ks : List ℕ) (at y : ℕ) (w u : List ℕ) (b : Bool) → eqb y bar ≡ b
    → pick b (closing A ks (at + 1) u) (Err (Bars (Children at))) ≡ Ok tt → (closing A ks (at + 1) u ≡ Ok tt → Reach A ks (at + 1) w)
    → Reach A (0 ∷ ks) at (y ∷ w)
reach_full A ks at y w u true q e on = reach_on A (0 ∷ ks) ks at y w (λ t. closing_full A ks at y t true q) (on e)
reach_full A ks at y w u false q e on = absurd (clash _ _ e refl)

reach_lack : (A : List ℕ) (k : ℕ) (ks : List ℕ) (at y : ℕ) (w u : List ℕ) (b c : Bool) → eqb y bar ≡ b → symbol A y ≡ c
    → pick b (Err (Bars (Children at))) (pick c (closing A (get_or A y 0 ∷ (k ∷ ks)) (at + 1) u) (Err (Row (Misread (Stray at))))) ≡ Ok tt
    → (closing A (get_or A y 0 ∷ (k ∷ ks)) (at + 1) u ≡ Ok tt → Reach A (get_or A y 0 ∷ (k ∷ ks)) (at + 1) w)
    → Reach A (suc k ∷ ks) at (y ∷ w)
reach_lack A k ks at y w u true c q r e on = absurd (clash _ _ e refl)
reach_lack A k ks at y w u false true q r e on =
    reach_on A (suc k ∷ ks) (get_or A y 0 ∷ (k ∷ ks)) at y w (λ t. closing_lack A k ks at y t false true q r) (on e)
reach_lack A k ks at y w u false false q r e on = absurd (clash _ _ e refl)

reach : (A w ks : List ℕ) (at : ℕ) (u : List ℕ) → closing A ks at (w ++ u) ≡ Ok tt → Reach A ks at w
reach A [] ks at u e = (ks, λ t. ap (λ (n : ℕ). closing A ks n t) (sym (add-zero at)))
reach A (y ∷ w) [] at u e = absurd (clash _ _ e (closing_none A at y (w ++ u)))
reach A (y ∷ w) (zero ∷ ks) at u e =
    reach_full A ks at y w (w ++ u) (eqb y bar) refl (sym (closing_full A ks at y (w ++ u) (eqb y bar) refl) ∙ e) (λ h. reach A w ks (at + 1) u h)
reach A (y ∷ w) (suc k ∷ ks) at u e =
    reach_lack A k ks at y w (w ++ u) (eqb y bar) (symbol A y) refl refl (sym (closing_lack A k ks at y (w ++ u) (eqb y bar) (symbol A y) refl refl) ∙ e)
    (λ h. reach A w (get_or A y 0 ∷ (k ∷ ks)) (at + 1) u h)

-- so what begins a bar form is read up to a state
abbrev ReadUpTo : List ℕ → List ℕ → Type 0
ReadUpTo A w = (ks : List ℕ) × State A w ks

read_root : (A : List ℕ) (y : ℕ) (w u : List ℕ) (b c : Bool) → eqb y bar ≡ b → symbol A y ≡ c
    → pick b (Err (Bars (NothingOpen 0))) (pick c (closing A (get_or A y 0 ∷ []) 1 (w ++ u)) (Err (Row (Misread (Stray 0))))) ≡ Ok tt
    → ReadUpTo A (y ∷ w)
read_root A y w u true c q r e = absurd (clash _ _ e refl)
read_root A y w u false true q r e =
    let o = reach A w (get_or A y 0 ∷ []) 1 u e in
    let far : 1 + length w ≡ length (y ∷ w) = omega arith in
    (o.0, λ t. root_here A (y ∷ (w ++ t)) (omega arith) false true q r ∙ o.1 t ∙ ap (λ (n : ℕ). closing A o.0 n t) far)
read_root A y w u false false q r e = absurd (clash _ _ e refl)

read_up_to : (A w : List ℕ) → Sound A → 0 < length w → Begins A w → ReadUpTo A w
read_up_to A [] good some b = absurd (omega arith)
read_up_to A (y ∷ w) good some b =
    read_root A y w b.0 (eqb y bar) (symbol A y) refl refl
    (sym (root_here A (y ∷ (w ++ b.0)) (omega arith) (eqb y bar) (symbol A y) refl refl) ∙ rooted_of_bars A (y ∷ (w ++ b.0)) (symbols_most A good) b.1)

-- what a state excludes
module _ (A : List ℕ) (good : Sound A) (w : List ℕ) where
  goes_on : (ks : List ℕ) (y : ℕ) → State A w ks → (b : Begins A (w ++ (y ∷ []))) → closing A ks (length w) (y ∷ b.0) ≡ Ok tt
  goes_on ks y h b =
      sym (h (y ∷ b.0)) ∙ ap (rooted A) (sym (append_assoc w (y ∷ []) b.0)) ∙ rooted_of_bars A ((w ++ (y ∷ [])) ++ b.0) (symbols_most A good) b.1

  none_next : (y : ℕ) → State A w [] → Begins A (w ++ (y ∷ [])) → ⊥
  none_next y h b = clash _ _ (goes_on [] y h b) (closing_none A (length w) y b.0)

  no_child : (ks : List ℕ) → State A w (0 ∷ ks) → ChildDue A w → ⊥
  no_child ks h d =
      clash _ _ (goes_on (0 ∷ ks) d.0 h d.2)
      (closing_full A ks (length w) d.0 d.2.0 false (no_bar A d.0 (symbols_most A good) (lt→ltb d.0 (length A) d.1)))

  no_close : (k : ℕ) (ks : List ℕ) → State A w (suc k ∷ ks) → BarDue A w → ⊥
  no_close k ks h b =
      clash _ _ (goes_on (suc k ∷ ks) bar h b) (closing_lack A k ks (length w) bar b.0 true (symbol A bar) (eq-eqb bar bar refl) refl)

  -- the state where a child is due, and where the bar is
  child_state : 0 < length w → ChildDue A w → (k : ℕ) × (ks : List ℕ) × State A w (suc k ∷ ks)
  child_state some d =
      let o = read_up_to A w good some (begins_before A w _ d.2) in
      go o.0 o.1
    where
      go : (ks : List ℕ) → State A w ks → (k : ℕ) × (ls : List ℕ) × State A w (suc k ∷ ls)
      go [] h = absurd (none_next d.0 h d.2)
      go (zero ∷ ks) h = absurd (no_child ks h d)
      go (suc k ∷ ks) h = (k, ks, h)

  bar_state : 0 < length w → BarDue A w → (ks : List ℕ) × State A w (0 ∷ ks)
  bar_state some b =
      let o = read_up_to A w good some (begins_before A w _ b) in
      go o.0 o.1
    where
      go : (ks : List ℕ) → State A w ks → (ls : List ℕ) × State A w (0 ∷ ls)
      go [] h = absurd (none_next bar h b)
      go (zero ∷ ks) h = (ks, h)
      go (suc k ∷ ks) h = absurd (no_close k ks h b)

  -- the state behind a whole bar form
  whole_state : 0 < length w → IsBars A w → State A w []
  whole_state some b =
      let o = read_up_to A w good some ([], subst (IsBars A) (sym (append-nil w)) b) in
      go o.0 o.1
    where
      go : (ks : List ℕ) → State A w ks → State A w []
      go [] h = h
      go (k ∷ ks) h =
          absurd (clash (rooted A w) _ (rooted_of_bars A w (symbols_most A good) b) (ap (rooted A) (sym (append-nil w)) ∙ h [] ∙ closing_end A k ks (length w)))

pub one_due : OneDue
one_due A v good some b open-yet =
    let o = read_up_to A v good some b in
    go o.0 o.1
  where
    go : (ks : List ℕ) → State A v ks → (ChildDue A v × (BarDue A v → ⊥)) ⊎ (BarDue A v × (ChildDue A v → ⊥))
    go [] h = absurd (open-yet (state_whole A v h))
    go (zero ∷ ks) h = inr (state_bar A good v ks h, no_child A good v ks h)
    go (suc k ∷ ks) h = inl (state_child A good v k ks h, no_close A good v k ks h)

-- a list with a number at position p
cut : (v : List ℕ) (p : ℕ) → p < length v → v ≡ take p v ++ (get_or v p 0 ∷ drop (p + 1) v)
cut v p h = sym (take-append-drop p v) ∙ ap (λ (l : List ℕ). take p v ++ l) (drop_more v p h)

module _ (A v : List ℕ) (p : ℕ) (h : p < length v) where
  long : length (take p v) ≡ p
  long = length-take-le p v (omega arith)

  -- what is read at position p
  read_at : (ks : List ℕ) → State A (take p v) ks → rooted A v ≡ closing A ks p (get_or v p 0 ∷ drop (p + 1) v)
  read_at ks s =
      ap (rooted A) (cut v p h)
      ∙ s (get_or v p 0 ∷ drop (p + 1) v)
      ∙ ap (λ (n : ℕ). closing A ks n (get_or v p 0 ∷ drop (p + 1) v)) long

-- a refusal at the number behind w, told of the whole list
module _ (w : List ℕ) (y : ℕ) (u v : List ℕ) (s : w ++ (y ∷ u) ≡ v) (p : ℕ) (q : length w ≡ p) where
  at_below : p < length v
  at_below = omega (arith, length-append w (y ∷ u), ap length s)

  at_here : get_or v p 0 ≡ y
  at_here = ap₂ (λ (l : List ℕ) (n : ℕ). get_or l n 0) (sym s) (sym q) ∙ get_or-append_seam w y u 0

  at_front : w ≡ take p v
  at_front = sym (take-append_seam w (y ∷ u)) ∙ ap₂ take q s

-- 70
abbrev Over : List ℕ → List ℕ → ℕ → Type 0
Over A v p = (p < length v) × (((p ≡ 0) × (get_or v 0 0 ≡ bar)) ⊎ IsBars A (take p v))

over_of : (A v : List ℕ) (p : ℕ) → Told A v (Bars (NothingOpen p)) → Over A v p
over_of A v p (ended b e) = let z : ◌≡◌ {A = ℕ} 0 1 = cc in absurd (omega arith)
over_of A v p (fails w y u s b f (bar-first n q e)) =
    let same : length w ≡ p = cc in
    let first : p ≡ 0 = sym same ∙ n in
    (at_below w y u v s p same, inl (first, ap (λ (k : ℕ). get_or v k 0) (sym first) ∙ at_here w y u v s p same ∙ q))
over_of A v p (fails w y u s b f (passed d e)) =
    let same : length w ≡ p = cc in
    (at_below w y u v s p same, inr (subst (IsBars A) (at_front w y u v s p same) d))
over_of A v p (fails w y u s b f (early n q d e)) = let z : ◌≡◌ {A = ℕ} 0 1 = cc in absurd (omega arith)
over_of A v p (fails w y u s b f (extra n q d e)) = let z : ◌≡◌ {A = ℕ} 0 1 = cc in absurd (omega arith)
over_of A v p (fails w y u s b f (stray q l d e)) = let z : ◌≡◌ {A = ℕ} 0 1 = cc in absurd (omega arith)

some_form : (A v : List ℕ) → IsBars A v → 0 < length v
unfolding bar_form
some_form A v b = omega (arith, ap length b.reads)

of_over : (A v : List ℕ) (p : ℕ) → Sound A → p < length v → ((p ≡ 0) × (get_or v 0 0 ≡ bar)) ⊎ IsBars A (take p v)
    → rooted A v ≡ Err (Bars (NothingOpen p))
of_over A v p good h (inl z) = root_bar A v (omega arith) z.1 ∙ ap (λ (n : ℕ). Err (Bars (NothingOpen n))) (sym z.0)
of_over A v p good h (inr b) =
    read_at A v p h [] (whole_state A good (take p v) (some_form A (take p v) b) b) ∙ closing_none A p (get_or v p 0) (drop (p + 1) v)

pub nothing_is_open : NothingIsOpen
nothing_is_open A v p good some = (λ e. over_of A v p (told A good _ v some e), λ o. of_over A v p good o.0 o.1)

-- 71
abbrev Wrong : List ℕ → List ℕ → ℕ → Type 0
Wrong A v p = (p < length v) × (0 < p) × (((get_or v p 0 ≡ bar) × ChildDue A (take p v)) ⊎ ((get_or v p 0 ≡ bar → ⊥) × BarDue A (take p v)))

wrong_of : (A v : List ℕ) (p : ℕ) → Told A v (Bars (Children p)) → Wrong A v p
wrong_of A v p (ended b e) = let z : ◌≡◌ {A = ℕ} 0 1 = cc in absurd (omega arith)
wrong_of A v p (fails w y u s b f (bar-first n q e)) = let z : ◌≡◌ {A = ℕ} 0 1 = cc in absurd (omega arith)
wrong_of A v p (fails w y u s b f (passed d e)) = let z : ◌≡◌ {A = ℕ} 0 1 = cc in absurd (omega arith)
wrong_of A v p (fails w y u s b f (early n q d e)) =
    let same : length w ≡ p = cc in
    (at_below w y u v s p same, omega (arith, n), inl (at_here w y u v s p same ∙ q, subst (ChildDue A) (at_front w y u v s p same) d))
wrong_of A v p (fails w y u s b f (extra n q d e)) =
    let same : length w ≡ p = cc in
    (at_below w y u v s p same, omega (arith, n), inr (λ o. q (sym (at_here w y u v s p same) ∙ o), subst (BarDue A) (at_front w y u v s p same) d))
wrong_of A v p (fails w y u s b f (stray q l d e)) = let z : ◌≡◌ {A = ℕ} 0 1 = cc in absurd (omega arith)

of_wrong : (A v : List ℕ) (p : ℕ) → Sound A → p < length v → 0 < p
    → ((get_or v p 0 ≡ bar) × ChildDue A (take p v)) ⊎ ((get_or v p 0 ≡ bar → ⊥) × BarDue A (take p v)) → rooted A v ≡ Err (Bars (Children p))
of_wrong A v p good h some (inl d) =
    let o = child_state A good (take p v) (omega (arith, long A v p h)) d.1 in
    read_at A v p h (suc o.0 ∷ o.1) o.2
    ∙ closing_lack A o.0 o.1 p (get_or v p 0) (drop (p + 1) v) true (symbol A (get_or v p 0)) (eq-eqb _ _ d.0) refl
of_wrong A v p good h some (inr d) =
    let o = bar_state A good (take p v) (omega (arith, long A v p h)) d.1 in
    read_at A v p h (0 ∷ o.0) o.1 ∙ closing_full A o.0 p (get_or v p 0) (drop (p + 1) v) false (ne_eqb _ _ d.0)

pub wrong_children : WrongChildren
wrong_children A v p good some = (λ e. wrong_of A v p (told A good _ v some e), λ o. of_wrong A v p good o.0 o.1 o.2)

-- 7
abbrev Strays : List ℕ → List ℕ → ℕ → Type 0
Strays A v p = (p < length v) × (get_or v p 0 ≡ bar → ⊥) × (length A ≤ get_or v p 0) × ChildDue A (take p v)

strays_of : (A v : List ℕ) (p : ℕ) → Told A v (Row (Misread (Stray p))) → Strays A v p
strays_of A v p (ended b e) = let z : ◌≡◌ {A = ℕ} 0 1 = cc in absurd (omega arith)
strays_of A v p (fails w y u s b f (bar-first n q e)) = let z : ◌≡◌ {A = ℕ} 0 1 = cc in absurd (omega arith)
strays_of A v p (fails w y u s b f (passed d e)) = let z : ◌≡◌ {A = ℕ} 0 1 = cc in absurd (omega arith)
strays_of A v p (fails w y u s b f (early n q d e)) = let z : ◌≡◌ {A = ℕ} 0 1 = cc in absurd (omega arith)
strays_of A v p (fails w y u s b f (extra n q d e)) = let z : ◌≡◌ {A = ℕ} 0 1 = cc in absurd (omega arith)
strays_of A v p (fails w y u s b f (stray q l d e)) =
    let same : length w ≡ p = cc in
    let here = at_here w y u v s p same in
    (at_below w y u v s p same, λ o. q (sym here ∙ o), omega (arith, here, l), subst (ChildDue A) (at_front w y u v s p same) d)

of_strays : (A v : List ℕ) (p : ℕ) → Sound A → Strays A v p → rooted A v ≡ Err (Row (Misread (Stray p)))
of_strays A v zero good d = root_stray A v d.0 d.1 d.2
of_strays A v (suc p) good d =
    let o = child_state A good (take (suc p) v) (omega (arith, long A v (suc p) d.0)) d.3 in
    read_at A v (suc p) d.0 (suc o.0 ∷ o.1) o.2
    ∙ closing_lack A o.0 o.1 (suc p) (get_or v (suc p) 0) (drop (suc p + 1) v) false false (ne_eqb _ _ d.1) (le-ltb _ _ d.2)

pub stray_child : StrayChild
stray_child A v p good some = (λ e. strays_of A v p (told A good _ v some e), of_strays A v p good)

-- 72
open_of : (A v : List ℕ) (p : ℕ) → Told A v (Bars (Unclosed p)) → (p ≡ length v) × Begins A v
open_of A v p (ended b e) =
    let same : length v ≡ p = cc in
    (sym same, b)
open_of A v p (fails w y u s b f (bar-first n q e)) = let z : ◌≡◌ {A = ℕ} 0 1 = cc in absurd (omega arith)
open_of A v p (fails w y u s b f (passed d e)) = let z : ◌≡◌ {A = ℕ} 0 1 = cc in absurd (omega arith)
open_of A v p (fails w y u s b f (early n q d e)) = let z : ◌≡◌ {A = ℕ} 0 1 = cc in absurd (omega arith)
open_of A v p (fails w y u s b f (extra n q d e)) = let z : ◌≡◌ {A = ℕ} 0 1 = cc in absurd (omega arith)
open_of A v p (fails w y u s b f (stray q l d e)) = let z : ◌≡◌ {A = ℕ} 0 1 = cc in absurd (omega arith)

open_end : (A v ks : List ℕ) → State A v ks → (IsBars A v → ⊥) → rooted A v ≡ Err (Bars (Unclosed (length v)))
open_end A v [] h n = absurd (n (state_whole A v h))
open_end A v (k ∷ ks) h n = ap (rooted A) (sym (append-nil v)) ∙ h [] ∙ closing_end A k ks (length v)

pub ends_open : EndsOpen
ends_open A v p good some = (
  λ e.
      let o = open_of A v p (told A good _ v some e) in
      (o.0, o.1, λ b. clash (rooted A v) _ (rooted_of_bars A v (symbols_most A good) b) e),
  λ o.
      let s = read_up_to A v good some o.1 in
      open_end A v s.0 s.1 o.2 ∙ ap (λ (n : ℕ). Err (Bars (Unclosed n))) (sym o.0),
)
