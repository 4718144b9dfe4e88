-- The promises of specs/Promises, proved.
-- Assumes nothing.
use Rattle.std.specs.Prelude.{Result, Ok, Err, ⊤}
use Prim.Native.Nat.{ℕ, zero, suc, ◌+◌, ◌≤◌}
use mathlib.Core.Path.{◌≡◌, refl, sym, ap, ◌∙◌}
use mathlib.Core.List.{List, [], ◌∷◌, ◌++◌, append-nil, map}
use mathlib.Core.Bool.{Bool, true, false}
use mathlib.Core.Logic.{◌⊎◌, inl, inr}
use native.Mathlib.Omega.{arith}
use lib.Dec.{leb}
use lib.ListN.{length}
use borrow.Author.Tests.{leb-true, leb-false}
use Rattle.rows.specs.Programme.{alphabet_of}
use Rattle.rows.specs.declared.Refusal.{Refusal}
use Rattle.rows.specs.declared.Refusal.TheVariants.{Input}
use Rattle.rows.specs.declared.Text.TheVariants.{Line, Bytes}
use Rattle.patterns.specs.Answers.{Listed}
use Rattle.patterns.specs.Walk.{list_of}
use Rattle.patterns.proofs.Listing.{listed_once}
use Rattle.decimal.specs.Lines.{line, Small}
use Rattle.decimal.proofs.Promises.{one_line}
use Rattle.decimal.proofs.Deciding.{Lined, line?}
use Rattle.seek_print.specs.Print.{refusal_text, count_text}
use Rattle.seek_text.specs.Seek.{input_most, Says, Faulty, Faulty.here, Faulty.later, Faulty.extra, InputRefused, InputRefused.long, InputRefused.faulty, seek_check, line_text, joined, Prints, Prints.input_refused, Prints.lists_refused, Prints.lists_searched}
use Rattle.seek_text.specs.Pages.{lines_of}
use Rattle.seek_text.specs.Promises.{TextSays, InputAccepted, SeekOne, PagesWhole}
use Rattle.seek_text.proofs.Finding.{fine_listed}
use Rattle.seek_text.proofs.Paging.{pages_from}

module _ (n i : ℕ) (b ns z : List ℕ) (small : Small ns) (e : b ≡ line ns ++ z) where
  -- a fault of a text that begins with a line stands behind it
  fault_behind : {k : ℕ} → Faulty (suc n) i b k → Faulty n (i + 1) z k
  fault_behind (here h) = absurd (h ns z small e)
  fault_behind (later ms y s f g) = rw (one_line ns ms z y (sym e ∙ f)).1 g

one_fault : (n i : ℕ) (b : List ℕ) {k j : ℕ} → Faulty n i b k → Faulty n i b j → k ≡ j
one_fault zero i b (extra h) (extra g) = refl
one_fault (suc n) i b (here h) (here g) = refl
one_fault (suc n) i b (here h) (later ns z s e g) = absurd (h ns z s e)
one_fault (suc n) i b (later ns z s e f) g = one_fault n (i + 1) z f (fault_behind n i b ns z s e g)

-- a text that says three lists has no faulty line
says_fine : {b A w q : List ℕ} {k : ℕ} → Says b A w q → Faulty 3 1 b k → ⊥
says_fine {b} {A} {w} {q} {k} s f =
    let f₁ = fault_behind 2 1 b A (line w ++ line q) s.arities s.text f in
    let f₂ = fault_behind 1 2 (line w ++ line q) w (line q) s.row refl f₁ in
    none_extra (fault_behind 0 3 (line q) q [] s.pattern (sym (append-nil (line q))) f₂)
  where
    none_extra : {i : ℕ} {k : ℕ} → Faulty 0 i [] k → ⊥
    none_extra (extra h) = omega arith

pub text_says : TextSays
text_says b A w q A' w' q' s t =
    let l₁ = one_line A A' (line w ++ line q) (line w' ++ line q') (sym s.text ∙ t.text) in
    let l₂ = one_line w w' (line q) (line q') l₁.1 in
    let l₃ = one_line q q' [] [] (append-nil (line q) ∙ l₂.1 ∙ sym (append-nil (line q'))) in
    (l₁.0, l₂.0, l₃.0)

says_short : {b A w q : List ℕ} {r : Refusal} → Says b A w q → length b ≤ input_most → InputRefused b r → ⊥
says_short s h (long l) = omega arith
says_short s h (faulty l f) = says_fine s f

-- a text that should be n lines of numbers, counted from i on, has a first faulty line
record Fault (n i : ℕ) (b : List ℕ) : Type 0 where
  at : ℕ
  fault : Faulty n i b at

-- or it begins with the first line, and what is told of the rest tells it
module _ {P : Type 0} (n i : ℕ) (b : List ℕ) where
  line_first : ((l : Lined b) → P ⊎ Fault n (i + 1) l.rest) → P ⊎ Fault (suc n) i b
  line_first f = go (line? b)
    where
      behind : (l : Lined b) → P ⊎ Fault n (i + 1) l.rest → P ⊎ Fault (suc n) i b
      behind l (inl p) = inl p
      behind l (inr k) = inr (record { at = k.at; fault = later l.numbers l.rest l.small l.text k.fault })

      go : Lined b ⊎ (Lined b → ⊥) → P ⊎ Fault (suc n) i b
      go (inl l) = behind l (f l)
      go (inr h) = inr (record { at = i; fault = here (λ ns z s e. h (record { numbers = ns; rest = z; small = s; text = e })) })

-- the three lists that a text says
abbrev Lists : List ℕ → Type 0
Lists b = (A w q : List ℕ) × Says b A w q

-- a text says three lists, or has a first faulty line
says_or_faulty : (b : List ℕ) → Lists b ⊎ Fault 3 1 b
says_or_faulty b = line_first 2 1 b (λ l. line_first 1 2 l.rest (λ m. line_first 0 3 m.rest (λ n. last l m n n.rest refl)))
  where
    last : (l : Lined b) (m : Lined l.rest) (n : Lined m.rest) (z : List ℕ) → n.rest ≡ z → Lists b ⊎ Fault 0 4 n.rest
    last l m n [] e =
        inl (
          l.numbers,
          m.numbers,
          n.numbers,
          record {
            arities = l.small;
            row = m.small;
            pattern = n.small;
            text = l.text ∙ ap (λ x. line l.numbers ++ x) (m.text ∙ ap (λ x. line m.numbers ++ x) (n.text ∙ ap (λ x. line n.numbers ++ x) e ∙ append-nil (line n.numbers)));
          },
        )
    last l m n (d ∷ z) e = inr (record { at = 4; fault = extra {b = n.rest} (rw e (omega arith)) })

-- an input is accepted, or the program refuses it
abbrev Taken : List ℕ → Type 0
Taken b = ((length b ≤ input_most) × Lists b) ⊎ ((r : Refusal) × InputRefused b r)

taken : (b : List ℕ) → Taken b
taken b = go (leb (length b) input_most) refl
  where
    short : length b ≤ input_most → Lists b ⊎ Fault 3 1 b → Taken b
    short h (inl l) = inl (h, l)
    short h (inr k) = inr (Input (Line k.at), faulty h k.fault)

    go : (t : Bool) → leb (length b) input_most ≡ t → Taken b
    go true e = short (leb-true _ _ e) (says_or_faulty b)
    go false e = inr (Input Bytes, long (leb-false _ _ e))

pub input_accepted : InputAccepted
input_accepted b = (λ h. accepted h (taken b), λ h r f. says_short h.1.3 h.0 f)
  where
    accepted : ((r : Refusal) → InputRefused b r → ⊥) → Taken b → (length b ≤ input_most) × Lists b
    accepted h (inl l) = l
    accepted h (inr f) = absurd (h f.0 f.1)

one_refusal : {b : List ℕ} {r s : Refusal} → InputRefused b r → InputRefused b s → r ≡ s
one_refusal (long h) (long g) = refl
one_refusal (long h) (faulty g f) = absurd (omega arith)
one_refusal (faulty h f) (long g) = absurd (omega arith)
one_refusal (faulty h f) (faulty g e) = ap (λ k. Input (Line k)) (one_fault 3 1 _ f e)

refused_once : (A w q A' w' q' : List ℕ) (r r' : Refusal) → A ≡ A' → w ≡ w' → q ≡ q'
    → seek_check A w q ≡ Err r → seek_check A' w' q' ≡ Err r' → r ≡ r'
refused_once A w q A' w' q' r r' a b c e f = cc

never_both : (A w q A' w' q' : List ℕ) (r : Refusal) → A ≡ A' → w ≡ w' → q ≡ q'
    → seek_check A w q ≡ Err r → seek_check A' w' q' ≡ Ok tt → ⊥
never_both A w q A' w' q' r a b c e f = let z : ◌≡◌ {A = ℕ} 0 1 = cc in omega arith

settled : (b o o' : List ℕ) → Prints b o → Prints b o' → o ≡ o'
settled b o o' (input_refused x) (input_refused y) = ap refusal_text (one_refusal x y)
settled b o o' (input_refused x) (lists_refused A w q h s e) = absurd (says_short s h x)
settled b o o' (input_refused x) (lists_searched A w q ps h s e l) = absurd (says_short s h x)
settled b o o' (lists_refused A w q h s e) (input_refused y) = absurd (says_short s h y)
settled b o o' (lists_refused A w q h s e) (lists_refused A' w' q' h' s' e') =
    let t = text_says b A w q A' w' q' s s' in
    ap refusal_text (refused_once A w q A' w' q' _ _ t.0 t.1 t.2 e e')
settled b o o' (lists_refused A w q h s e) (lists_searched A' w' q' ps h' s' e' l) =
    let t = text_says b A w q A' w' q' s s' in
    absurd (never_both A w q A' w' q' _ t.0 t.1 t.2 e e')
settled b o o' (lists_searched A w q ps h s e l) (input_refused y) = absurd (says_short s h y)
settled b o o' (lists_searched A w q ps h s e l) (lists_refused A' w' q' h' s' e') =
    let t = text_says b A' w' q' A w q s' s in
    absurd (never_both A' w' q' A w q _ t.0 t.1 t.2 e' e)
settled b o o' (lists_searched A w q ps h s e l) (lists_searched A' w' q' ps' h' s' e' l') =
    let t = text_says b A w q A' w' q' s s' in
    let m : Listed (alphabet_of A) w q (length w) ps' = rw (t.0, t.1, t.2) l' in
    let p : ps ≡ ps' = listed_once (alphabet_of A) w q (length w) ps ps' l m in
    rw (t.0, t.1, t.2, p)

-- some text is printed
printed : (b : List ℕ) → (o : List ℕ) × Prints b o
printed b = go (taken b)
  where
    searched : (A w q : List ℕ) → length b ≤ input_most → Says b A w q → (c : Result ⊤ Refusal) → seek_check A w q ≡ c → (o : List ℕ) × Prints b o
    searched A w q h s (Ok _) e = (count_text (length (list_of (alphabet_of A) w q)) ++ joined (map (line_text A w q) (list_of (alphabet_of A) w q)), lists_searched A w q (list_of (alphabet_of A) w q) h s e (fine_listed A w q e))
    searched A w q h s (Err r) e = (refusal_text r, lists_refused A w q h s e)

    go : Taken b → (o : List ℕ) × Prints b o
    go (inl l) = searched l.1.0 l.1.1 l.1.2 l.0 l.1.3 (seek_check l.1.0 l.1.1 l.1.2) refl
    go (inr f) = (refusal_text f.0, input_refused f.1)

pub seek_one : SeekOne
seek_one b =
    let o = printed b in
    record { some = o.0; holds = o.1; only = λ x h. settled b x o.0 h o.1 }

pub pages_whole : PagesWhole
pages_whole b r n y z a p = rw (pages_from (lines_of r n y) 0 z (omega arith) p) a
