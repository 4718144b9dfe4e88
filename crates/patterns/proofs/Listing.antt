-- Lists of matches: there is one for each bound, and one only; how it grows.
-- Assumes nothing.
use Prim.Native.Nat.{ℕ, zero, suc, ◌+◌, ◌≤◌, ◌<◌}
use mathlib.Core.Path.{◌≡◌, refl, sym, ap, subst, subst₂}
use mathlib.Core.Logic.{⊎_elim}
use mathlib.Core.List.{List, [], ◌∷◌, ◌++◌, append-nil, Memᴰ}
use mathlib.Core.Bool.{Bool, true, false}
use native.Mathlib.Omega.{arith}
use native.Mathlib.Numerals.{add-one}
use native.Mathlib.Decide.{dec_lt, ℕ_discrete}
use lib.ListN.{get_or, length, length-append, get_or-append}
use lib.Seq.{get_or_at}
use Rattle.rows.specs.Programme.{Alphabet, Programme}
use Rattle.rows.specs.Row.{pick}
use Rattle.patterns.specs.Answers.{MatchesAt, Listed}
use Rattle.patterns.specs.Searchable.{Checked}
use Rattle.patterns.specs.Walk.{comes_through, below}
use Rattle.patterns.proofs.Matching.{right}

-- LISTS THAT RISE
abbrev pub Rises : List ℕ → Type 0
Rises ps = (i : ℕ) → i + 1 < length ps → get_or ps i 0 < get_or ps (i + 1) 0

pub mem_at : (ps : List ℕ) (i : ℕ) → i < length ps → Memᴰ (get_or ps i 0) ps
mem_at [] i h = absurd (omega arith)
mem_at (x ∷ ps) zero h = mathlib.Core.List.Memᴰ.head refl
mem_at (x ∷ ps) (suc i) h = mathlib.Core.List.Memᴰ.tail (mem_at ps i (omega arith))

rises_tail : (x : ℕ) (ps : List ℕ) → Rises (x ∷ ps) → Rises ps
rises_tail x ps r i h =
    subst₂ (λ (a b : ℕ). get_or (x ∷ ps) a 0 < get_or (x ∷ ps) b 0) (add-one i) (add-one (i + 1)) (r (i + 1) (omega arith))

-- the first is below all others
least : (x : ℕ) (ps : List ℕ) → Rises (x ∷ ps) → (z : ℕ) → Memᴰ z ps → x < z
least x [] r z m = absurd (mathlib.Core.List.Memᴰ.not-nil m)
least x (y ∷ ps) r z m =
    let h : x < y = r 0 (omega arith) in
    ⊎_elim (λ (e : z ≡ y). omega arith) (λ (m : Memᴰ z ps). omega (arith, least y ps (rises_tail x (y ∷ ps) r) z m)) (mathlib.Core.List.Memᴰ.cases_cons m)

-- two that rise and have the same numbers are equal
rises_once : (ps qs : List ℕ) → Rises ps → Rises qs → ((x : ℕ) → Memᴰ x ps → Memᴰ x qs) → ((x : ℕ) → Memᴰ x qs → Memᴰ x ps) → ps ≡ qs
rises_once [] [] r s f g = refl
rises_once [] (y ∷ qs) r s f g = absurd (mathlib.Core.List.Memᴰ.not-nil (g y (mathlib.Core.List.Memᴰ.head refl)))
rises_once (x ∷ ps) [] r s f g = absurd (mathlib.Core.List.Memᴰ.not-nil (f x (mathlib.Core.List.Memᴰ.head refl)))
rises_once (x ∷ ps) (y ∷ qs) r s f g =
    let a : y ≤ x = ⊎_elim (λ (e : x ≡ y). omega arith) (λ (m : Memᴰ x qs). omega (arith, least y qs s x m)) (mathlib.Core.List.Memᴰ.cases_cons (f x (mathlib.Core.List.Memᴰ.head refl))) in
    let b : x ≤ y = ⊎_elim (λ (e : y ≡ x). omega arith) (λ (m : Memᴰ y ps). omega (arith, least x ps r y m)) (mathlib.Core.List.Memᴰ.cases_cons (g y (mathlib.Core.List.Memᴰ.head refl))) in
    let same : x ≡ y = omega arith in
    let tails : ps ≡ qs =
    rises_once ps qs (rises_tail x ps r) (rises_tail y qs s)
    (λ z m. ⊎_elim (λ (e : z ≡ y). absurd (omega (arith, least x ps r z m, e, same))) (λ (m : Memᴰ z qs). m) (mathlib.Core.List.Memᴰ.cases_cons (f z (mathlib.Core.List.Memᴰ.tail m))))
    (λ z m. ⊎_elim (λ (e : z ≡ x). absurd (omega (arith, least y qs s z m, e, same))) (λ (m : Memᴰ z ps). m) (mathlib.Core.List.Memᴰ.cases_cons (g z (mathlib.Core.List.Memᴰ.tail m)))) in
    cc

-- one more, past all others
rises_more : (ps : List ℕ) (n : ℕ) → Rises ps → ((x : ℕ) → Memᴰ x ps → x < n) → Rises (ps ++ (n ∷ []))
rises_more ps n r s i h = go (dec_lt (i + 1) (length ps))
  where
    long : length (ps ++ (n ∷ [])) ≡ length ps + 1
    long = length-append ps (n ∷ [])

    inside : i < length ps
    inside = omega (arith, long)

    go : Dec (i + 1 < length ps) → get_or (ps ++ (n ∷ [])) i 0 < get_or (ps ++ (n ∷ [])) (i + 1) 0
    go (yes l) = rw (get_or-append ps (n ∷ []) 0 i inside, get_or-append ps (n ∷ []) 0 (i + 1) l) (r i l)
    go (no l) = rw (get_or-append ps (n ∷ []) 0 i inside, get_or_at ps n [] 0 (i + 1) (omega (arith, long))) (s (get_or ps i 0) (mem_at ps i inside))

-- LISTS OF MATCHES
module _ (a : Alphabet) (w q : List ℕ) where
  pub listed_none : Listed a w q 0 []
  listed_none = record { rises = λ i h. absurd (omega arith); exactly = λ p. (λ m. absurd (mathlib.Core.List.Memᴰ.not-nil m), λ h. absurd (omega (arith, h.0))) }

  pub listed_here : (n : ℕ) (ps : List ℕ) → Listed a w q n ps → MatchesAt a w q n → Listed a w q (n + 1) (ps ++ (n ∷ []))
  listed_here n ps l m =
      record {
        rises = rises_more ps n l.rises (λ x i. ((l.exactly x).0 i).0);
        exactly = λ p. (to p, back p);
      }
    where
      to : (p : ℕ) → Memᴰ p (ps ++ (n ∷ [])) → (p < n + 1) × MatchesAt a w q p
      to p i =
          ⊎_elim (λ (i : Memᴰ p ps). (let h = (l.exactly p).0 i in (omega (arith, h.0), h.1)))
          (λ (i : Memᴰ p (n ∷ [])). (let e : p ≡ n = mathlib.Core.List.Memᴰ.eq_of_singleton i in (omega arith, subst (λ (k : ℕ). MatchesAt a w q k) (sym e) m)))
          (mathlib.Core.List.Memᴰ.append_cases ps i)

      back : (p : ℕ) → (p < n + 1) × MatchesAt a w q p → Memᴰ p (ps ++ (n ∷ []))
      back p h = go (ℕ_discrete p n)
        where
          go : Dec (p ≡ n) → Memᴰ p (ps ++ (n ∷ []))
          go (yes e) = mathlib.Core.List.Memᴰ.append_right ps (mathlib.Core.List.Memᴰ.head e)
          go (no e) = mathlib.Core.List.Memᴰ.append_left (n ∷ []) ((l.exactly p).1 (omega (arith, h.0, e), h.1))

  pub listed_skip : (n m : ℕ) (ps : List ℕ) → Listed a w q n ps → n ≤ m → ((p : ℕ) → n ≤ p → p < m → MatchesAt a w q p → ⊥) → Listed a w q m ps
  listed_skip n m ps l h none =
      record { rises = l.rises; exactly = λ p. (λ i. (let x = (l.exactly p).0 i in (omega (arith, x.0), x.1)), λ x. go p x (dec_lt p n)) }
    where
      go : (p : ℕ) → (p < m) × MatchesAt a w q p → Dec (p < n) → Memᴰ p ps
      go p x (yes k) = (l.exactly p).1 (k, x.1)
      go p x (no k) = absurd (none p (omega arith) x.0 x.1)

  -- two lists of the matches below one bound are equal
  pub listed_once : (n : ℕ) (ps qs : List ℕ) → Listed a w q n ps → Listed a w q n qs → ps ≡ qs
  listed_once n ps qs k l =
      rises_once ps qs k.rises l.rises (λ x i. (l.exactly x).1 ((k.exactly x).0 i)) (λ x i. (k.exactly x).1 ((l.exactly x).0 i))

module _ (a : Alphabet) (P : Programme) (q : List ℕ) (c : Checked a P q) where
  -- the list that the walk computes
  pub listing : (n : ℕ) → n ≤ length P.row → Listed a P.row q n (below (comes_through P.row P.table q) n)
  unfolding below
  listing zero h = listed_none a P.row q
  listing (suc n) h = go (comes_through P.row P.table q n) refl (listing n (omega arith))
    where
      go : (b : Bool) → comes_through P.row P.table q n ≡ b → Listed a P.row q n (below (comes_through P.row P.table q) n)
          → Listed a P.row q (suc n) (below (comes_through P.row P.table q) n ++ pick b (n ∷ []) [])
      go true z l =
          subst (λ (k : ℕ). Listed a P.row q k (below (comes_through P.row P.table q) n ++ (n ∷ []))) (add-one n)
          (listed_here a P.row q n _ l ((right a P q c n (omega arith)).0 z))
      go false z l =
          rw (append-nil (below (comes_through P.row P.table q) n))
          (listed_skip a P.row q n (suc n) _ l (omega arith)
          (λ p from to m. (let y = (right a P q c p (omega arith)).1 m in let same : p ≡ n = omega arith in let x : ◌≡◌ {A = ℕ} 0 1 = cc (ap (comes_through P.row P.table q) same) in omega arith)))
