-- What the contracts of the calls tell, answer by answer.
-- Assumes nothing.
use Rattle.std.specs.Prelude.{Bool, true, false, ℤ, Result, Ok, Err, ⊤}
use Prim.Native.Nat.{ℕ, ◌-◌, ◌<◌, ◌≤◌}
use mathlib.Core.Path.{◌≡◌, refl, sym, ap, ap₂, ◌∙◌, subst}
use mathlib.Core.List.{List}
use lib.ListN.{length, take, drop}
use Rattle.rows.specs.Limits.{span_places}
use Rattle.rows.specs.Programme.{Alphabet, Programme}
use Rattle.rows.specs.Buffers.{written, after}
use Rattle.rows.specs.declared.Refusal.{Refusal}
use Rattle.rows.proofs.Buffers.{written-front, written_behind}
use Rattle.rows.proofs.Passing.{clash}
use Rattle.patterns.specs.Answers.{MatchesAt, Listed, spans}
use Rattle.patterns.specs.Walk.{list_of}
use Rattle.patterns.proofs.Promises.{walk_lists, spans_long}
use Rattle.checks.specs.Checks.{find_check, plain_check}
use Rattle.checks.proofs.Passing.{search_checked}
use Rattle.sparrowhem.specs.Build.{built, Built}
use Rattle.sparrowhem.specs.Search.{found, Finds, Binds}
use Rattle.sparrowhem.specs.Edit.{Replacement}
use Rattle.sparrowhem.specs.Parts.{LiesAt, NewestSays, newest_part, NewestLies, NewerPart, NewerLies}
use Rattle.sparrowhem.specs.Plain.{PlainSays}
use Rattle.sparrowhem.specs.declared.parts.Newest.{Newest}
use Rattle.sparrowhem.specs.declared.parts.Newest.TheVariants.{Corrected, OnRecord, Nowhere}
use Rattle.sparrowhem.proofs.Preferring.{match_within, match_part, one_answer}
use Rattle.sparrowhem.proofs.Searching.{finds_list, finds_matches, finds_kept, binds_walk, binds_tells}

-- ---- two outcomes are equal

pub build_settled : (a : Alphabet) (P : Programme) (r q : Result ⊤ Refusal) (P' Q' : Programme) → Built a P r P' → Built a P q Q' → (r ≡ q) × (P' ≡ Q')
build_settled a P r q P' Q' b c = (b.answer ∙ sym c.answer, b.lists ∙ sym c.lists)

pub find_computed : (a : Alphabet) (P : Programme) (q y : List ℕ) (r : Result ℕ Refusal) (y' : List ℕ) → Finds a P q y r y'
    → (r ≡ found (find_check a P q (length (list_of a P.row q)) (length y)) (length (list_of a P.row q)))
    × (y' ≡ after (find_check a P q (length (list_of a P.row q)) (length y)) (written y 0 (list_of a P.row q)) y)
find_computed a P q y r y' f = finds_list a P q y r y' f (list_of a P.row q) (λ e. walk_lists a P q (search_checked a P q e))

pub find_settled : (a : Alphabet) (P : Programme) (q y : List ℕ) (r s : Result ℕ Refusal) (y' z' : List ℕ) → Finds a P q y r y' → Finds a P q y s z' → (r ≡ s) × (y' ≡ z')
find_settled a P q y r s y' z' f g =
    let h = find_computed a P q y r y' f in
    let k = find_computed a P q y s z' g in
    (h.0 ∙ sym k.0, h.1 ∙ sym k.1)

pub variables_settled : (a : Alphabet) (P : Programme) (q : List ℕ) (p : ℕ) (y : List ℕ) (r s : Result Bool Refusal) (y' z' : List ℕ)
    → Binds a P q p y r y' → Binds a P q p y s z' → (r ≡ s) × (y' ≡ z')
variables_settled a P q p y r s y' z' f g =
    let h = binds_walk a P q p y r y' f in
    let k = binds_walk a P q p y s z' g in
    (h.0 ∙ sym k.0, h.1 ∙ sym k.1)

pub replace_settled : (a : Alphabet) (P : Programme) (n : ℕ) (v : List ℕ) (p : ℕ) (r s : Result (ℕ × ℤ) Refusal) (P' Q' : Programme)
    → Replacement a P n v p r P' → Replacement a P n v p s Q' → (r ≡ s) × (P' ≡ Q')
replace_settled a P n v p r s P' Q' f g = (f.answer ∙ sym g.answer, f.lists ∙ sym g.lists)

pub lies_settled : (row : ℕ × ℕ) (b : ℕ) (x y : ℕ × ℕ) → LiesAt row b x → LiesAt row b y → x ≡ y
lies_settled row b x y h k = λ i. ((h.0 ∙ sym k.0) i, (h.1 ∙ sym k.1) i)

pub newer_answers : (a : Alphabet) (P O : Programme) (q x : List ℕ) (r : Result Newest Refusal) → NewerPart a P O q x → NewestSays a P O q r → x ≡ newest_part a P O r
newer_answers a P O q x r h k = h.part ∙ ap (newest_part a P O) (one_answer a P O q h.answer r h.says k)

pub newer_settled : (a : Alphabet) (P O : Programme) (q x y : List ℕ) → NewerPart a P O q x → NewerPart a P O q y → x ≡ y
newer_settled a P O q x y h k = newer_answers a P O q x k.answer h k.says ∙ sym k.part

pub newer_place_settled : (a : Alphabet) (P O : Programme) (q : List ℕ) (corrected older x y : ℕ × ℕ)
    → NewerLies a P O q corrected older x → NewerLies a P O q corrected older y → x ≡ y
newer_place_settled a P O q corrected older x y h k =
    go k.answer (subst (λ (r : Result Newest Refusal). NewestLies r corrected older x) (one_answer a P O q h.answer k.answer h.says k.says) h.lies) k.lies
  where
    go : (r : Result Newest Refusal) → NewestLies r corrected older x → NewestLies r corrected older y → x ≡ y
    go (Ok (Corrected p e)) l m = lies_settled corrected p x y l m
    go (Ok (OnRecord p e)) l m = lies_settled older p x y l m
    go (Ok Nowhere) l m = lies_settled corrected 0 x y l m
    go (Err r) l m = lies_settled corrected 0 x y l m

pub plain_settled : (a : Alphabet) (w q : List ℕ) (p : ℕ) (r s : Result Bool Refusal) → PlainSays a w q p r → PlainSays a w q p s → r ≡ s
plain_settled a w q p (Ok true) (Ok true) h k = refl
plain_settled a w q p (Ok true) (Ok false) h k = absurd (k.1 h.1)
plain_settled a w q p (Ok true) (Err y) h k = absurd (clash _ y h.0 k)
plain_settled a w q p (Ok false) (Ok true) h k = absurd (h.1 k.1)
plain_settled a w q p (Ok false) (Ok false) h k = refl
plain_settled a w q p (Ok false) (Err y) h k = absurd (clash _ y h.0 k)
plain_settled a w q p (Err y) (Ok true) h k = absurd (clash _ y k.0 h)
plain_settled a w q p (Err y) (Ok false) h k = absurd (clash _ y k.0 h)
plain_settled a w q p (Err y) (Err z) h k = let x : y ≡ z = cc (sym h ∙ k) in ap Err x

-- ---- what an answer tells

pub build_fine : (a : Alphabet) (P P' : Programme) → Built a P (Ok tt) P' → P' ≡ built a P
build_fine a P P' b = b.lists ∙ ap (λ (c : Result ⊤ Refusal). after c (built a P) P) (sym b.answer)

pub build_kept : (a : Alphabet) (P : Programme) (r : Refusal) (P' : Programme) → Built a P (Err r) P' → P' ≡ P
build_kept a P r P' b = b.lists ∙ ap (λ (c : Result ⊤ Refusal). after c (built a P) P) (sym b.answer)

pub find_all : (a : Alphabet) (P : Programme) (q y : List ℕ) (n : ℕ) (y' : List ℕ) → Finds a P q y (Ok n) y'
    → Listed a P.row q (length P.row) (take n y') × (n ≤ length y) × (drop n y' ≡ drop n y)
find_all a P q y n y' f =
    let m = finds_matches a P q y (Ok n) y' f n refl in
    let ps = f.positions in (
      subst (Listed a P.row q (length P.row)) (sym (ap₂ take m.many m.wrote ∙ written-front y ps)) (f.listed m.checked),
      m.room,
      ap₂ drop m.many m.wrote ∙ written_behind y ps ∙ ap (λ (k : ℕ). drop k y) (sym m.many),
    )

pub find_kept : (a : Alphabet) (P : Programme) (q y : List ℕ) (r : Refusal) (y' : List ℕ) → Finds a P q y (Err r) y' → y' ≡ y
find_kept a P q y r y' f = finds_kept a P q y (Err r) y' f r refl

pub variables_matched : (a : Alphabet) (P : Programme) (q : List ℕ) (p : ℕ) (y y' : List ℕ) → Binds a P q p y (Ok true) y'
    → MatchesAt a P.row q p × (take span_places y' ≡ spans a.arities P.row q p) × (drop span_places y' ≡ drop span_places y)
variables_matched a P q p y y' f =
    let A : List ℕ = a.arities in
    let w : List ℕ = P.row in
    let m = binds_tells a P q p y (Ok true) y' f in
    let long = spans_long A w q p in (
      m.0,
      ap (take span_places) m.1 ∙ ap (λ (k : ℕ). take k (written y 0 (spans A w q p))) (sym long) ∙ written-front y (spans A w q p),
      ap (drop span_places) m.1 ∙ ap (λ (k : ℕ). drop k (written y 0 (spans A w q p))) (sym long) ∙ written_behind y (spans A w q p) ∙ ap (λ (k : ℕ). drop k y) long,
    )

pub variables_unmatched : (a : Alphabet) (P : Programme) (q : List ℕ) (p : ℕ) (y y' : List ℕ) → Binds a P q p y (Ok false) y'
    → (MatchesAt a P.row q p → ⊥) × (y' ≡ y)
variables_unmatched a P q p y y' f = binds_tells a P q p y (Ok false) y' f

pub variables-kept : (a : Alphabet) (P : Programme) (q : List ℕ) (p : ℕ) (y : List ℕ) (r : Refusal) (y' : List ℕ) → Binds a P q p y (Err r) y' → y' ≡ y
variables-kept a P q p y r y' f = binds_tells a P q p y (Err r) y' f

pub newer_lies : (a : Alphabet) (P O : Programme) (q x : List ℕ) (p e : ℕ) → NewerPart a P O q x
    → (NewestSays a P O q (Ok (Corrected p e)) → (p < e) × (e ≤ length P.row) × (x ≡ take (e - p) (drop p P.row)))
    × (NewestSays a P O q (Ok (OnRecord p e)) → (p < e) × (e ≤ length O.row) × (x ≡ take (e - p) (drop p O.row)))
newer_lies a P O q x p e h = (
  λ k. (let b = match_within a P.row q p e k.1 in (b.0, b.1, newer_answers a P O q x (Ok (Corrected p e)) h k ∙ sym (match_part a P.row q p e k.1))),
  λ k. (let b = match_within a O.row q p e k.2 in (b.0, b.1, newer_answers a P O q x (Ok (OnRecord p e)) h k ∙ sym (match_part a O.row q p e k.2))),
)

pub plain_yes : (a : Alphabet) (w q : List ℕ) (p : ℕ) (r : Result Bool Refusal) → PlainSays a w q p r
    → (r ≡ Ok true → (plain_check a w q p ≡ Ok tt) × MatchesAt a w q p) × ((plain_check a w q p ≡ Ok tt) × MatchesAt a w q p → r ≡ Ok true)
plain_yes a w q p r h = (λ e. subst (PlainSays a w q p) e h, λ m. plain_settled a w q p r (Ok true) h m)
