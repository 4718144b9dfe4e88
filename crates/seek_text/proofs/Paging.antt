-- The lines of a response: the line of a match, one line more on a page, and the whole page by page.
-- Assumes nothing.
use Rattle.std.specs.Prelude.{Result, Ok, Err, ⊤}
use Prim.Native.Nat.{ℕ, zero, suc, ◌+◌, ◌-◌, ◌≤◌, ◌<◌}
use mathlib.Core.Path.{◌≡◌, refl, sym, ap, ◌∙◌}
use mathlib.Core.List.{List, [], ◌∷◌, ◌++◌, append_assoc, append-nil, map}
use mathlib.Core.Logic.{◌⊎◌, inl, inr}
use native.Mathlib.Numerals.{add-one}
use native.Mathlib.Omega.{arith}
use lib.ListN.{length, get_or, take, drop, length-drop, drop_of_length-le, take-append-drop}
use lib.Seq.{length-take-le, take-suc, get_or-take, get_or-drop, drop-length, drop-drop}
use Rattle.rows.specs.Limits.{span_places}
use Rattle.rows.specs.Programme.{Alphabet, alphabet_of}
use Rattle.rows.specs.Buffers.{written}
use Rattle.rows.proofs.Buffers.{written-front}
use Rattle.patterns.specs.Answers.{MatchesAt, spans}
use Rattle.patterns.proofs.Promises.{spans_long}
use Rattle.searches.specs.Searches.{VariablesAt}
use Rattle.patterns.proofs.Listing.{mem_at}
use Rattle.decimal.specs.Inside.{Printed}
use Rattle.decimal.proofs.Writing.{printed_none, printed_more}
use Rattle.seek_print.specs.Inside.{line_most}
use Rattle.seek_text.specs.Seek.{line_text, joined}
use Rattle.seek_text.specs.Pages.{lines_of, PagePrinted, Pages, Pages.done, Pages.page}
use Rattle.seek_text.specs.Inside.{Holds}
use Rattle.seek_text.specs.declared.search.Found.{Found}

-- at a match the spans fill a buffer that has begin and end of each variable
pub spans_fill : (a : Alphabet) (w q : List ℕ) (p : ℕ) (y : List ℕ) (r : Result ⊤ (ℕ × ℕ)) (y' : List ℕ) → length y ≡ span_places → MatchesAt a w q p → VariablesAt a w q p y r y'
    → y' ≡ spans a.arities w q p
unfolding written
spans_fill a w q p y (Ok _) y' h m b =
    let s = spans a.arities w q p in
    b.buffer ∙ rw (drop_of_length-le y {i = 0 + length s} (omega (arith, spans_long a.arities w q p)), append-nil s)
spans_fill a w q p y (Err (k, j)) y' h m b = absurd (b.answer.0 m)

length-map : (f : ℕ → List ℕ) (ps : List ℕ) → length (map f ps) ≡ length ps
length-map f [] = refl
length-map f (p ∷ ps) = ap suc (length-map f ps)

get_d_map : (f : ℕ → List ℕ) (ps : List ℕ) (i : ℕ) → i < length ps → get_or (map f ps) i [] ≡ f (get_or ps i 0)
get_d_map f [] i h = absurd (omega arith)
get_d_map f (p ∷ ps) zero h = refl
get_d_map f (p ∷ ps) (suc i) h = get_d_map f ps i (omega arith)

module _ (f : Found) (n t c y : List ℕ) (h : Holds f n t c y) where
  abbrev a : ℕ
  a = f.lists.arities

  abbrev e : ℕ
  e = f.lists.row

  abbrev p : ℕ
  p = f.lists.pattern

  abbrev k : ℕ
  k = f.count

  -- the count and the matches
  pub lines_many : length (lines_of (Ok f) n y) ≡ k + 1
  lines_many = ap suc (length-map _ (take k y) ∙ length-take-le k y h.count) ∙ sym (add-one k)

  -- a line that is not the first is a match's: its position stands in the buffer, and the pattern matches there
  pub record Located (i : ℕ) : Type 0 where
    pub within : get_or y (i - 1) 0 < length (take (e - a) (drop a n))
    pub matches : MatchesAt (alphabet_of (take a n)) (take (e - a) (drop a n)) (take (p - e) (drop e n)) (get_or y (i - 1) 0)
    pub line : get_or (lines_of (Ok f) n y) i [] ≡ line_text (take a n) (take (e - a) (drop a n)) (take (p - e) (drop e n)) (get_or y (i - 1) 0)

  pub located : (i : ℕ) → 0 < i → i ≤ k → Located i
  located zero l m = absurd (omega arith)
  located (suc i) l m =
      let d : suc i - 1 ≡ i = omega arith in
      let s : length (take k y) ≡ k = length-take-le k y h.count in
      let g : get_or (take k y) i 0 ≡ get_or y (suc i - 1) 0 = get_or-take k y i 0 (omega arith) ∙ ap (λ j. get_or y j 0) (sym d) in
      let x = rw g at ((h.ready.listed.exactly (get_or (take k y) i 0)).0 (mem_at (take k y) i (omega arith))) in
      record { within = x.0; matches = x.1; line = get_d_map _ (take k y) i (omega arith) ∙ rw g }

-- lines, and then others behind them
joined-append : (ls ms : List (List ℕ)) → joined (ls ++ ms) ≡ joined ls ++ joined ms
unfolding joined
joined-append [] ms = refl
joined-append (l ∷ ls) ms = rw (joined-append ls ms, append_assoc)

-- the part of the lines from `first` on that was printed, with one more
part_more : (ls : List (List ℕ)) (first i : ℕ) → first ≤ i → i < length ls
    → take (i + 1 - first) (drop first ls) ≡ take (i - first) (drop first ls) ++ (get_or ls i [] ∷ [])
part_more ls first i h k =
    let e : i + 1 - first ≡ suc (i - first) = omega arith in
    let f : first + (i - first) ≡ i = omega arith in
    rw (e, take-suc (drop first ls) (i - first) [] (rw length-drop (omega arith)), get_or-drop first ls (i - first) [], f)

-- the lines from number `first` up to i stand at the front of the buffer b, which was b₀, up to place `at`
pub record Paged (ls : List (List ℕ)) (first : ℕ) (b₀ b : List ℕ) (at i : ℕ) : Type 0 where
  pub on : first ≤ i
  pub within : i ≤ length ls
  pub size : length b ≡ length b₀
  pub room : at ≤ length b₀
  pub begun : i ≡ first → at ≡ 0
  pub text : Printed b₀ 0 (joined (take (i - first) (drop first ls))) at b

pub paged_none : (ls : List (List ℕ)) (first : ℕ) (b : List ℕ) → first ≤ length ls → Paged ls first b b 0 first
unfolding joined
paged_none ls first b h =
    let e : first - first ≡ 0 = omega arith in
    record {
      on = omega arith;
      within = h;
      size = refl;
      room = omega arith;
      begun = λ _. refl;
      text = rw e (printed_none b 0);
    }

module _ (ls : List (List ℕ)) (first : ℕ) (b₀ b : List ℕ) (at i : ℕ) (s : Paged ls first b₀ b at i) where
  pub paged_more : (r : ℕ) (b' : List ℕ) → i < length ls → length b' ≡ length b → Printed b at (get_or ls i []) r b' × (r ≤ length b) → Paged ls first b₀ b' r (i + 1)
  unfolding joined
  paged_more r b' h k l =
      let o = s.on in
      let z = s.size in
      let e : joined (take (i + 1 - first) (drop first ls)) ≡ joined (take (i - first) (drop first ls)) ++ get_or ls i []
      = ap joined (part_more ls first i o h) ∙ joined-append (take (i - first) (drop first ls)) (get_or ls i [] ∷ []) ∙ ap (λ m. joined (take (i - first) (drop first ls)) ++ m) (append-nil (get_or ls i [])) in
      record {
        on = omega arith;
        within = omega arith;
        size = k ∙ z;
        room = omega (arith, l.1);
        begun = λ e. absurd (omega arith);
        text = rw e (printed_more s.room s.text l.0);
      }

  -- the page is full, or all is printed
  pub page_printed : line_most ≤ length b₀ → (length ls ≤ i) ⊎ (length b - at < line_most) → PagePrinted ls first (record { next = i; bytes = at }) b
  page_printed h e =
      let o = s.on in
      let z = s.size in
      let p = s.text in
      let n : at ≡ length (joined (take (i - first) (drop first ls))) = omega (arith, p.next) in
      record {
        on = o;
        more = λ l. (let m : i ≡ first → ⊥ = λ x. full (s.begun x) x l e in omega arith);
        within = s.within;
        bytes = omega (arith, s.room);
        text = rw (n, p.buffer) (written-front b₀ (joined (take (i - first) (drop first ls))));
      }
    where
      full : at ≡ 0 → i ≡ first → first < length ls → (length ls ≤ i) ⊎ (length b - at < line_most) → ⊥
      full x y l (inl k) = omega arith
      full x y l (inr k) = omega (arith, s.size)

-- pages from a line on are the lines from there on
pub pages_from : (ls : List (List ℕ)) (first : ℕ) (z : List ℕ) → first ≤ length ls → Pages ls first z → z ≡ joined (drop first ls)
unfolding joined
pages_from ls first z h done = rw (drop-length ls)
pages_from ls first z h (page {z = y} p b g f) =
    let k : first + (p.next - first) ≡ p.next = omega (arith, g.on) in
    let m : drop (p.next - first) (drop first ls) ≡ drop p.next ls = drop-drop (p.next - first) first ls ∙ ap (λ i. drop i ls) k in
    rw (g.text, pages_from ls p.next y g.within f, ← m)
    (sym (joined-append (take (p.next - first) (drop first ls)) (drop (p.next - first) (drop first ls))) ∙ ap joined (take-append-drop (p.next - first) (drop first ls)))
