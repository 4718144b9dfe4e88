-- A stretch of the row: its candidates, and the matches among them.
use Rattle.std.proofs.Common.{◌≡◌, ℕ, ◌+◌, ◌-◌, ◌≤◌, ◌<◌, Bool, true, false, List, [], ◌++◌, length, get_or, take, drop, sym, ap, ◌∙◌, arith, append-nil}
use mathlib.Core.Path.{subst}
use Rattle.std.proofs.lemmas.List.{length-drop}
use lib.Seq.{drop-drop, take_all}
use lib.ListN.{drop_of_length-le}
use borrow.Rule.Slice.PartMut.{put_mid}
use Rattle.rows.specs.Programme.{Programme}
use Rattle.rows.specs.Buffers.{written}
use Rattle.patterns.specs.Searchable.{BlankFrom}
use Rattle.patterns.specs.Walk.{same_symbol, comes_through}
use Rattle.patterns.proofs.Matching.{checked_ends, checked_classes}
use Rattle.searches.specs.declared.Outline.{Outline}
use Rattle.searches.specs.Searches.{Seekable, Stretched, Twin, Paired, may_match, range, passing, twins, Kept}
use Rattle.searches.proofs.Passing.{passing_each}
use Rattle.searches.proofs.Searching.{may_same, may_not, root_through}
use Rattle.searches.proofs.Keeping.{kept-alike, candidates_kept, candidates_all}
use Rattle.searches.proofs.Twins.{first_in, second_in, twins-walk}

module _ (P : Programme) (q : List ℕ) (o : Outline) (k : Seekable P q o) (from to : ℕ) (t : Stretched from to (length P.row)) where
  -- the test of the walk, and that of the candidates
  abbrev walks : ℕ → Bool
  walks = comes_through P.row P.table q

  abbrev may : ℕ → Bool
  may = may_match P.row P.table (get_or q 0 0) o.size

  -- each position of the stretch lies in the row
  inside : (x : ℕ) → x < from + (to - from) → x < length P.row
  inside x u = omega (arith, u, t.on, t.within)

  -- where the pattern cannot match, the walk does not come through
  implied : (x : ℕ) → from ≤ x → x < from + (to - from) → may x ≡ false → walks x ≡ false
  implied x l u = may_not P q k.searchable x (inside x u) o.size k.outlined.size k.symbol

  -- and where only the root is compared, it comes through where the pattern can match
  also : o.compared ≡ 1 → (x : ℕ) → from ≤ x → x < from + (to - from) → may x ≡ true → walks x ≡ true
  also one x l u e =
      root_through P q k.searchable x (inside x u) (may_same P q k.searchable x (inside x u) o.size e) (subst (BlankFrom q) one k.outlined.compared)

  module _ (many : ℕ) (places : List ℕ) (front : take many places ≡ passing may (range from (to - from))) where
    -- each candidate lies in the row, and the root stands there
    pub each : (i : ℕ) → i < length (take many places)
        → (get_or (take many places) i 0 < length P.row) × (same_symbol (get_or P.row (get_or (take many places) i 0) 0) (get_or q 0 0) ≡ true)
    each i h =
        rw front
        (let told = passing_each may from (to - from) i (rw front at h) in
        (inside _ told.1, may_same P q k.searchable _ (inside _ told.1) o.size told.2))

    -- over a variable twice, two subtrees stand there
    pub paired : Twin q → (i : ℕ) → i < length (take many places) → Paired P.table P.classes (get_or (take many places) i 0)
    paired tw i h =
        let e = each i h in
        let p = get_or (take many places) i 0 in
        let ends = checked_ends k.searchable.0 P q k.searchable.1 in
        let room = (checked_classes k.searchable.0 P q k.searchable.1).long in
        record {
          first = omega (arith, first_in P q k.searchable tw p e.0 e.1, ends.long);
          first_class = omega (arith, first_in P q k.searchable tw p e.0 e.1, room);
          second_class = omega (arith, second_in P q k.searchable tw p e.0 e.1, room);
        }

    -- all candidates are matches
    pub all_kept : o.compared ≡ 1 → (y v : List ℕ) → length (take many places) ≡ many → v ≡ take many places → Kept walks (range from (to - from)) y 0 many (v ++ drop many y)
    unfolding written
    all_kept one y v size e =
        let all = candidates_all walks y may from (to - from) many places front implied (also one) in
        let n : many ≡ length (passing walks (range from (to - from))) = sym size ∙ ap length all in
        record { end = omega (arith, n); buffer = rw (e, all) (ap (λ (m : ℕ). passing walks (range from (to - from)) ++ drop m y) (omega (arith, n))) }

    -- the matches among them were kept
    pub those_kept : (y y' : List ℕ) (r : ℕ) → Kept walks (take many places) y 0 r y' → Kept walks (range from (to - from)) y 0 r y'
    those_kept y y' r = candidates_kept walks y may from (to - from) many places front implied 0 r y'

    -- by the classes of the two subtrees
    pub twins_kept : Twin q → (y y' : List ℕ) (r : ℕ) → Kept (twins P.table P.classes) (take many places) y 0 r y' → Kept walks (range from (to - from)) y 0 r y'
    twins_kept tw y y' r h =
        those_kept y y' r
        (kept-alike walks y (twins P.table P.classes) (take many places) 0 r y' (λ i l. let e = each i l in twins-walk P q k.searchable tw (get_or (take many places) i 0) e.0 e.1) h)

-- what was kept at the front of what is left of a buffer
pub kept_behind : (f : ℕ → Bool) (ps y : List ℕ) (n r : ℕ) (y' : List ℕ) → n ≤ length y → Kept f ps (take (length y - n) (drop n y)) 0 r y'
    → Kept f ps y n (n + r) (put_mid n (length y - n) y y')
unfolding written
kept_behind f ps y n r y' h k =
    let whole : take (length y - n) (drop n y) ≡ drop n y = take_all (length y - n) (drop n y) (omega (arith, length-drop n y)) in
    let none : drop (length y - n) (drop n y) ≡ [] = drop_of_length-le (drop n y) {i = length y - n} (omega (arith, length-drop n y)) in
    let xs : List ℕ = passing f ps in
    record {
      end = omega (arith, k.end);
      buffer = rw (none, append-nil y') (ap (◌++◌ (take n y)) (k.buffer ∙ rw whole (ap (◌++◌ xs) (drop-drop (0 + length xs) n y ∙ ap (λ (m : ℕ). drop m y) (omega arith)))));
    }
