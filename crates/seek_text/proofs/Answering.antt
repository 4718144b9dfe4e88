-- The three lists of an input as parts of the buffer that holds them, and the answer for them.
-- Assumes nothing.
use Prim.Native.Nat.{ℕ, ◌+◌, ◌-◌, ◌≤◌}
use mathlib.Core.Path.{◌≡◌, refl, sym, ap, ◌∙◌}
use mathlib.Core.List.{List, [], ◌∷◌, ◌++◌, append_assoc, append-nil, map}
use native.Mathlib.Omega.{arith}
use lib.ListN.{length, take, drop, length-append}
use lib.Seq.{take_at, drop_at, drop-drop, length-take-le}
use Rattle.rows.specs.Buffers.{written}
use Rattle.rows.specs.declared.Refusal.{Refusal}
use Rattle.std.specs.Prelude.{Ok, Err}
use Rattle.rows.proofs.Buffers.{length-written}
use Rattle.seek_print.specs.Print.{refusal_text, count_text}
use Rattle.seek_text.specs.Seek.{Says, seek_check, line_text, joined, Prints, Prints.lists_refused, Prints.lists_searched}
use Rattle.seek_text.specs.Pages.{Answered}
use Rattle.seek_text.specs.Inside.{ListsRead, MatchesFound, Printable}
use Rattle.seek_text.specs.declared.search.Found.{Found}

-- a refusal is one line
pub one_line_printed : (b : List ℕ) (r : Refusal) → Prints b (refusal_text r) → Prints b (joined (refusal_text r ∷ []))
unfolding joined
one_line_printed b r h = rw (append-nil (refusal_text r)) h

module _ (b y : List ℕ) (a e p : ℕ) (n : List ℕ) (l : ListsRead b y a e p n) where
  -- what stands behind the lists
  rest : List ℕ
  rest = drop (0 + length (l.arities ++ (l.row ++ l.pattern))) y

  whole : n ≡ l.arities ++ (l.row ++ (l.pattern ++ rest))
  unfolding written rest
  whole = l.buffer ∙ append_assoc l.arities (l.row ++ l.pattern) rest ∙ ap (λ z. l.arities ++ z) (append_assoc l.row l.pattern rest)

  behind : drop a n ≡ l.row ++ (l.pattern ++ rest)
  behind = ap (drop a) whole ∙ drop_at l.arities (l.row ++ (l.pattern ++ rest)) a (sym l.arities_end)

  arities_part : take a n ≡ l.arities
  arities_part = ap (take a) whole ∙ take_at l.arities (l.row ++ (l.pattern ++ rest)) a (sym l.arities_end)

  row_part : take (e - a) (drop a n) ≡ l.row
  row_part = ap (take (e - a)) behind ∙ take_at l.row (l.pattern ++ rest) (e - a) (omega (arith, l.arities_end, l.row_end))

  pattern_part : take (p - e) (drop e n) ≡ l.pattern
  pattern_part =
      let f : a + length l.row ≡ e = omega (arith, l.arities_end, l.row_end) in
      let d : drop e n ≡ l.pattern ++ rest = ap (λ k. drop k n) (sym f) ∙ sym (drop-drop (length l.row) a n) ∙ ap (drop (length l.row)) behind ∙ drop_at l.row (l.pattern ++ rest) (length l.row) refl in
      ap (take (p - e)) d ∙ take_at l.pattern rest (p - e) (omega (arith, l.row_end, l.pattern_end))

  -- the places rise, within the buffer
  pub places : (a ≤ e) × (e ≤ p) × (p ≤ length n)
  places =
      let m : length (l.arities ++ (l.row ++ l.pattern)) ≡ length l.arities + (length l.row + length l.pattern) = simp length-append in
      let z = ap length l.buffer ∙ length-written y 0 (l.arities ++ (l.row ++ l.pattern)) (omega (arith, l.within, l.pattern_end)) in (
        omega (arith, l.arities_end, l.row_end),
        omega (arith, l.row_end, l.pattern_end),
        omega (arith, l.within),
      )

  said : Says b (take a n) (take (e - a) (drop a n)) (take (p - e) (drop e n))
  said = rw (arities_part, row_part, pattern_part) l.says

  pub answer_refused : (r : Refusal) → seek_check (take a n) (take (e - a) (drop a n)) (take (p - e) (drop e n)) ≡ Err r → Prints b (joined (refusal_text r ∷ []))
  answer_refused r h = one_line_printed b r (lists_refused (take a n) (take (e - a) (drop a n)) (take (p - e) (drop e n)) l.short said h)

  -- the lists, and k matches
  abbrev found : ℕ → Found
  found k = record { lists = record { arities = a; row = e; pattern = p }; count = k }

  pub answer_found : (k : ℕ) (t c z : List ℕ) → MatchesFound (take a n) (take (e - a) (drop a n)) (take (p - e) (drop e n)) k t c z → Answered b (Ok (found k)) n z × Printable (Ok (found k)) n t c z
  unfolding joined
  answer_found k t c z m =
      let s = places in
      let w = take (e - a) (drop a n) in
      let q = take (p - e) (drop e n) in
      let x : Prints b (count_text (length (take k z)) ++ joined (map (line_text (take a n) w q) (take k z))) = lists_searched (take a n) w q (take k z) l.short said m.fine m.ready.listed in
      (rw (length-take-le k z m.count) at x, record { row_after = s.0; pattern-after = s.1; within = s.2; count = m.count; few = m.few; ready = m.ready })
