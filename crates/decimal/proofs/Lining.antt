-- A line at a position of a text, number by number: when it stands there, and when none does.
-- Assumes nothing.
use Prim.Native.Nat.{ℕ, ◌+◌, ◌≤◌, ◌<◌}
use mathlib.Core.Path.{◌≡◌, refl, sym, ap, ◌∙◌}
use mathlib.Core.List.{List, [], ◌∷◌, ◌++◌, append_assoc}
use mathlib.Core.Bool.{Bool, true, false}
use native.Mathlib.Nat.{add-zero}
use native.Mathlib.Omega.{arith}
use lib.Dec.{eqb}
use lib.ListN.{length, get_or, drop, set, length-append, length-drop, length-set}
use lib.Seq.{drop-drop, drop_at}
use borrow.Author.Tests.{eqb-true}
use Rattle.rows.specs.Buffers.{written}
use Rattle.decimal.specs.Lines.{numeral, number_most, following, line, Small}
use Rattle.decimal.specs.Inside.{ends_number, Stands, HasLine, LineRead, LineRoom}
use Rattle.decimal.specs.declared.Cursor.{Cursor}
use Rattle.decimal.proofs.Numerals.{numeral_some}
use Rattle.rows.proofs.Buffers.{length-written, written_nil, written_snoc}
use Rattle.decimal.proofs.Runs.{numeral-alone}
use Rattle.decimal.proofs.Reading.{inside, front, begins}

-- numbers with a space behind each
pub spaced : List ℕ → List ℕ
spaced [] = []
spaced (n ∷ ns) = numeral n ++ (32 ∷ spaced ns)

spaced_snoc : (ns : List ℕ) (n : ℕ) → spaced (ns ++ (n ∷ [])) ≡ spaced ns ++ (numeral n ++ (32 ∷ []))
unfolding spaced
spaced_snoc [] n = refl
spaced_snoc (m ∷ ns) n = rw (spaced_snoc ns n, append_assoc)

line_snoc : (ns : List ℕ) (n : ℕ) → line (ns ++ (n ∷ [])) ≡ spaced ns ++ (numeral n ++ (10 ∷ []))
unfolding spaced line following
line_snoc [] n = refl
line_snoc (m ∷ []) n = rw append_assoc
line_snoc (m ∷ k ∷ ns) n = rw append_assoc (ap (λ l. numeral m ++ (32 ∷ l)) (line_snoc (k ∷ ns) n))

small_snoc : (ns : List ℕ) (n : ℕ) → Small ns → n ≤ number_most → Small (ns ++ (n ∷ []))
unfolding Small
small_snoc [] n h k = (k, tt)
small_snoc (m ∷ ns) n h k = (h.0, small_snoc ns n h.1 k)

-- no number begins the text y
abbrev NoNumber : List ℕ → Type 0
NoNumber y = (n s : ℕ) (x : List ℕ) → n ≤ number_most → ends_number s ≡ true → y ≡ numeral n ++ (s ∷ x) → ⊥

no_numbers : (ns : List ℕ) (m : ℕ) (ms y z : List ℕ) → Small (m ∷ ms) → NoNumber y → numeral m ++ (following ms ++ z) ≡ spaced ns ++ y → ⊥
unfolding spaced following Small
no_numbers [] m [] y z s h e = h m 10 z s.0 refl (sym e)
no_numbers [] m (k ∷ ms) y z s h e = h m 32 _ s.0 refl (sym e)
no_numbers (n ∷ ns) m [] y z s h e =
    let q = numeral-alone m n 10 32 z (spaced ns ++ y) refl refl (e ∙ append_assoc (numeral n) (32 ∷ spaced ns) y) in
    omega (arith, q.byte)
no_numbers (n ∷ ns) m (k ∷ ms) y z s h e =
    let q = numeral-alone m n 32 32 ((numeral k ++ following ms) ++ z) (spaced ns ++ y) refl refl (e ∙ append_assoc (numeral n) (32 ∷ spaced ns) y) in
    no_numbers ns k ms y z s.1 h (sym (append_assoc (numeral k) (following ms) z) ∙ q.rest)

module _ (b : List ℕ) (at : ℕ) where
  none_stands : ((n end : ℕ) → Stands b at n end → ⊥) → NoNumber (drop at b)
  none_stands h n s x small ends e =
      let d : drop (at + length (numeral n)) b ≡ s ∷ x = sym (drop-drop (length (numeral n)) at b) ∙ ap (drop (length (numeral n))) e ∙ drop_at (numeral n) (s ∷ x) (length (numeral n)) refl in
      h n (at + length (numeral n)) (record {
        small = small;
        text = e ∙ ap (λ l. numeral n ++ l) (sym d);
        ended = ap ends_number (front b (at + length (numeral n)) s x d) ∙ ends;
      })

  -- the number, and the byte that ends it
  stands_tail : (n end : ℕ) → Stands b at n end → drop at b ≡ numeral n ++ (get_or b end 0 ∷ drop (end + 1) b)
  stands_tail n end s = s.text ∙ ap (λ l. numeral n ++ l) (begins b end (inside ends_number refl b end s.ended))

  pub stands_within : (n end : ℕ) → Stands b at n end → (at < end) × (end < length b)
  stands_within n end s =
      let w : end < length b = inside ends_number refl b end s.ended in
      let l = ap length s.text in
      (omega (arith, length-drop at b, length-append (numeral n) (drop end b), length-drop end b, numeral_some n), w)

-- no line stands where the numbers so far are followed by none
pub none_lines : (b : List ℕ) (start at : ℕ) (ns ms : List ℕ) (end : ℕ) → drop start b ≡ spaced ns ++ drop at b → (get_or b start 0 ≡ 10 → ⊥)
    → ((n e : ℕ) → Stands b at n e → ⊥) → HasLine b start ms end → ⊥
unfolding line
none_lines b start at ns [] end e h k l = h (front b start 10 _ l.text)
none_lines b start at ns (m ∷ ms) end e h k l =
    no_numbers ns m ms (drop at b) (drop end b) l.small (none_stands b at k)
    (sym (append_assoc (numeral m) (following ms) (drop end b)) ∙ sym l.text ∙ e)

-- an empty line
pub empty_line : (b : List ℕ) (c : Cursor) (y : List ℕ) (i : ℕ) → get_or b c.at 0 ≡ 10 → LineRead b c y i i (record { at = c.at + 1; line = c.line + 1 }) y
unfolding line Small
empty_line b c y i h =
    let w : c.at < length b = inside ends_number refl b c.at (rw h) in
    record {
      numbers = [];
      stands = record { small = tt; text = begins b c.at w ∙ rw h; within = omega arith };
      next = refl;
      count = sym (add-zero i);
      buffer = sym (written_nil y i);
    }

-- what was read of a line: the numbers stand in the buffer from place `first` on, and in the text with a space behind each
pub record Sofar (b y : List ℕ) (start first : ℕ) (y' : List ℕ) (at count : ℕ) : Type 0 where
  pub numbers : List ℕ
  pub small : Small numbers
  pub text : drop start b ≡ spaced numbers ++ drop at b
  pub many : count ≡ first + length numbers
  pub buffer : y' ≡ written y first numbers
  pub size : length y' ≡ length y
  pub room : length b ≤ length y + length y
  pub taken : count + count ≤ at
  pub behind : start ≤ at

pub sofar_none : (b : List ℕ) (c : Cursor) (y : List ℕ) (i : ℕ) → LineRoom b c y i → Sofar b y c.at i y c.at i
unfolding spaced Small
sofar_none b c y i r =
    record {
      numbers = [];
      small = tt;
      text = refl;
      many = sym (add-zero i);
      buffer = sym (written_nil y i);
      size = refl;
      room = r.buffer;
      taken = r.numbers;
      behind = omega arith;
    }

module _ (b y : List ℕ) (c : Cursor) (first : ℕ) (y' : List ℕ) (at count : ℕ) (s : Sofar b y c.at first y' at count) (n end : ℕ) (t : Stands b at n end) where
  -- the buffer with one number more
  grown : set y' count n ≡ written y first (s.numbers ++ (n ∷ []))
  grown =
      let w = stands_within b at n end t in
      rw (s.buffer, s.many) (written_snoc y first s.numbers n (omega (arith, s.many, s.size, s.room, s.taken)))

  counted : count + 1 ≡ first + length (s.numbers ++ (n ∷ []))
  counted = omega (arith, s.many, length-append s.numbers (n ∷ []))

  -- the text with the number and the byte that ends it
  joined : (d : ℕ) → get_or b end 0 ≡ d → drop c.at b ≡ (spaced s.numbers ++ (numeral n ++ (d ∷ []))) ++ drop (end + 1) b
  joined d e =
      s.text
      ∙ rw (append_assoc (spaced s.numbers) (numeral n ++ (d ∷ [])) (drop (end + 1) b), append_assoc (numeral n) (d ∷ []) (drop (end + 1) b), stands_tail b at n end t, e)

  pub line_read : get_or b end 0 ≡ 10 → LineRead b c y first (count + 1) (record { at = end + 1; line = c.line + 1 }) (set y' count n)
  line_read h =
      let w = stands_within b at n end t in
      record {
        numbers = s.numbers ++ (n ∷ []);
        stands = record {
          small = small_snoc s.numbers n s.small t.small;
          text = rw (line_snoc s.numbers n) (joined 10 h);
          within = omega arith;
        };
        next = refl;
        count = counted;
        buffer = grown;
      }

  pub sofar_more : (get_or b end 0 ≡ 10 → ⊥) → Sofar b y c.at first (set y' count n) (end + 1) (count + 1)
  sofar_more h =
      let w = stands_within b at n end t in
      let e : get_or b end 0 ≡ 32 = eqb-true (get_or b end 0) 32 (space (eqb (get_or b end 0) 32) refl) in
      record {
        numbers = s.numbers ++ (n ∷ []);
        small = small_snoc s.numbers n s.small t.small;
        text = rw (spaced_snoc s.numbers n) (joined 32 e);
        many = counted;
        buffer = grown;
        size = length-set y' count n ∙ s.size;
        room = s.room;
        taken = omega (arith, s.taken);
        behind = omega (arith, s.behind);
      }
    where
      space : (k : Bool) → eqb (get_or b end 0) 32 ≡ k → eqb (get_or b end 0) 32 ≡ true
      space true e = e
      space false e = absurd (h (eqb-true (get_or b end 0) 10 (rw e at t.ended)))

-- each number of a line takes two bytes at least
following_long : (ns : List ℕ) → length ns + length ns + 1 ≤ length (following ns)
unfolding following
following_long [] = omega arith
following_long (n ∷ ns) = rw length-append (omega (arith, following_long ns, numeral_some n))

pub line_long : (ns : List ℕ) → (length ns + length ns ≤ length (line ns)) × (0 < length (line ns))
unfolding line
line_long [] = (omega arith, omega arith)
line_long (n ∷ ns) =
    let f = following_long ns in
    let s = numeral_some n in
    (rw length-append (omega arith), rw length-append (omega arith))

module _ (b : List ℕ) (at : ℕ) where
  pub line_end : (ns : List ℕ) (end : ℕ) → HasLine b at ns end → end ≡ at + length (line ns)
  line_end ns end h =
      let l = ap length h.text in
      let m = line_long ns in
      omega (arith, h.within, length-drop at b, length-append (line ns) (drop end b), length-drop end b)

  -- a text that begins with a line has one
  pub line_begins : (ns z : List ℕ) → Small ns → drop at b ≡ line ns ++ z → HasLine b at ns (at + length (line ns))
  line_begins ns z small e =
      let l = ap length e in
      let m = line_long ns in
      record {
        small = small;
        text = e ∙ ap (λ r. line ns ++ r) (sym (sym (drop-drop (length (line ns)) at b) ∙ ap (drop (length (line ns))) e ∙ drop_at (line ns) z (length (line ns)) refl));
        within = omega (arith, length-drop at b, length-append (line ns) z);
      }

-- room for the next line's numbers
pub room_next : {b : List ℕ} {c : Cursor} {y : List ℕ} {i k : ℕ} {d : Cursor} {y' : List ℕ} → LineRoom b c y i → LineRead b c y i k d y'
    → LineRoom b d y' k × (k ≤ length y) × (length y' ≡ length y)
room_next {b} {c} {y} {i} {k} {d} {y'} r l =
    let e = line_end b c.at l.numbers d.at l.stands in
    let m = line_long l.numbers in
    let w = l.stands.within in
    let t = l.count in
    let k₁ : i + i ≤ c.at = r.numbers in
    let k₂ : length b ≤ length y + length y = r.buffer in
    let s : i + length l.numbers ≤ length y = omega arith in
    let z : length y' ≡ length y = ap length l.buffer ∙ length-written y i l.numbers s in (
      record {
        numbers = omega arith;
        buffer = omega arith;
        lines = omega (arith, l.next, r.lines);
      },
      omega arith,
      z,
    )
