-- Inside: no public contract cites what stands in this file, and no reader has to believe it.
-- What reading a number and a line answers, and what printing leaves in a buffer.
use Rattle.std.specs.Prelude.{ℕ, ◌+◌, ◌≤◌, ◌≡◌, List, ◌++◌, Bool, true, eqb, length, get_or, drop, Result, Ok, Err}
use Rattle.rows.specs.Row.{pick}
use Rattle.rows.specs.Buffers.{written}
use Rattle.decimal.specs.Lines.{numeral, number_most, line, Small}
use Rattle.decimal.specs.declared.Cursor.{Cursor}

-- a space or a newline
abbrev pub ends_number : ℕ → Bool
ends_number d = pick (eqb d 32) true (eqb d 10)

-- the text b has the number n at position `at`; a space or a newline ends it at `end`
pub record Stands (b : List ℕ) (at n end : ℕ) : Type 0 where
  pub small : n ≤ number_most
  pub text : drop at b ≡ numeral n ++ drop end b
  pub ended : ends_number (get_or b end 0) ≡ true

-- what reading a number at a cursor answers: the number and the cursor after it; or its line, if no number stands there
abbrev pub NumberAt : List ℕ → Cursor → Result (ℕ × Cursor) ℕ → Type 0
NumberAt b c (Ok (n, d)) = Stands b c.at n d.at × (d.line ≡ c.line)
NumberAt b c (Err k) = ((n end : ℕ) → Stands b c.at n end → ⊥) × (k ≡ c.line)

-- the text b has the line of the list ns at position `at`, and goes on at `end`
pub record HasLine (b : List ℕ) (at : ℕ) (ns : List ℕ) (end : ℕ) : Type 0 where
  pub small : Small ns
  pub text : drop at b ≡ line ns ++ drop end b
  pub within : end ≤ length b

-- a line was read into the buffer y from place i on, which left the buffer y'; k is the place behind, d the cursor behind
pub record LineRead (b : List ℕ) (c : Cursor) (y : List ℕ) (i k : ℕ) (d : Cursor) (y' : List ℕ) : Type 0 where
  pub numbers : List ℕ
  pub stands : HasLine b c.at numbers d.at
  pub next : d.line ≡ c.line + 1
  pub count : k ≡ i + length numbers
  pub buffer : y' ≡ written y i numbers

-- What reading a line at a cursor answers: the place behind its last number and the cursor of the next line; or its own
-- number, if no line of numbers stands there. (Then the buffer may hold numbers from the front of the faulty line.)
abbrev pub LineAt : List ℕ → Cursor → List ℕ → ℕ → Result (ℕ × Cursor) ℕ → List ℕ → Type 0
LineAt b c y i (Ok (k, d)) y' = LineRead b c y i k d y'
LineAt b c y i (Err k) y' = ((ns : List ℕ) (end : ℕ) → HasLine b c.at ns end → ⊥) × (k ≡ c.line)

-- LineRoom for the numbers of the text b from the cursor on, behind the i numbers before it: each number takes two bytes. And
-- each line before it takes a byte.
pub record LineRoom (b : List ℕ) (c : Cursor) (y : List ℕ) (i : ℕ) : Type 0 where
  pub numbers : i + i ≤ c.at
  pub buffer : length b ≤ length y + length y
  pub lines : c.line ≤ c.at + 1

-- the text v was printed into the buffer b from place `at` on; the next text goes to place r
pub record Printed (b : List ℕ) (at : ℕ) (v : List ℕ) (r : ℕ) (b' : List ℕ) : Type 0 where
  pub next : r ≡ at + length v
  pub buffer : b' ≡ written b at v

-- the most bytes of a mark and a number behind it: the longest number has 20 digits
abbrev pub marked_most : ℕ
marked_most = 21
