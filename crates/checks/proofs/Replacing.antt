-- What a replacement that refuses nothing has found.
-- Assumes nothing.
use Rattle.std.specs.Prelude.{Result, Ok, Err, ⊤}
use Prim.Native.Nat.{ℕ, ◌+◌, ◌-◌, ◌≤◌, ◌<◌, min}
use mathlib.Core.Path.{◌≡◌, refl, sym, ap, ◌∙◌}
use mathlib.Core.List.{List}
use native.Mathlib.Omega.{arith}
use borrow.Author.Tests.{le-ltb}
use lib.ListN.{length, take, get_or}
use lib.Seq.{length-take-le}
use Rattle.rows.specs.Limits.{row_most}
use Rattle.rows.specs.Programme.{Alphabet, Programme, room}
use Rattle.rows.specs.Tree.{size}
use Rattle.rows.specs.Row.{sized, verdict, allowed, reading}
use Rattle.rows.specs.Reading.{Accepted}
use Rattle.rows.specs.Refusals.{◌then◌, alphabet, kept, given, replacement, position, grown}
use Rattle.rows.specs.declared.Leaves.TheVariants.{Symbols}
use Rattle.rows.specs.declared.Refusal.TheVariants.{Row}
use Rattle.rows.proofs.Scan.{sized_fits}
use Rattle.rows.proofs.Passing.{both_fine, position_fine, replacement_whole, below, both_whole}
use Rattle.tables.proofs.Given.{Held, kept_right, right_bounds}
use Rattle.edits.specs.Put.{changed}
use Rattle.edits.specs.Replace.{Replaceable, ClassRoom}
use Rattle.edits.proofs.Place.{position_past, position_in, grown_fits, grown_fine}
use Rattle.edits.proofs.Replace.{new_length}
use Rattle.checks.specs.Checks.{replace_check}
use Rattle.rows.specs.declared.Refusal.{Refusal}

-- refusals 1 to 10 and 62 leave a programme in order, at the front of its buffer
pub given_held : (a : Alphabet) (P : Programme) (n : ℕ) → given a P n ≡ Ok tt → Held a P n
unfolding given
given_held a P n e = kept_right Row a P n (both_fine (alphabet a) (kept Row a P n) e).1

-- refusals 24 to 29 leave an accepted replacement
pub replacement_fine : (A v : List ℕ) → replacement A v ≡ Ok tt → (length v ≤ row_most) × Accepted A v
unfolding replacement reading
replacement_fine A v e =
    let whole = both_whole (sized (length v) row_most) (verdict A (allowed Symbols A) 1 0 v) (replacement_whole _ e) in
    ((sized_fits (length v) row_most whole.0).1, whole.1)

-- refusals 17 and 18, told by the table's entry at the position
place_check : (a : Alphabet) (P : Programme) (n : ℕ) (v : List ℕ) (p room : ℕ) → Held a P n → Accepted a.arities v
    → position n p then grown (p + length v + (n - get_or P.table p 0)) room
    ≡ position n p then grown (size (changed a.arities (take n P.row) p v)) room
place_check a P n v p room h accepted =
    let w : List ℕ = take n P.row in
    below p n
    (λ i.
    let l = length-take-le n P.row (omega (arith, h.fits)) in
    ap (λ (m : ℕ). position n p then grown m room)
    (sym (new_length a.arities w P.table v p h.order.row accepted (omega arith) ∙ ap (λ (k : ℕ). p + length v + (k - get_or P.table p 0)) l)))
    (λ i. position_past n p (grown (p + length v + (n - get_or P.table p 0)) room) i ∙ sym (position_past n p (grown (size (changed a.arities w p v)) room) i))

-- and behind the replacement's own
pub place-behind : (a : Alphabet) (P : Programme) (n : ℕ) (v : List ℕ) (p room : ℕ) → Held a P n
    → replacement a.arities v then position n p then grown (p + length v + (n - get_or P.table p 0)) room
    ≡ replacement a.arities v then position n p then grown (size (changed a.arities (take n P.row) p v)) room
place-behind a P n v p room h = go (replacement a.arities v) refl
  where
    told : ℕ → Result ⊤ Refusal
    told m = position n p then grown m room

    go : (c : Result ⊤ Refusal) → replacement a.arities v ≡ c
        → c then told (p + length v + (n - get_or P.table p 0)) ≡ c then told (size (changed a.arities (take n P.row) p v))
    go (Ok _) e = place_check a P n v p room h (replacement_fine a.arities v e).1
    go (Err r) e = refl

pub held_end : (a : Alphabet) (P : Programme) (n p : ℕ) → Held a P n → p < n → get_or P.table p 0 ≤ n
held_end a P n p h i =
    let l = length-take-le n P.row (omega (arith, h.fits)) in
    omega (arith, right_bounds a.arities (take n P.row) P.table h.order.row p (omega arith))

-- all refusals together leave what a replacement asks for
pub replace_held : (a : Alphabet) (P : Programme) (n : ℕ) (v : List ℕ) (p : ℕ) → replace_check a P n v p ≡ Ok tt → given a P n ≡ Ok tt
unfolding replace_check
replace_held a P n v p e =
    (both_fine (given a P n)
    (replacement a.arities v then position n p then grown (size (changed a.arities (take n P.row) p v)) (room P))
    e
    ).0

pub replace_able : (a : Alphabet) (P : Programme) (n : ℕ) (v : List ℕ) (p : ℕ) → replace_check a P n v p ≡ Ok tt
    → Replaceable a.arities P.row P.table n v p
unfolding replace_check
replace_able a P n v p e =
    let m : ℕ = size (changed a.arities (take n P.row) p v) in
    let g : (Result ⊤ Refusal) = grown m (room P) in
    let x = both_fine (given a P n) (replacement a.arities v then position n p then g) e in
    let y = both_fine (replacement a.arities v) (position n p then g) x.1 in
    let z = both_fine (position n p) g y.1 in
    let h = given_held a P n x.0 in
    let f = grown_fine m (room P) z.1 in
    record {
      within = omega (arith, h.fits);
      right = h.order.row;
      accepted = (replacement_fine a.arities v y.0).1;
      position = position_fine n p z.0;
      most = omega arith;
      row_room = omega arith;
      table-room = omega arith;
    }

pub replace_classes : (a : Alphabet) (P : Programme) (n : ℕ) (v : List ℕ) (p : ℕ) → replace_check a P n v p ≡ Ok tt
    → ClassRoom a.arities P.row P.classes n v p
unfolding replace_check
replace_classes a P n v p e =
    let m : ℕ = size (changed a.arities (take n P.row) p v) in
    let g : (Result ⊤ Refusal) = grown m (room P) in
    let x = both_fine (given a P n) (replacement a.arities v then position n p then g) e in
    let y = both_fine (replacement a.arities v) (position n p then g) x.1 in
    let z = both_fine (position n p) g y.1 in
    let h = given_held a P n x.0 in
    let f = grown_fine m (room P) z.1 in
    record { old = omega (arith, h.fits); new = omega arith }

pub replace_short : (a : Alphabet) (P : Programme) (n : ℕ) (v : List ℕ) (p : ℕ) → replace_check a P n v p ≡ Ok tt → length v ≤ row_most
unfolding replace_check
replace_short a P n v p e =
    let g : (Result ⊤ Refusal) = position n p then grown (size (changed a.arities (take n P.row) p v)) (room P) in
    let x = (both_fine (given a P n) (replacement a.arities v then g) e).1 in
    (replacement_fine a.arities v (both_fine (replacement a.arities v) g x).0).0

-- the old row and the new one are within the sizes
pub able_sizes : (A row t : List ℕ) (n : ℕ) (v : List ℕ) (p m : ℕ) → Replaceable A row t n v p → m ≡ size (changed A (take n row) p v)
    → (m ≤ row_most) × (n ≤ row_most)
able_sizes A row t n v p m r e = (omega (arith, r.most), omega (arith, r.right.sized.most, length-take-le n row r.within))

-- and nothing is refused where it is there
pub replacement_accepted : (A v : List ℕ) → 0 < length v → length v ≤ row_most → Accepted A v → replacement A v ≡ Ok tt
unfolding replacement reading sized
replacement_accepted A v some most a = simp (le-ltb (length v) 1 (omega arith), le-ltb row_most (length v) most, a)

pub replace_goes : (a : Alphabet) (P : Programme) (n : ℕ) (v : List ℕ) (p : ℕ) → given a P n ≡ Ok tt → replacement a.arities v ≡ Ok tt → p < n
    → size (changed a.arities (take n P.row) p v) ≤ min row_most (room P) → replace_check a P n v p ≡ Ok tt
unfolding replace_check
replace_goes a P n v p held whole i enough =
    let m : ℕ = size (changed a.arities (take n P.row) p v) in
    simp (held, whole) (position_in n p (grown m (room P)) i ∙ grown_fits m (room P) enough)
