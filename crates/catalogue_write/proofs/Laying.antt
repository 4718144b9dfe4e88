-- Laws of the file's bytes, written one behind the other.
-- Assumes nothing.
use Prim.Native.Nat.{ℕ, zero, suc, ◌+◌, ◌-◌, ◌*◌, ◌/◌, ◌%◌, ◌≤◌, ◌<◌}
use mathlib.Core.Path.{◌≡◌, refl, sym, ap, ap₂, ◌∙◌}
use mathlib.Core.List.{List, [], ◌∷◌, ◌++◌, append_assoc}
use native.Mathlib.Numerals.{add-one}
use native.Mathlib.Omega.{arith}
use lib.ListN.{length, get_or, take, drop, set, length-append, length-drop}
use lib.Seq.{length-take-le}
use Rattle.rows.specs.Limits.{file_most}
use Rattle.rows.specs.Buffers.{written}
use Rattle.rows.proofs.Buffers.{written_nil}
use Rattle.buffers.proofs.Written.{turn, written_right}
use Rattle.wire.specs.Wire.{numbers, bytes_of, with_number}
use Rattle.wire.proofs.Numbers.{numbers-length, bytes_of-length, bytes_of-append}
use Rattle.catalogue.specs.Catalogue.{halves, contents, entries, first_row, opening, file_of}
use Rattle.catalogue.specs.Refusals.{numbered, catalogue_of, total, size_of}
use Rattle.catalogue.specs.declared.Entry.{Entry}
use Rattle.catalogue.proofs.Accepting.{numbered-rows, numbered-length}
use Rattle.catalogue.proofs.Halves.{contents-length}
use Rattle.catalogue_write.specs.Laid.{laid, front_of, Given, Layable}

-- a number that is put at place i
pub half_written : (b : List ℕ) (i v : ℕ) → 2 * i + 1 < length b → with_number b i v ≡ written b (2 * i) (bytes_of (v ∷ []))
unfolding with_number bytes_of
half_written b i v h =
    let s = (v % 256) ∷ ((v / 256) ∷ []) in
    let at : 2 * i ≡ 2 * i + 0 = omega arith in
    ap (λ (l : List ℕ). set (set l (2 * i) (v % 256)) (2 * i + 1) (v / 256)) (sym (written_nil b (2 * i)))
    ∙ ap (λ (j : ℕ). set (set (written b (2 * i) []) j (v % 256)) (2 * i + 1) (v / 256)) at
    ∙ ap (λ (l : List ℕ). set l (2 * i + 1) (v / 256)) (turn b (2 * i) s 0 (omega arith) (omega arith))
    ∙ turn b (2 * i) s 1 (omega arith) (omega arith)

-- numbers put behind others
beside : (b : List ℕ) (p k : ℕ) (v t : List ℕ) → k ≡ p + 2 * length v → k + 2 * length t ≤ length b
    → written (written b p (bytes_of v)) k (bytes_of t) ≡ written b p (bytes_of (v ++ t))
beside b p k v t e room =
    written_right b p (bytes_of v) (bytes_of t) k (e ∙ ap (λ (n : ℕ). p + n) (sym (bytes_of-length v))) (omega (arith, bytes_of-length t))
    ∙ ap (written b p) (sym (bytes_of-append v t))

-- an entry more
contents-append : (es ds : List Entry) → contents (es ++ ds) ≡ contents es ++ contents ds
unfolding contents halves
contents-append [] ds = refl
contents-append (e ∷ es) ds =
    ap (λ (l : List ℕ). halves e.programme ++ (halves e.start ++ (halves e.length ++ l))) (contents-append es ds)

laid-length : (at : ℕ) (ns ls : List ℕ) → length ls ≡ length ns → length (laid at ns ls) ≡ length ns
unfolding laid
laid-length at [] ls h = refl
laid-length at (n ∷ ns) [] h = absurd (omega arith)
laid-length at (n ∷ ns) (l ∷ ls) h = ap suc (laid-length (at + 2 * l) ns ls (omega arith))

laid_next : (at : ℕ) (ns ls : List ℕ) (k : ℕ) → k < length ns → k < length ls
    → laid at (take (suc k) ns) (take (suc k) ls)
    ≡ laid at (take k ns) (take k ls) ++ ((record { programme = get_or ns k 0; start = at + 2 * total (take k ls); length = get_or ls k 0 }) ∷ [])
unfolding laid total
laid_next at [] ls k h j = absurd (omega arith)
laid_next at (n ∷ ns) [] k h j = absurd (omega arith)
laid_next at (n ∷ ns) (l ∷ ls) zero h j =
    let here : at ≡ at + 2 * 0 = omega arith in
    ap (λ (i : ℕ). (record { programme = n; start = i; length = l }) ∷ []) here
laid_next at (n ∷ ns) (l ∷ ls) (suc k) h j =
    let on : at + 2 * l + 2 * total (take k ls) ≡ at + 2 * (l + total (take k ls)) = omega arith in
    ap (λ (es : List Entry). (record { programme = n; start = at; length = l }) ∷ es)
    (laid_next (at + 2 * l) ns ls k (omega arith) (omega arith)
    ∙ ap (λ (i : ℕ). laid (at + 2 * l) (take k ns) (take k ls) ++ ((record { programme = get_or ns k 0; start = i; length = get_or ls k 0 }) ∷ [])) on)

-- the sum of the first lengths
total_next : (ls : List ℕ) (k : ℕ) → k < length ls → total (take (suc k) ls) ≡ total (take k ls) + get_or ls k 0
unfolding total
total_next [] k h = absurd (omega arith)
total_next (l ∷ ls) zero h = omega arith
total_next (l ∷ ls) (suc k) h = omega (arith, total_next ls k (omega arith))

total_part : (ls : List ℕ) (k : ℕ) → total (take k ls) ≤ total ls
unfolding total
total_part ls zero = omega arith
total_part [] (suc k) = omega arith
total_part (l ∷ ls) (suc k) = omega (arith, total_part ls k)

pub total_more : (ls : List ℕ) (k : ℕ) → k < length ls
    → (total (take (k + 1) ls) ≡ total (take k ls) + get_or ls k 0) × (total (take k ls) + get_or ls k 0 ≤ total ls)
total_more ls k h =
    let next = total_next ls k h in
    let part = total_part ls (suc k) in
    (rw add-one next, omega arith)

-- the contents written so far, with the entry at k behind them
pub entry-written : (b ns ls : List ℕ) (first k : ℕ) → k < length ns → length ls ≡ length ns → 4 + 12 * length ns ≤ length b
    → written (written b 4 (bytes_of (contents (laid first (take k ns) (take k ls))))) (2 * (2 + 6 * k))
    (bytes_of (contents ((record { programme = get_or ns k 0; start = first + 2 * total (take k ls); length = get_or ls k 0 }) ∷ [])))
    ≡ written b 4 (bytes_of (contents (laid first (take (k + 1) ns) (take (k + 1) ls))))
unfolding contents halves
entry-written b ns ls first k h e room =
    let es = laid first (take k ns) (take k ls) in
    let d : List Entry = (record { programme = get_or ns k 0; start = first + 2 * total (take k ls); length = get_or ls k 0 }) ∷ [] in
    let here : length (take k ns) ≡ k = length-take-le k ns (omega arith) in
    let here' : length (take k ls) ≡ k = length-take-le k ls (omega arith) in
    let count = laid-length first (take k ns) (take k ls) (here' ∙ sym here) in
    let more : laid first (take (k + 1) ns) (take (k + 1) ls) ≡ es ++ d = rw add-one (laid_next first ns ls k h (omega arith)) in
    beside b 4 (2 * (2 + 6 * k)) (contents es) (contents d) (omega (arith, contents-length es)) (omega arith)
    ∙ ap (λ (v : List ℕ). written b 4 (bytes_of v)) (sym (contents-append es d))
    ∙ ap (λ (v : List Entry). written b 4 (bytes_of (contents v))) (sym more)

-- the entries worked out are those of the programmes
laid-entries : (at : ℕ) (ns ls w : List ℕ) → length ls ≡ length ns → total ls ≡ length w → entries at (numbered ns ls w) ≡ laid at ns ls
unfolding entries numbered laid total
laid-entries at [] ls w h t = refl
laid-entries at (n ∷ ns) [] w h t = absurd (omega arith)
laid-entries at (n ∷ ns) (l ∷ ls) w h t =
    let long : length (take l w) ≡ l = length-take-le l w (omega arith) in
    ap₂ (λ (e : Entry) (es : List Entry). e ∷ es) (ap (λ (i : ℕ). record { programme = n; start = at; length = i }) long)
    (ap (λ (i : ℕ). entries (at + 2 * i) (numbered ns ls (drop l w))) long
    ∙ laid-entries (at + 2 * l) ns ls (drop l w) (omega arith) (omega (arith, length-drop l w)))

-- the two halves of a number of four bytes; the three numbers of an entry
pub wide-written : (b : List ℕ) (i v : ℕ) → 2 * i + 3 < length b
    → written (written b (2 * i) (bytes_of (v % 65536 ∷ []))) (2 * (i + 1)) (bytes_of (v / 65536 ∷ [])) ≡ written b (2 * i) (bytes_of (halves v))
unfolding halves
wide-written b i v h = beside b (2 * i) (2 * (i + 1)) (v % 65536 ∷ []) (v / 65536 ∷ []) (omega arith) (omega arith)

pub three_written : (b : List ℕ) (i : ℕ) (e : Entry) → 2 * i + 11 < length b
    → written (written (written b (2 * i) (bytes_of (halves e.programme))) (2 * (i + 2)) (bytes_of (halves e.start)))
    (2 * (i + 4)) (bytes_of (halves e.length))
    ≡ written b (2 * i) (bytes_of (contents (e ∷ [])))
unfolding contents halves
three_written b i e h =
    ap (λ (l : List ℕ). written l (2 * (i + 4)) (bytes_of (halves e.length)))
    (beside b (2 * i) (2 * (i + 2)) (halves e.programme) (halves e.start) (omega arith) (omega arith))
    ∙ beside b (2 * i) (2 * (i + 4)) (halves e.programme ++ halves e.start) (halves e.length) (omega arith) (omega arith)

-- what may be laid out has room, in numbers
pub record Room (A ns ls f : List ℕ) : Type 0 where
  pub fits : 4 + 12 * length ns + length A ≤ length f
  pub size : 4 + 12 * length ns + length A + 2 * total ls ≤ file_most

pub room_is : (A ns ls f : List ℕ) → Layable A ns ls f → Room A ns ls f
unfolding size_of first_row
room_is A ns ls f l = record { fits = l.fits; size = l.size }

pub size_fits : (A ns : List ℕ) (m k : ℕ) → size_of A ns m ≤ k → 4 + 12 * length ns + length A + 2 * m ≤ k
unfolding size_of first_row
size_fits A ns m k h = h

-- WHAT STANDS BEFORE THE ROWS ends where the first row starts;
pub front_length : (A ns ls : List ℕ) → length ls ≡ length ns → length (front_of A ns ls) ≡ first_row (length ns) (length A)
unfolding front_of first_row
front_length A ns ls e =
    let es = laid (4 + 12 * length ns + length A) ns ls in
    let open' : List ℕ = length ns ∷ (length A ∷ contents es) in
    omega (
      arith,
      length-append (bytes_of open') A,
      bytes_of-length open',
      contents-length es,
      laid-length (4 + 12 * length ns + length A) ns ls e,
    )

-- head, contents and arities, written one behind the other, are it;
pub front-written : (A ns ls f : List ℕ) → Layable A ns ls f
    → written
    (written (written (written f 0 (bytes_of (length ns ∷ []))) 2 (bytes_of (length A ∷ []))) 4
    (bytes_of (contents (laid (4 + 12 * length ns + length A) ns ls))))
    (4 + 12 * length ns) A
    ≡ written f 0 (front_of A ns ls)
unfolding front_of first_row
front-written A ns ls f l =
    let r = room_is A ns ls f l in
    let n = length ns in
    let s = length A in
    let at = 4 + 12 * n in
    let es = laid (at + s) ns ls in
    let head : List ℕ = n ∷ (s ∷ []) in
    let open' : List ℕ = n ∷ (s ∷ contents es) in
    let count : length (contents es) ≡ 6 * n = contents-length es ∙ ap (λ (i : ℕ). 6 * i) (laid-length (at + s) ns ls l.many) in
    let long : length (bytes_of open') ≡ at = bytes_of-length open' ∙ omega arith in
    ap (λ (b : List ℕ). written (written b 4 (bytes_of (contents es))) at A)
    (beside f 0 2 (n ∷ []) (s ∷ []) (omega arith) (omega (arith, r.fits)))
    ∙ ap (λ (b : List ℕ). written b at A) (beside f 0 4 head (contents es) (omega arith) (omega (arith, r.fits)))
    ∙ written_right f 0 (bytes_of open') A at (omega arith) (omega (arith, r.fits))

-- and the rows' bytes behind it are the rest of the file.
pub file_is : (A ns ls w : List ℕ) → Given ns ls (length w) → file_of (catalogue_of A ns ls w) ≡ front_of A ns ls ++ bytes_of w
unfolding file_of opening front_of first_row
file_is A ns ls w g =
    let ps = numbered ns ls w in
    let s = length A in
    let at = 4 + 12 * length ns + s in
    let many = numbered-length ns ls w g.many in
    let same : contents (entries (4 + 12 * length ps + s) ps) ≡ contents (laid at ns ls) =
    ap (λ (i : ℕ). contents (entries (4 + 12 * i + s) ps)) many ∙ ap contents (laid-entries at ns ls w g.many g.sum) in
    ap₂ (λ (o v : List ℕ). bytes_of o ++ (A ++ bytes_of v))
    (ap₂ (λ (i : ℕ) (c : List ℕ). i ∷ (s ∷ c)) many same)
    (numbered-rows ns ls w g.many g.sum)
    ∙ sym (append_assoc (bytes_of (length ns ∷ (s ∷ contents (laid at ns ls)))) A (bytes_of w))

pub file_written : (A ns ls w f : List ℕ) → Given ns ls (length w) → size_of A ns (length w) ≤ length f
    → written (written f 0 (front_of A ns ls)) (4 + 12 * length ns + length A) (bytes_of w) ≡ written f 0 (file_of (catalogue_of A ns ls w))
unfolding size_of first_row
file_written A ns ls w f g room =
    let front = front_of A ns ls in
    written_right f 0 front (bytes_of w) (4 + 12 * length ns + length A)
    (omega (arith, front_length A ns ls g.many))
    (omega (arith, bytes_of-length w))
    ∙ ap (written f 0) (sym (file_is A ns ls w g))

-- the part from a byte on has room for m numbers
pub tail_room : (b : List ℕ) (at m : ℕ) → at + 2 * m ≤ length b → m ≤ length (numbers (take (length b - at) (drop at b)))
tail_room b at m h =
    let tail = take (length b - at) (drop at b) in
    let long : length tail ≡ length b - at = length-take-le (length b - at) (drop at b) (omega (arith, length-drop at b)) in
    omega (arith, numbers-length tail)
