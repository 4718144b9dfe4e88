-- `wire::encode_behind` meets its contract: the part behind the first numbers is lent.
use Rattle.std.proofs.Common.{ℕ, ◌∙◌, ◌*◌, ◌-◌, ◌+◌, ◌≤◌, List, ◌++◌, ap, length, take, drop, arith, length-drop}
use Rattle.std.proofs.lemmas.List.{length-take-le}
use Rattle.buffers.proofs.Written.{lent_tail}
use Rattle.wire.specs.Wire.{numbers, bytes_of}
use Rattle.wire.proofs.Numbers.{numbers-length}
use Rattle.wire.proofs.encode_behind.Goals as goal

-- the place behind the first numbers
within : (b : List ℕ) (before n : ℕ) → before + n ≤ length (numbers b) → 2 * before ≤ length b
within b before n h = omega (arith, numbers-length b)

pub overflow_mul-before : goal.overflow_mul-before
overflow_mul-before c = record { fits = omega (arith, within c.args.bytes.now c.args.before (length c.args.list.now) c.requires) }

pub slice_bounds-encode-count : goal.slice_bounds-encode-count
slice_bounds-encode-count c = within c.args.bytes.now c.args.before (length c.args.list.now) c.requires

pub slice_bounds-encode-start : goal.slice_bounds-encode-start
slice_bounds-encode-start c = within c.args.bytes.now c.args.before (length c.args.list.now) c.requires

pub encode-requires : goal.encode-requires
encode-requires c =
    let b = c.args.bytes.now in
    let k = 2 * c.args.before in
    let long = length-take-le (length b - k) (drop k b) (simp length-drop (omega arith)) in
    omega (arith, numbers-length b, numbers-length (take (length b - k) (drop k b)), long, c.requires)

pub returns : goal.returns
returns c =
    let b : List ℕ = c.args.bytes.now in
    let k : ℕ = 2 * c.args.before in
    ap (λ (l : List ℕ). take k b ++ (l ++ drop (length b - k) (drop k b))) c.encode.ensures ∙ lent_tail b k (bytes_of c.args.list.now)
