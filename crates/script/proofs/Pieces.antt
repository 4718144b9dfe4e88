-- What was read, one piece behind the other.
use Rattle.std.proofs.Common.{◌≡◌, ℕ, ◌+◌, ◌≤◌, List, ◌++◌, None, Some, Option, length, take, drop, sym, ap, ◌∙◌, subst, le_refl, append_assoc, drop_at, length-take-le}
use Rattle.std.proofs.Math.Seq.{take-add, take-append-le}
use Rattle.std.proofs.lemmas.Slice.{take-put_mid_below}
use Rattle.std.specs.Io.KnownBytes.{Consumes}
use borrow.Rule.Slice.PartMut.{put_mid, post_of}

-- The first a elements as they were, and behind them the first n of the part that begins there.
take-part : (a k n : ℕ) (xs ys : List ℕ) → a ≤ length xs → n ≤ length ys → take a xs ++ take n ys ≡ take (a + n) (put_mid a k xs ys)
take-part a k n xs ys within fits =
    let new = put_mid a k xs ys in
    let after = post_of a k xs in
    let front : take a new ≡ take a xs = take-put_mid_below a k xs ys a (le_refl a) within in
    let back : drop a new ≡ ys ++ after = drop_at (take a xs) (ys ++ after) a (length-take-le a xs within) in
    sym (take-add a n new ∙ ap (λ l. l ++ take n (drop a new)) front ∙ ap (λ l. take a xs ++ take n l) back ∙ ap (λ l. take a xs ++ l) (take-append-le n ys after fits))

joined : (a b c : Option (List ℕ)) (bs cs : List ℕ) → Consumes a b bs → Consumes b c cs → Consumes a c (bs ++ cs)
joined None b c bs cs p q = tt
joined (Some x) None c bs cs p q = absurd p
joined (Some x) (Some y) None bs cs p q = absurd q
joined (Some x) (Some y) (Some z) bs cs p q = p ∙ ap (λ l. bs ++ l) q ∙ sym (append_assoc bs cs z)

-- The room has what was read before in front, and behind it what was read into its part.
pub read-on : (old mid new : Option (List ℕ)) (a k n : ℕ) (xs ys : List ℕ) → a ≤ length xs → n ≤ length ys
    → Consumes old mid (take a xs) → Consumes mid new (take n ys) → Consumes old new (take (a + n) (put_mid a k xs ys))
read-on old mid new a k n xs ys within fits before read =
    subst (Consumes old new) (take-part a k n xs ys within fits) (joined old mid new (take a xs) (take n ys) before read)
