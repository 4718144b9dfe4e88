-- Where the bytes are few enough, their numbers are checked at the front of the room.
use Rattle.std.proofs.Common.{◌≡◌, ◌<◌, ℕ, List, Err, ap, sym, take, length, ◌∙◌, arith}
use Rattle.std.proofs.Math.Seq.{take-length}
use Rattle.rows.specs.Limits.{alphabet_most}
use Rattle.rows.specs.Programme.{alphabet_of}
use Rattle.rows.specs.Refusals.{alphabet}
use Rattle.rows.specs.declared.Arities.TheVariants.{Count}
use Rattle.rows.specs.declared.Refusal.TheVariants.{Arities}
use Rattle.rows.proofs.Passing.{alphabet_long}
use Rattle.wire.specs.Wire.{numbers}
use Rattle.wire.proofs.Numbers.{front_read}
use Rattle.c_lent.proofs.alphabet.read_alphabet.Goals as goal

pub returns-then-k-gt-ALPHABET_MOST : goal.returns-then-k-gt-ALPHABET_MOST
returns-then-k-gt-ALPHABET_MOST c =
    let k = c.count-k.ensures in
    let over : alphabet_most < length (numbers c.args.arities.now) = omega (arith, k, c.if-k-gt-ALPHABET_MOST.true) in
    record {
      answer = ap (λ (n : ℕ). Err (Arities (Count n))) k ∙ sym (alphabet_long (numbers c.args.arities.now) over);
      few = λ e. cc;
      front = λ e. cc;
    }

pub returns : goal.returns
returns c =
    let A : List ℕ = numbers c.args.arities.now in
    let k = c.count-k in
    let f : take k.result c.decode.new.room ≡ A =
    ap (take k.result) c.decode.ensures
    ∙ front_read A c.args.room.now k.result (omega (arith, k.ensures))
    ∙ ap (λ (n : ℕ). take n A) k.ensures
    ∙ take-length A in
    record {
      answer = c.check_alphabet.ensures ∙ ap (λ (l : List ℕ). alphabet (alphabet_of l)) f;
      few = λ e. omega (arith, k.ensures, c.if-k-gt-ALPHABET_MOST.false);
      front = λ e. ap (λ (n : ℕ). take n c.decode.new.room) (sym k.ensures) ∙ f;
    }
