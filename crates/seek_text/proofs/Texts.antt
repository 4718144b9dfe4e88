-- The three lines of an input, one after the other, and which of them is the first faulty one.
-- Assumes nothing.
use Prim.Native.Nat.{ℕ, ◌+◌, ◌≤◌, ◌<◌}
use mathlib.Core.Path.{◌≡◌, ap, ◌∙◌}
use mathlib.Core.List.{List, ◌++◌, append_assoc, append-nil}
use native.Mathlib.Omega.{arith}
use lib.ListN.{length, drop, length-append, length-drop, drop_of_length-le}
use Rattle.rows.specs.Buffers.{written}
use Rattle.rows.specs.declared.Refusal.TheVariants.{Input}
use Rattle.rows.specs.declared.Text.TheVariants as text
use Rattle.decimal.specs.Lines.{line}
use Rattle.decimal.specs.Inside.{HasLine, LineRead, LineRoom}
use Rattle.decimal.specs.declared.Cursor.{Cursor}
use Rattle.decimal.proofs.Writing.{written-append}
use Rattle.decimal.proofs.Lining.{line_begins, room_next}
use Rattle.seek_text.specs.Seek.{input_most, NoLine, Faulty, Faulty.here, Faulty.later, Faulty.extra, InputRefused, InputRefused.faulty}
use Rattle.seek_text.specs.Inside.{ListsRead, numbers_most}

-- the first line's cursor
abbrev pub top : Cursor
top = record { at = 0; line = 1 }

pub top_room : (b y : List ℕ) → length b ≤ input_most → numbers_most ≤ length y → LineRoom b top y 0
top_room b y h k = record { numbers = omega arith; buffer = omega arith; lines = omega arith }

-- no line was found at a position
abbrev pub None : List ℕ → ℕ → Type 0
None b at = (ns : List ℕ) (end : ℕ) → HasLine b at ns end → ⊥

none_line : (b : List ℕ) (at : ℕ) → None b at → NoLine (drop at b)
none_line b at h ns z small e = h ns _ (line_begins b at ns z small e)

module _ (b y : List ℕ) (short : length b ≤ input_most) where
  pub refused-first : (k : ℕ) → None b 0 × (k ≡ 1) → InputRefused b (Input (text.Line k))
  refused-first k h = rw h.1 (faulty short (here (none_line b 0 h.0)))

  module _ {a : ℕ} {d₁ : Cursor} {y₁ : List ℕ} (l₁ : LineRead b top y 0 a d₁ y₁) where
    -- a fault behind the first line
    after_first : {k : ℕ} → Faulty 2 2 (drop d₁.at b) k → InputRefused b (Input (text.Line k))
    after_first f = faulty short (later l₁.numbers (drop d₁.at b) l₁.stands.small l₁.stands.text f)

    pub refused_second : (k : ℕ) → None b d₁.at × (k ≡ d₁.line) → InputRefused b (Input (text.Line k))
    refused_second k h =
        let e : k ≡ 2 = h.1 ∙ l₁.next in
        rw e (after_first (here (none_line b d₁.at h.0)))

    module _ {r : ℕ} {d₂ : Cursor} {y₂ : List ℕ} (l₂ : LineRead b d₁ y₁ a r d₂ y₂) where
      after_second : {k : ℕ} → Faulty 1 3 (drop d₂.at b) k → InputRefused b (Input (text.Line k))
      after_second f = after_first (later l₂.numbers (drop d₂.at b) l₂.stands.small l₂.stands.text f)

      pub refused_third : (k : ℕ) → None b d₂.at × (k ≡ d₂.line) → InputRefused b (Input (text.Line k))
      refused_third k h =
          let e : k ≡ 3 = h.1 ∙ l₂.next ∙ ap (λ n. n + 1) l₁.next in
          rw e (after_second (here (none_line b d₂.at h.0)))

      module _ {p : ℕ} {d₃ : Cursor} {y₃ : List ℕ} (l₃ : LineRead b d₂ y₂ r p d₃ y₃) where
        pub refused_fourth : d₃.at < length b → InputRefused b (Input (text.Line d₃.line))
        refused_fourth h =
            let e : d₃.line ≡ 4 = l₃.next ∙ ap (λ n. n + 1) (l₂.next ∙ ap (λ n. n + 1) l₁.next) in
            rw e (after_second (later l₃.numbers (drop d₃.at b) l₃.stands.small l₃.stands.text (extra (rw length-drop (omega arith)))))

        three : b ≡ line l₁.numbers ++ (line l₂.numbers ++ (line l₃.numbers ++ drop d₃.at b))
        three =
            l₁.stands.text
            ∙ ap (λ z. line l₁.numbers ++ z) (l₂.stands.text ∙ ap (λ z. line l₂.numbers ++ z) l₃.stands.text)

        pub lists_read : numbers_most ≤ length y → length b ≤ d₃.at → ListsRead b y a r p y₃
        lists_read room h =
            let A = l₁.numbers in
            let w = l₂.numbers in
            let q = l₃.numbers in
            let r₁ = room_next (top_room b y short room) l₁ in
            let r₂ = room_next r₁.0 l₂ in
            let c₁ : a ≡ length A = omega (arith, l₁.count) in
            let c₂ : r ≡ length A + length w = l₂.count ∙ ap (λ n. n + length w) c₁ in
            let m : length (A ++ w) ≡ length A + length w = length-append A w in
            let s₁ : 0 + length A ≤ length y = omega (arith, r₁.1) in
            let s₂ : 0 + length (A ++ w) ≤ length y = omega (arith, r₂.1, r₁.2) in
            record {
              short = short;
              arities = A;
              row = w;
              pattern = q;
              says = record {
                arities = l₁.stands.small;
                row = l₂.stands.small;
                pattern = l₃.stands.small;
                text = three ∙ rw (drop_of_length-le b h, append-nil (line q));
              };
              arities_end = c₁;
              row_end = c₂;
              pattern_end = l₃.count ∙ ap (λ n. n + length q) c₂;
              within = omega (arith, (room_next r₂.0 l₃).1, r₂.2, r₁.2);
              buffer =
                  l₃.buffer
                  ∙ ap (λ z. written z r q) (l₂.buffer ∙ ap (λ z. written z a w) l₁.buffer ∙ ap (λ n. written (written y 0 A) n w) l₁.count ∙ written-append y 0 A w s₁)
                  ∙ ap (λ n. written (written y 0 (A ++ w)) n q) (let e : r ≡ 0 + length (A ++ w) = omega (arith, c₂, m) in e)
                  ∙ written-append y 0 (A ++ w) q s₂
                  ∙ ap (written y 0) (append_assoc A w q);
            }
