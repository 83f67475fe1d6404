-- Bytes that are appended one after the other.
use Rattle.std.proofs.Common.{◌≡◌, ◌∙◌, ℕ, ◌+◌, ◌≤◌, arith, List, ◌++◌, length, take, drop, ap, sym, append_assoc, take_at, drop_at, drop-drop, length-append, length-drop, length-take-le}
use Rattle.passkey_view_c.specs.Writer.{Appended}

-- what precedes the rest of the buffer
length_before : (a out : List ℕ) (len middle : ℕ) → middle ≡ len + length a → middle ≤ length out
    → length (take len out ++ a) ≡ middle
length_before a out len middle size room =
    omega (arith, size, room, length-append (take len out) a, length-take-le len out (omega (arith, size, room)))

between_is : (a out between : List ℕ) (len middle : ℕ) → Appended a out len between middle
    → between ≡ (take len out ++ a) ++ drop middle out
between_is a out between len middle first = first.output ∙ sym (append_assoc (take len out) a (drop middle out))

drop_after : (before out : List ℕ) (middle n : ℕ) → length before ≡ middle
    → drop (middle + n) (before ++ drop middle out) ≡ drop (middle + n) out
drop_after before out middle n long =
    sym (drop-drop n middle (before ++ drop middle out))
    ∙ ap (drop n) (drop_at before (drop middle out) middle long)
    ∙ drop-drop n middle out

length_same : (before out : List ℕ) (middle : ℕ) → length before ≡ middle → middle ≤ length out
    → length (before ++ drop middle out) ≡ length out
length_same before out middle long room =
    omega (arith, long, room, length-append before (drop middle out), length-drop middle out)

pub both_appended : (a b out between out' : List ℕ) (len middle len' : ℕ) → Appended a out len between middle
    → Appended b between middle out' len' → Appended (a ++ b) out len out' len'
both_appended a b out between out' len middle len' first second =
    let long = length_before a out len middle first.size first.room in
    let is = between_is a out between len middle first in
    let same : length between ≡ length out =
    ap length is ∙ length_same (take len out ++ a) out middle long first.room in
    let front : take middle between ≡ take len out ++ a =
    ap (take middle) is ∙ take_at (take len out ++ a) (drop middle out) middle long in
    let back : drop len' between ≡ drop len' out = rw second.size
    (ap (drop (middle + length b)) is ∙ drop_after (take len out ++ a) out middle (length b) long) in
    record {
      size = omega (arith, first.size, second.size, length-append a b);
      room = omega (arith, second.room, same);
      output = second.output ∙ rw (front, back)
          (append_assoc (take len out) a (b ++ drop len' out)
          ∙ ap (λ (s : List ℕ). take len out ++ s) (sym (append_assoc a b (drop len' out))));
    }
