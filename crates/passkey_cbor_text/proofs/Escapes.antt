-- Data items that bytes encode from the first to the last.
use Rattle.std.proofs.Common.{◌≡◌, ◌∙◌, ℕ, ◌<◌, ◌≤◌, arith, Bool, true, false, List, [], ◌∷◌, length, drop, Option, Some, None, Ok, Err, refl, sym, ap}
use Rattle.std.proofs.lemmas.List.{drop_all, length-drop}
use Rattle.std.proofs.Common.{Global, IfOk, Result, String, append-nil, string_bytes, subst}
use Rattle.std.specs.Option.{option_and_then}
use Rattle.std.specs.Result.{result_ok}
use Rattle.hex.proofs.HexLemmas.{decode_of-encode_lower}
use Rattle.hex.specs.Hex.{encode_lower}
use Rattle.json.specs.Json.{Json, document}
use Rattle.passkey_cbor.specs.Bytes.{IsBytes}
use Rattle.passkey_cbor.specs.Depth.{depth}
use Rattle.passkey_cbor.specs.Item.{Item}
use Rattle.passkey_cbor.specs.Laws.{LeadingItemIsFound, FoundIsLeadingItem, WrittenIsLeadingItem}
use Rattle.passkey_cbor.specs.LeadingItem.{IsLeadingItem, HasNoLeadingItem, max_depth}
use Rattle.passkey_cbor.specs.LeadingItemAt.{IsLeadingItemOf, leading_item_at}
use Rattle.passkey_cbor.specs.Writable.{IsWritable}
use Rattle.passkey_cbor.specs.Written.{written}
use Rattle.passkey_cbor_text.specs.values.Exact.{IsEscapeOf, IsJsonOf, ReadsEscapes, escaped}
use Rattle.passkey_cbor_text.specs.values.Keys.{alone, bytes_item, encoding_item}
use Rattle.passkey_memory.specs.declared.OutOfMemory.{OutOfMemory}
use Rattle.passkey_cbor_text.specs.values.NoItem.{Read, here, or_reason}
use Rattle.passkey_cbor_text.specs.declared.values.no_item.ItemReason.TheVariants.{Encoding}

nothing_after : (x : Item) (rest : List ℕ) → rest ≡ [] → alone (Some (x, rest)) ≡ Some x
nothing_after x rest e = rw e refl

something_after : (x : Item) (rest : List ℕ) → 0 < length rest → alone (Some (x, rest)) ≡ None
something_after x [] more = absurd (omega arith)
something_after x (b ∷ bs) more = refl

pub whole_item : LeadingItemIsFound → (bytes : List ℕ) (x : Item) (len : ℕ) → IsLeadingItem bytes x len
    → length bytes ≤ len → or_reason Encoding (bytes_item bytes) ≡ Ok x
whole_item law bytes x len f long = ap (or_reason Encoding)
    (ap alone (law bytes x len f) ∙ nothing_after x (drop len bytes) (drop_all len bytes long))

pub item_and_more : LeadingItemIsFound → (bytes : List ℕ) (x : Item) (len : ℕ) → IsLeadingItem bytes x len
    → len < length bytes → or_reason Encoding (bytes_item bytes) ≡ Err (here Encoding)
item_and_more law bytes x len f short = ap (or_reason Encoding)
    (ap alone (law bytes x len f) ∙ something_after x (drop len bytes) (omega (arith, length-drop len bytes, f.within)))

none_given : (o : Option (Item × List ℕ)) (bytes : List ℕ) → IsLeadingItemOf bytes o → HasNoLeadingItem bytes → o ≡ None
none_given (Some r) bytes found none = absurd (none r.0 found.len found.front)
none_given None bytes found none = refl

pub no_item : FoundIsLeadingItem → (bytes : List ℕ) → IsBytes bytes → HasNoLeadingItem bytes
    → or_reason Encoding (bytes_item bytes) ≡ Err (here Encoding)
no_item law bytes fits none =
    ap (or_reason Encoding) (ap alone (none_given (leading_item_at bytes) bytes (law bytes fits) none))

-- ---- an escape is the data item wherever it stands

-- the digits of an encoding are its data item
digits_mean : LeadingItemIsFound → WrittenIsLeadingItem → (i : Item) → IsBytes (written i) → IsWritable i
    → depth i ≤ max_depth → encoding_item (encode_lower (written i)) ≡ Ok i
digits_mean found law i fits writable few =
    let front : IsLeadingItem (written i) i (length (written i)) =
    subst (λ (bs : List ℕ). IsLeadingItem bs i (length (written i))) (append-nil (written i)) (law i [] writable few) in
    ap (λ r. or_reason Encoding (option_and_then bytes_item (result_ok r))) (decode_of-encode_lower (written i) fits)
    ∙ whole_item found (written i) i (length (written i)) front (omega arith)

pub escape_made : LeadingItemIsFound → WrittenIsLeadingItem → (i : Item) (bytes : List ℕ)
    (r : Result (String Global) OutOfMemory) → bytes ≡ written i → IsBytes bytes → IsWritable i → depth i ≤ max_depth
    → IfOk r (λ text. document (string_bytes text) ≡ Some (escaped (encode_lower bytes)))
    → IfOk r (λ text. IsEscapeOf i (string_bytes text))
escape_made found law i bytes (Ok text) is fits writable few parsed = record {
  digits = encode_lower (written i);
  parsed = parsed ∙ ap (λ (bs : List ℕ). Some (escaped (encode_lower bs))) is;
  meant = digits_mean found law i (subst IsBytes is fits) writable few;
}
escape_made found law i bytes (Err e) is fits writable few parsed = tt

pub escape_there : (means : Json → Read Item) → ReadsEscapes means → (i : Item) (r : Result (String Global) OutOfMemory)
    → IfOk r (λ text. IsEscapeOf i (string_bytes text)) → IfOk r (λ text. IsJsonOf means i (string_bytes text))
escape_there means read i (Ok text) e =
    record { value = escaped e.digits; parsed = e.parsed; meant = read e.digits i e.meant }
escape_there means read i (Err e) is = tt
