-- What is said of bytes, part by part.
use Rattle.std.proofs.Common.{◌≡◌, ℕ, zero, suc, ◌-◌, ◌<◌, ◌≤◌, List, ◌++◌, ◌∷◌, [], Bool, true, false, Option, Some, None}
use Rattle.std.proofs.Common.{refl, sym, ap, ◌∙◌, arith, take, drop, length, length-drop, subst, append_assoc}
use Rattle.std.proofs.lemmas.List.{take_all}
use Rattle.std.proofs.lemmas.Bool.{lt-ltb, le-ltb}
use Rattle.std.specs.Prelude.{Result, negsuc, not, decimal}
use Rattle.std.specs.Borrow.{Bor}
use Rattle.std.specs.Str.{IsUtf8, is_utf8}
use Rattle.std.proofs.lemmas.Str.{IsUtf8-from_is_utf8}
use native.Mathlib.Numerals.{unary_clauses}
use Rattle.passkey_cbor.proofs.items.Binds.{bind_at, bind_none}
use Rattle.passkey_cbor.specs.Reading.{is_allowed, piece_at}
use Rattle.passkey_cbor.proofs.heads.HeadAgain.{head_again}
use Rattle.passkey_cbor.proofs.heads.HeadTakes.{head_takes}
use Rattle.passkey_cbor.specs.Bytes.{IsBytes}
use Rattle.passkey_cbor.specs.CursorState.{CursorState, ahead}
use Rattle.passkey_cbor.specs.EncodedAt.{goes_on}
use Rattle.passkey_cbor.specs.Found.{PassesHead, FindsNoHead}
use Rattle.passkey_cbor.specs.HeadEncoding.{IsEncodingOfHead}
use Rattle.passkey_cbor.specs.HeadReading.{◌>>=◌, Read, head_at}
use Rattle.passkey_cbor.specs.declared.head.Head.{Head}
use Rattle.passkey_cbor_text.specs.diagnose.BytesText.{Tell, Tells, all_parts, after_last, closing_of, fewer, gap, info_of, inner_of}
use Rattle.passkey_cbor_text.specs.diagnose.BytesText.{item_text, length_mark, list_after, mark, member_text, opening_of, parts_text}
use Rattle.passkey_cbor_text.specs.diagnose.BytesText.{piece_text, simple_text, string_text, string_after, tag_after, item_after}
use Rattle.passkey_cbor.specs.FloatParts.{FloatParts}
use Rattle.passkey_cbor.specs.declared.head.Head.TheVariants as head
use Rattle.passkey_cbor_text.specs.diagnose.Diagnosis.{closing, deeper, separator}
use Rattle.passkey_cbor_text.specs.diagnose.FloatText.{float_text}
use Rattle.std.specs.Fmt.{signed_decimal}

-- ---- heads

pub head_found : (bytes rest : List ℕ) (old new : CursorState) (h : Head) → ahead old ≡ bytes → rest ≡ ahead new
    → PassesHead old new h → Some (h, rest) ≡ head_at bytes
head_found bytes rest old new h is following p =
    ap (λ (r : List ℕ). Some (h, r)) following ∙ sym (ap head_at (sym is ∙ p.parts) ∙ head_again h p.text (ahead new) p.encoded)

no_head_read : (bytes : List ℕ) (r : Read Head) → head_at bytes ≡ r → IsBytes bytes
    → ((h : Head) (text rest : List ℕ) → IsEncodingOfHead h text → bytes ≡ text ++ rest → ⊥) → None ≡ r
no_head_read bytes None e fits none = refl
no_head_read bytes (Some x) e fits none =
    let t = head_takes bytes x.0 x.1 fits e in absurd (none x.0 t.text x.1 t.encoded t.parts)

pub head_missing : (bytes : List ℕ) (old new : CursorState) → ahead old ≡ bytes → IsBytes bytes → FindsNoHead old new
    → None ≡ head_at bytes
head_missing bytes old new is fits f =
    no_head_read bytes (head_at bytes) refl fits (λ h text rest encoded parts. f.none h text rest encoded (is ∙ parts))

-- ---- lists

pub parts_end : (tell : Tell) (margin : List ℕ) (others : ℕ) (left : Option ℕ) (is_first : Bool) (bytes out : List ℕ)
    → goes_on left bytes ≡ false → parts_text tell margin others left is_first bytes out ≡ Some (out, after_last left bytes)
unfolding parts_text
parts_end tell margin zero left is_first bytes out e = rw e refl
parts_end tell margin (suc others) left is_first bytes out e = rw e refl

pub parts_over : (tell : Tell) (margin : List ℕ) (left : Option ℕ) (is_first : Bool) (bytes out : List ℕ)
    → goes_on left bytes ≡ true → parts_text tell margin 0 left is_first bytes out ≡ None
unfolding parts_text
parts_over tell margin left is_first bytes out e = rw e refl

pub parts_broken : (tell : Tell) (margin : List ℕ) (others : ℕ) (left : Option ℕ) (is_first : Bool)
    (bytes out before : List ℕ) → 0 < others → goes_on left bytes ≡ true → before ≡ out ++ separator is_first margin
    → tell bytes before ≡ None → parts_text tell margin others left is_first bytes out ≡ None
unfolding parts_text
parts_broken tell margin zero left is_first bytes out before some e is broken = absurd (omega arith)
parts_broken tell margin (suc others) left is_first bytes out before some e is broken =
    let b = rw is at broken in rw (e, b) refl

pub parts_step : (tell : Tell) (margin : List ℕ) (others : ℕ) (left : Option ℕ) (is_first : Bool)
    (bytes out before text next : List ℕ) → 0 < others → goes_on left bytes ≡ true
    → before ≡ out ++ separator is_first margin → tell bytes before ≡ Some (text, next)
    → parts_text tell margin others left is_first bytes out
    ≡ parts_text tell margin (others - 1) (fewer left) false next text
unfolding parts_text
parts_step tell margin zero left is_first bytes out before text next some e is one = absurd (omega arith)
parts_step tell margin (suc others) left is_first bytes out before text next some e is one =
    let b = rw is at one in simp unary_clauses (rw (e, b) refl)

-- the bytes from an offset on, as a slice has them
pub all_after : (k : ℕ) (bytes : List ℕ) → take (length bytes - k) (drop k bytes) ≡ drop k bytes
all_after k bytes = take_all (length bytes - k) (drop k bytes) (omega (arith, length-drop k bytes))

-- what is wanted is the same
pub tells_as : {E : Type 0} (w v : Read (List ℕ)) (new : List ℕ) (r : Result (Option (Bor (List ℕ))) E) → v ≡ w
    → Tells w new r → Tells v new r
tells_as {E} w v new r e h = subst (λ (x : Read (List ℕ)). Tells x new r) (sym e) h

-- ---- strings

pub piece_short : (is_text : Bool) (indicator : List ℕ) (n : ℕ) (bytes out : List ℕ) → length bytes < n
    → piece_text is_text indicator n bytes out ≡ None
unfolding piece_at
piece_short is_text indicator n bytes out short = rw (lt-ltb (length bytes) n short) refl

not_utf8 : (bytes : List ℕ) (b : Bool) → is_utf8 bytes ≡ b → (IsUtf8 bytes → ⊥) → b ≡ false
not_utf8 bytes false e n = refl
not_utf8 bytes true e n = absurd (n (IsUtf8-from_is_utf8 bytes e))

pub piece_bad : (indicator : List ℕ) (n : ℕ) (bytes out : List ℕ) → n ≤ length bytes → (IsUtf8 (take n bytes) → ⊥)
    → piece_text true indicator n bytes out ≡ None
unfolding piece_at
piece_bad indicator n bytes out long bad =
    rw (le-ltb (length bytes) n long, not_utf8 (take n bytes) (is_utf8 (take n bytes)) refl bad) refl

pub piece_whole : (is_text : Bool) (indicator : List ℕ) (n : ℕ) (bytes out text : List ℕ) → n ≤ length bytes
    → is_allowed is_text (take n bytes) ≡ true → text ≡ out ++ (string_text is_text (take n bytes) ++ indicator)
    → piece_text is_text indicator n bytes out ≡ Some (text, drop n bytes)
unfolding piece_at
piece_whole is_text indicator n bytes out text long allowed is =
    rw (le-ltb (length bytes) n long, allowed) (ap (λ (s : List ℕ). Some (s, drop n bytes)) (sym is))

-- ---- arrays and maps

pub list_none : (tell : List ℕ → Tell) (is_map : Bool) (margin inner indicator : List ℕ) (len : Option ℕ)
    (bytes out opened : List ℕ) → inner ≡ deeper margin
    → opened ≡ out ++ opening_of is_map ∷ (indicator ++ gap indicator margin)
    → all_parts (member_text (tell inner) is_map) inner len bytes opened ≡ None
    → list_after tell is_map margin indicator len bytes out ≡ None
unfolding list_after
list_none tell is_map margin inner indicator len bytes out opened is begun none =
    let n = rw (is, begun) at none in rw n refl

pub list_some : (tell : List ℕ → Tell) (is_map : Bool) (margin inner indicator : List ℕ) (len : Option ℕ)
    (bytes out opened text ended rest : List ℕ) → inner ≡ deeper margin
    → opened ≡ out ++ opening_of is_map ∷ (indicator ++ gap indicator margin)
    → all_parts (member_text (tell inner) is_map) inner len bytes opened ≡ Some (text, rest)
    → ended ≡ text ++ (closing (not (goes_on len bytes)) margin ++ closing_of is_map ∷ [])
    → list_after tell is_map margin indicator len bytes out ≡ Some (ended, rest)
unfolding list_after
list_some tell is_map margin inner indicator len bytes out opened text ended rest is begun some done =
    let n = rw (is, begun) at some in rw n (ap (λ (s : List ℕ). Some (s, rest)) (sym done))

-- ---- data items

pub unsigned_after : (inner : Option (List ℕ → Tell)) (margin : List ℕ) (info n : ℕ) (h : Head)
    (indicator bytes out new : List ℕ) → h ≡ head.Unsigned n → indicator ≡ mark info n
    → new ≡ out ++ (decimal n ++ indicator) → item_after inner margin info h bytes out ≡ Some (new, bytes)
unfolding item_after
unsigned_after inner margin info n h indicator bytes out new is m w =
    let v = rw m at w in rw is (ap (λ (s : List ℕ). Some (s, bytes)) (sym v))

pub negative_after : (inner : Option (List ℕ → Tell)) (margin : List ℕ) (info n : ℕ) (h : Head)
    (indicator bytes out new : List ℕ) → h ≡ head.Negative n → indicator ≡ mark info n
    → new ≡ out ++ (signed_decimal (negsuc n) ++ indicator) → item_after inner margin info h bytes out ≡ Some (new, bytes)
unfolding item_after
negative_after inner margin info n h indicator bytes out new is m w =
    let v = rw m at w in rw is (ap (λ (s : List ℕ). Some (s, bytes)) (sym v))

pub simple_after : (inner : Option (List ℕ → Tell)) (margin : List ℕ) (info n : ℕ) (h : Head) (bytes out new : List ℕ)
    → h ≡ head.Simple n → new ≡ out ++ simple_text n → item_after inner margin info h bytes out ≡ Some (new, bytes)
unfolding item_after
simple_after inner margin info n h bytes out new is w = rw is (ap (λ (s : List ℕ). Some (s, bytes)) (sym w))

pub float_after : (inner : Option (List ℕ → Tell)) (margin : List ℕ) (info : ℕ) (f : FloatParts) (h : Head)
    (bytes out new : List ℕ) → h ≡ head.Float f → new ≡ out ++ float_text f
    → item_after inner margin info h bytes out ≡ Some (new, bytes)
unfolding item_after
float_after inner margin info f h bytes out new is w = rw is (ap (λ (s : List ℕ). Some (s, bytes)) (sym w))

pub break_after : (inner : Option (List ℕ → Tell)) (margin : List ℕ) (info : ℕ) (h : Head) (bytes out : List ℕ)
    → h ≡ head.Break → item_after inner margin info h bytes out ≡ None
unfolding item_after
break_after inner margin info h bytes out is = rw is refl

pub bytes_after : (inner : Option (List ℕ → Tell)) (margin : List ℕ) (info : ℕ) (len : Option ℕ) (h : Head)
    (bytes out : List ℕ) → h ≡ head.Bytes len
    → item_after inner margin info h bytes out ≡ string_after false info len bytes out
unfolding item_after
bytes_after inner margin info len h bytes out is = rw is refl

pub text_after : (inner : Option (List ℕ → Tell)) (margin : List ℕ) (info : ℕ) (len : Option ℕ) (h : Head)
    (bytes out : List ℕ) → h ≡ head.Text len
    → item_after inner margin info h bytes out ≡ string_after true info len bytes out
unfolding item_after
text_after inner margin info len h bytes out is = rw is refl

pub no_array : (levels : ℕ) (margin : List ℕ) (info : ℕ) (len : Option ℕ) (h : Head) (bytes out : List ℕ)
    → levels ≡ 0 → h ≡ head.Array len → item_after (inner_of levels) margin info h bytes out ≡ None
unfolding item_after
no_array levels margin info len h bytes out over is = rw (over, is) refl

pub no_map : (levels : ℕ) (margin : List ℕ) (info : ℕ) (len : Option ℕ) (h : Head) (bytes out : List ℕ)
    → levels ≡ 0 → h ≡ head.Map len → item_after (inner_of levels) margin info h bytes out ≡ None
unfolding item_after
no_map levels margin info len h bytes out over is = rw (over, is) refl

pub no_tag : (levels : ℕ) (margin : List ℕ) (info n : ℕ) (h : Head) (bytes out : List ℕ) → levels ≡ 0
    → h ≡ head.Tag n → item_after (inner_of levels) margin info h bytes out ≡ None
unfolding item_after
no_tag levels margin info n h bytes out over is = rw (over, is) refl

pub array_after : (levels inner : ℕ) (margin : List ℕ) (info : ℕ) (len : Option ℕ) (h : Head)
    (indicator bytes out : List ℕ) → levels ≡ suc inner → h ≡ head.Array len → indicator ≡ length_mark info len
    → item_after (inner_of levels) margin info h bytes out ≡ list_after (item_text inner) false margin indicator len bytes out
unfolding item_after
array_after levels inner margin info len h indicator bytes out one is m = rw (one, is, m) refl

pub map_after : (levels inner : ℕ) (margin : List ℕ) (info : ℕ) (len : Option ℕ) (h : Head)
    (indicator bytes out : List ℕ) → levels ≡ suc inner → h ≡ head.Map len → indicator ≡ length_mark info len
    → item_after (inner_of levels) margin info h bytes out ≡ list_after (item_text inner) true margin indicator len bytes out
unfolding item_after
map_after levels inner margin info len h indicator bytes out one is m = rw (one, is, m) refl

pub tag_inside : (levels inner : ℕ) (margin : List ℕ) (info n : ℕ) (h : Head) (indicator bytes out : List ℕ)
    → levels ≡ suc inner → h ≡ head.Tag n → indicator ≡ mark info n
    → item_after (inner_of levels) margin info h bytes out ≡ tag_after (item_text inner) margin indicator n bytes out
unfolding item_after
tag_inside levels inner margin info n h indicator bytes out one is m = rw (one, is, m) refl

item_headed : (levels : ℕ) (margin bytes out : List ℕ) → item_text levels margin bytes out
    ≡ (head_at bytes >>= λ h. item_after (inner_of levels) margin (info_of bytes) h.0 h.1 out)
unfolding item_text
item_headed zero margin bytes out = refl
item_headed (suc levels) margin bytes out = refl

pub item_none : (levels : ℕ) (margin bytes out : List ℕ) → None ≡ head_at bytes
    → item_text levels margin bytes out ≡ None
item_none levels margin bytes out e =
    item_headed levels margin bytes out
    ∙ bind_none (head_at bytes) (λ h. item_after (inner_of levels) margin (info_of bytes) h.0 h.1 out) (sym e)

pub item_some : (levels : ℕ) (margin : List ℕ) (info : ℕ) (h : Head) (bytes rest out : List ℕ)
    → Some (h, rest) ≡ head_at bytes → info ≡ info_of bytes
    → item_text levels margin bytes out ≡ item_after (inner_of levels) margin info h rest out
item_some levels margin info h bytes rest out e is =
    item_headed levels margin bytes out
    ∙ bind_at (head_at bytes) (h, rest) (λ h. item_after (inner_of levels) margin (info_of bytes) h.0 h.1 out) (sym e)
    ∙ ap (λ (i : ℕ). item_after (inner_of levels) margin i h rest out) (sym is)

-- ---- tags

tag_begun : (n : ℕ) (indicator out numbered opened : List ℕ) → numbered ≡ out ++ (decimal n ++ indicator)
    → opened ≡ numbered ++ 40 ∷ [] → opened ≡ out ++ (decimal n ++ (indicator ++ 40 ∷ []))
tag_begun n indicator out numbered opened number begun =
    begun ∙ ap (λ (s : List ℕ). s ++ 40 ∷ []) number ∙ append_assoc out (decimal n ++ indicator) (40 ∷ [])
    ∙ ap (λ (s : List ℕ). out ++ s) (append_assoc (decimal n) indicator (40 ∷ []))

pub tag_none : (tell : List ℕ → Tell) (margin indicator : List ℕ) (n : ℕ) (bytes out numbered opened : List ℕ)
    → numbered ≡ out ++ (decimal n ++ indicator) → opened ≡ numbered ++ 40 ∷ [] → tell margin bytes opened ≡ None
    → tag_after tell margin indicator n bytes out ≡ None
unfolding tag_after
tag_none tell margin indicator n bytes out numbered opened number begun none =
    let b = tag_begun n indicator out numbered opened number begun in let m = rw b at none in rw m refl

pub tag_some : (tell : List ℕ → Tell) (margin indicator : List ℕ) (n : ℕ) (bytes out numbered opened text ended rest : List ℕ)
    → numbered ≡ out ++ (decimal n ++ indicator) → opened ≡ numbered ++ 40 ∷ []
    → tell margin bytes opened ≡ Some (text, rest) → ended ≡ text ++ 41 ∷ []
    → tag_after tell margin indicator n bytes out ≡ Some (ended, rest)
unfolding tag_after
tag_some tell margin indicator n bytes out numbered opened text ended rest number begun some done =
    let b = tag_begun n indicator out numbered opened number begun in
    let m = rw b at some in rw m (ap (λ (s : List ℕ). Some (s, rest)) (sym done))
