-- The COSE key (RFC 9052, section 7) whose parameters a JSON object has.
use Rattle.std.specs.Prelude.{ℕ, ℤ, pos, negsuc, List, [], ◌∷◌, Option, Some, None, Ok, codes}
use Rattle.std.proofs.Common.{refl}
use Rattle.json.specs.Json.{Json}
use Rattle.passkey_cbor.specs.Item.{Item, number, text_string}
use Rattle.passkey_cbor_text.specs.declared.values.leaf.StringForm.{StringForm}
use Rattle.passkey_cbor_text.specs.declared.values.leaf.StringForm.TheVariants as string
use Rattle.passkey_cbor_text.specs.values.Exact.{ReadsEscapes}
use Rattle.passkey_cbor_text.specs.values.JsonItem.{leaf_item, map_of, member_of, placed}
use Rattle.passkey_cbor_text.specs.values.Keys as keys
use Rattle.passkey_cbor_text.specs.values.NoItem.{Read, read_map, then_with}
use Rattle.passkey_cbor_text.specs.values.Ordered.{Member}
use Rattle.passkey_cbor_text.specs.values.Registries.{Row, named_in}
use Rattle.passkey_render.specs.Parts.{Named, members_of, of_parts, read_all}

-- a parameter's label, and what a string is that is its value
abbrev pub Parameter : Type 0
Parameter = ℤ × StringForm

-- the parameters by their names (IANA's registries "COSE Key Common Parameters" and "COSE Key Type Parameters")
abbrev pub parameters : List (Row Parameter)
parameters = (codes "kty", (pos 1, string.KeyType))
    ∷ (codes "kid", (pos 2, string.Bytes))
    ∷ (codes "alg", (pos 3, string.Algorithm))
    ∷ (codes "key_ops", (pos 4, string.Text))
    ∷ (codes "Base IV", (pos 5, string.Bytes))
    ∷ (codes "crv", (negsuc 0, string.Curve))
    ∷ (codes "x", (negsuc 1, string.Bytes))
    ∷ (codes "y", (negsuc 2, string.Bytes))
    ∷ (codes "n", (negsuc 0, string.Bytes))
    ∷ (codes "e", (negsuc 1, string.Bytes))
    ∷ (codes "k", (negsuc 0, string.Bytes))
    ∷ (codes "pub", (negsuc 0, string.Bytes))
    ∷ []

abbrev pub label_of : Option Parameter → List ℕ → Item
label_of (Some p) name = number p.0
label_of None name = text_string name

abbrev pub form_of : Option Parameter → StringForm
form_of (Some p) = p.1
form_of None = string.Text

abbrev pub parameter_item : Named → Read Member
parameter_item m = (let p = named_in m.0 parameters in
    then_with (λ key. member_of (Ok key) (leaf_item (form_of p) m.1)) (keys.key_item (λ name. Ok (label_of p name)) m.0))

-- the parameters with another one, in CTAP2's order
abbrev pub with_parameter : List Member → Named → Read (List Member)
with_parameter before m = placed before (parameter_item m)

-- the data item that a JSON value is where a key is wanted
abbrev pub key_item : Json → Read Item
key_item j = of_parts (members_of j) (λ ms. read_map map_of (read_all with_parameter [] 0 ms)) (leaf_item string.Text j)

pub key_reads_escapes : ReadsEscapes key_item
key_reads_escapes digits i e = rw e refl
