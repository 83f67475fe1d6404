-- The parts of a key (RFC 9052, section 7).
use Rattle.std.specs.Prelude.{ℕ, ℤ, pos, negsuc, ◌<◌, ◌⊎◌, List, [], ◌∷◌, ◌++◌, length, map, Option, Some, None, IsSome, option_map}
use Rattle.std.specs.Option.{IsSomeAnd}
use Rattle.passkey_cbor.specs.Item as item
use Rattle.passkey_cbor.specs.Item.{Item, number, byte_string, array, items_of, pairs_of}
use Rattle.passkey_iana.specs.Iana.{algorithm_number, key_type_number, key_operation_number}
use Rattle.passkey_cose.specs.KeyLabels.{Members}
use Rattle.passkey_cose.specs.Registered.{Named, assigned, named_item, IsText}
use Rattle.passkey_iana.specs.declared.algorithm.Algorithm.{Algorithm}
use Rattle.passkey_iana.specs.declared.key_operation.KeyOperation.{KeyOperation}
use Rattle.passkey_iana.specs.declared.key_type.KeyType.{KeyType}
use Rattle.passkey_iana.specs.declared.key_type.KeyType.TheVariants.{EC2}

-- An empty list of operations means that `key_ops` is absent: any operation is allowed.
pub record KeyParts : Type 0 where
  pub kty : Named KeyType
  pub key_id : Option (List ℕ)
  pub alg : Option (Named Algorithm)
  pub key_ops : List (Named KeyOperation)
  pub base_iv : Option (List ℕ)
  pub params : Members

abbrev pub new_key : Named KeyType → KeyParts
new_key kty = record { kty = kty; key_id = None; alg = None; key_ops = []; base_iv = None; params = [] }

-- a point on an elliptic curve (RFC 9053, section 7.1.1)
abbrev pub ec2_members : ℤ → List ℕ → List ℕ → Members
ec2_members curve x y =
    (let m : Item × Item = (number (negsuc 0), number curve) in m)
    ∷ (let m : Item × Item = (number (negsuc 1), byte_string x) in m)
    ∷ (let m : Item × Item = (number (negsuc 2), byte_string y) in m)
    ∷ []

abbrev pub ec2_key : ℤ → List ℕ → List ℕ → KeyParts
ec2_key curve x y = record (new_key (assigned EC2)) { params = ec2_members curve x y }

-- the member with this common label; none if the value is absent
abbrev pub member : ℕ → Option Item → Members
member n None = []
member n (Some i) = (let m : Item × Item = (number (pos n), i) in m) ∷ []

abbrev pub op_item : Named KeyOperation → Item
op_item = named_item key_operation_number

abbrev pub ops_item : List (Named KeyOperation) → Option Item
ops_item [] = None
ops_item (o ∷ os) = Some (array (items_of (map op_item (o ∷ os))))

abbrev pub key_members : KeyParts → Members
key_members k =
    member 1 (Some (named_item key_type_number k.kty))
    ++ member 2 (option_map byte_string k.key_id)
    ++ member 3 (option_map (named_item algorithm_number) k.alg)
    ++ member 4 (ops_item k.key_ops)
    ++ member 5 (option_map byte_string k.base_iv)
    ++ k.params

-- the map that the key is written as
abbrev pub key_item : KeyParts → Item
key_item k = item.map (pairs_of (key_members k))

-- the keys that take memory to hold: those with a text as type or algorithm, a key id, operations, a Base IV or
-- other parameters
abbrev pub KeyGrows : KeyParts → Type 0
KeyGrows k =
    IsText k.kty
    ⊎ IsSome k.key_id
    ⊎ IsSomeAnd k.alg IsText
    ⊎ (0 < length k.key_ops)
    ⊎ IsSome k.base_iv
    ⊎ (0 < length k.params)
