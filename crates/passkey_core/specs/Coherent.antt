-- Authenticator data that can be read back after it is written.
use Rattle.std.specs.Prelude.{◌==◌, Bool, true, false, not, ◌&&◌, Option, Some, None}
use Rattle.std.specs.Int.RustNames.{bit_and}
use Rattle.passkey_cbor.specs.Item.{Item, map}
use Rattle.passkey_cose.specs.KeyReadable.{is_shallow, is_key_readable}
use Rattle.passkey_core.specs.DataFlags.{attested_flag, extensions_flag, has_flag}
use Rattle.passkey_core.specs.DataParts.{AttestedParts, DataParts}
use Rattle.passkey_core.specs.Flags.{reserved_flags}

abbrev pub is_map : Item → Bool
is_map (map ps) = true
is_map _ = false

abbrev pub are_extensions_readable : Item → Bool
are_extensions_readable x = is_map x && is_shallow x

-- a part is present, and readable, exactly if its flag is set
abbrev pub agrees : {X : Type 0} → (X → Bool) → Bool → Option X → Bool
agrees is_readable flagged (Some x) = flagged && is_readable x
agrees is_readable flagged None = not flagged

abbrev pub is_coherent : DataParts → Bool
is_coherent d =
    bit_and d.flags reserved_flags == 0
    && agrees (λ (a : AttestedParts). is_key_readable a.key) (has_flag attested_flag d.flags) d.attested
    && agrees are_extensions_readable (has_flag extensions_flag d.flags) d.extensions
