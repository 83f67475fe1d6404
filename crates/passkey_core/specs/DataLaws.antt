-- Laws of authenticator data.
use Rattle.std.specs.Prelude.{◌≡◌, ℕ, List, ◌++◌, true, Result, Ok}
use Rattle.passkey_cbor.specs.Bytes.{IsBytes}
use Rattle.passkey_cose.specs.declared.error.CoseError.{CoseError}
use Rattle.passkey_core.specs.Coherent.{is_coherent}
use Rattle.passkey_core.specs.DataNormal.{normal_data, IsData}
use Rattle.passkey_core.specs.DataParts.{DataParts}
use Rattle.passkey_core.specs.DataRead.{read_data}
use Rattle.passkey_core.specs.DataReading.{ReadsData, ReadsDataExactly}
use Rattle.passkey_core.specs.DataWritten.{data_written}

-- Bytes have only one reading: certain data, or a certain error.
abbrev pub OneReading : Type 0
OneReading = (bytes : List ℕ) (a b : Result DataParts CoseError) → ReadsData bytes a → ReadsData bytes b → a ≡ b

-- What `read_data` returns for bytes, data or an error, is their reading.
abbrev pub GivenIsRead : Type 0
GivenIsRead = (bytes : List ℕ) → IsBytes bytes → ReadsData bytes (read_data bytes)

-- If bytes are read as data, `read_data` returns it.
abbrev pub ReadIsGiven : Type 0
ReadIsGiven = (bytes : List ℕ) (d : DataParts) → ReadsData bytes (Ok d) → read_data bytes ≡ Ok d

-- What `read_data` returns is coherent.
abbrev pub GivenIsCoherent : Type 0
GivenIsCoherent = (bytes : List ℕ) (d : DataParts) → read_data bytes ≡ Ok d → is_coherent d ≡ true

-- Data that is read is coherent.
abbrev pub ReadIsCoherent : Type 0
ReadIsCoherent = (bytes : List ℕ) (d : DataParts) → ReadsData bytes (Ok d) → is_coherent d ≡ true

-- Coherent data, when written, is read as its normal form, whatever bytes follow.
abbrev pub WrittenDataAreReadBack : Type 0
WrittenDataAreReadBack = (d : DataParts) (rest : List ℕ) → IsData d → is_coherent d ≡ true
    → ReadsData (data_written d ++ rest) (Ok (normal_data d))

-- What is read exactly is read with trailing bytes ignored, too.
abbrev pub ExactReadingIsReading : Type 0
ExactReadingIsReading = (bytes : List ℕ) (d : DataParts) → ReadsDataExactly bytes (Ok d) → ReadsData bytes (Ok d)

-- Coherent data, when written, is read exactly, as its normal form.
abbrev pub WrittenDataAreReadExactly : Type 0
WrittenDataAreReadExactly = (d : DataParts) → IsData d → is_coherent d ≡ true
    → ReadsDataExactly (data_written d) (Ok (normal_data d))
