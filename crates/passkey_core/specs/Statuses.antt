-- The status bytes of CTAP 2.1, section 8.2.
use Rattle.std.specs.Prelude.{◌≡◌, ℕ, nat_eq, if◌then◌else◌, List, [], ◌∷◌, ◌++◌, Option, Some, None, option_map, Result, Ok, Err}
use Rattle.std.specs.Option.{option_to_list}
use Rattle.passkey_iana.specs.Table.{numbered}
use Rattle.passkey_cose.specs.declared.error.CoseKeyConversionError.{CoseKeyConversionError}
use Rattle.passkey_cose.specs.declared.error.CoseKeyConversionError.TheVariants as reason
use Rattle.passkey_core.specs.declared.status.CodeOutOfRange.{CodeOutOfRange}
use Rattle.passkey_core.specs.declared.status.StatusCode.{StatusCode}
use Rattle.passkey_core.specs.declared.status.StatusCode.TheVariants as status
use Rattle.passkey_core.specs.declared.status.ctap2_error.Ctap2Error.{Ctap2Error}
use Rattle.passkey_core.specs.declared.status.ctap2_error.Ctap2Error.TheVariants as error
use Rattle.passkey_core.specs.StatusBytes.{is_in, unassigned, extension, vendor}

-- the bytes of the statuses that have a name
abbrev pub ctap2_error_byte : Ctap2Error → ℕ
ctap2_error_byte error.Ok = 0x00
ctap2_error_byte error.InvalidCommand = 0x01
ctap2_error_byte error.InvalidParameter = 0x02
ctap2_error_byte error.InvalidLength = 0x03
ctap2_error_byte error.InvalidSequence = 0x04
ctap2_error_byte error.Timeout = 0x05
ctap2_error_byte error.ChannelBusy = 0x06
ctap2_error_byte error.LockRequired = 0x0A
ctap2_error_byte error.InvalidChannel = 0x0B
ctap2_error_byte error.CborUnexpectedType = 0x11
ctap2_error_byte error.InvalidCbor = 0x12
ctap2_error_byte error.MissingParameter = 0x14
ctap2_error_byte error.LimitExceeded = 0x15
ctap2_error_byte error.FingerprintDatabaseFull = 0x17
ctap2_error_byte error.LargeBlobStorageFull = 0x18
ctap2_error_byte error.CredentialExcluded = 0x19
ctap2_error_byte error.Processing = 0x21
ctap2_error_byte error.InvalidCredential = 0x22
ctap2_error_byte error.UserActionPending = 0x23
ctap2_error_byte error.OperationPending = 0x24
ctap2_error_byte error.NoOperations = 0x25
ctap2_error_byte error.UnsupportedAlgorithm = 0x26
ctap2_error_byte error.OperationDenied = 0x27
ctap2_error_byte error.KeyStoreFull = 0x28
ctap2_error_byte error.UnsupportedOption = 0x2B
ctap2_error_byte error.InvalidOption = 0x2C
ctap2_error_byte error.KeepAliveCancel = 0x2D
ctap2_error_byte error.NoCredentials = 0x2E
ctap2_error_byte error.UserActionTimeout = 0x2F
ctap2_error_byte error.NotAllowed = 0x30
ctap2_error_byte error.PinInvalid = 0x31
ctap2_error_byte error.PinBlocked = 0x32
ctap2_error_byte error.PinAuthInvalid = 0x33
ctap2_error_byte error.PinAuthBlocked = 0x34
ctap2_error_byte error.PinNotSet = 0x35
ctap2_error_byte error.PuatRequired = 0x36
ctap2_error_byte error.PinPolicyViolation = 0x37
ctap2_error_byte error.RequestTooLarge = 0x39
ctap2_error_byte error.ActionTimeout = 0x3A
ctap2_error_byte error.UserPresenceRequired = 0x3B
ctap2_error_byte error.UserVerificationBlocked = 0x3C
ctap2_error_byte error.IntegrityFailure = 0x3D
ctap2_error_byte error.InvalidSubcommand = 0x3E
ctap2_error_byte error.UserVerificationInvalid = 0x3F
ctap2_error_byte error.UnauthorizedPermission = 0x40
ctap2_error_byte error.Other = 0x7F

abbrev pub ctap2_errors : List Ctap2Error
ctap2_errors = error.Ok ∷ error.InvalidCommand ∷ error.InvalidParameter ∷ error.InvalidLength
    ∷ error.InvalidSequence ∷ error.Timeout ∷ error.ChannelBusy ∷ error.LockRequired ∷ error.InvalidChannel
    ∷ error.CborUnexpectedType ∷ error.InvalidCbor ∷ error.MissingParameter ∷ error.LimitExceeded
    ∷ error.FingerprintDatabaseFull ∷ error.LargeBlobStorageFull ∷ error.CredentialExcluded ∷ error.Processing
    ∷ error.InvalidCredential ∷ error.UserActionPending ∷ error.OperationPending ∷ error.NoOperations
    ∷ error.UnsupportedAlgorithm ∷ error.OperationDenied ∷ error.KeyStoreFull ∷ error.UnsupportedOption
    ∷ error.InvalidOption ∷ error.KeepAliveCancel ∷ error.NoCredentials ∷ error.UserActionTimeout ∷ error.NotAllowed
    ∷ error.PinInvalid ∷ error.PinBlocked ∷ error.PinAuthInvalid ∷ error.PinAuthBlocked ∷ error.PinNotSet
    ∷ error.PuatRequired ∷ error.PinPolicyViolation ∷ error.RequestTooLarge ∷ error.ActionTimeout
    ∷ error.UserPresenceRequired ∷ error.UserVerificationBlocked ∷ error.IntegrityFailure ∷ error.InvalidSubcommand
    ∷ error.UserVerificationInvalid ∷ error.UnauthorizedPermission ∷ error.Other ∷ []

-- the named status with this byte, if there is one
abbrev pub ctap2_error : ℕ → Option Ctap2Error
ctap2_error = numbered nat_eq ctap2_error_byte ctap2_errors

-- the byte, if it is in one of these ranges
abbrev pub code_in : List (ℕ × ℕ) → ℕ → Option ℕ
code_in ranges byte = if is_in ranges byte then Some byte else None

-- all statuses of a byte: a named one, or one of a class
abbrev pub statuses : ℕ → List StatusCode
statuses byte =
    option_to_list (option_map status.Known (ctap2_error byte))
    ++ option_to_list (option_map status.Other (code_in unassigned byte))
    ++ option_to_list (option_map status.Extension (code_in extension byte))
    ++ option_to_list (option_map status.Vendor (code_in vendor byte))

abbrev pub status_byte : StatusCode → ℕ
status_byte (status.Known e) = ctap2_error_byte e
status_byte (status.Other byte) = byte
status_byte (status.Extension byte) = byte
status_byte (status.Vendor byte) = byte

-- this is the only status of the byte, and the status has this byte
abbrev pub IsStatus : ℕ → StatusCode → Type 0
IsStatus byte code = (statuses byte ≡ code ∷ []) × (status_byte code ≡ byte)

-- the result of converting a byte: the code, or else the byte itself
abbrev pub Converts : {T : Type 0} → (ℕ → Option T) → ℕ → Result T (CodeOutOfRange ℕ) → Type 0
Converts code_of byte (Ok code) = code_of byte ≡ Some code
Converts code_of byte (Err fault) = (code_of byte ≡ None) × (fault.0 ≡ byte)

-- the status for a key that could not be converted
abbrev pub ctap2_error_of : CoseKeyConversionError → Ctap2Error
ctap2_error_of reason.UnsupportedAlgorithm = error.UnsupportedAlgorithm
ctap2_error_of reason.InvalidCredential = error.InvalidCredential
ctap2_error_of (reason.Other _) = error.Other
