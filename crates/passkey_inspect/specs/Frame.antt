-- What stands before a message whose kind isn't named (CTAP 2.1, section 8).
use Rattle.std.specs.Prelude.{ℕ, List, [], ◌∷◌, Bool, true, false, ◌==◌, ◌||◌, ◌&&◌, ◌/◌, if◌then◌else◌, Option, Some, None}
use Rattle.passkey_catalogue.specs.declared.ctap_kind.CtapKind.TheVariants as ctap
use Rattle.passkey_catalogue.specs.declared.kind.Kind.{Kind}
use Rattle.passkey_catalogue.specs.declared.kind.Kind.TheVariants.{Bytes, Ctap}
use Rattle.passkey_commands.specs.framing.Command.{command_of}
use Rattle.passkey_commands.specs.declared.framing.command.Command.{Command}
use Rattle.passkey_commands.specs.declared.framing.command.Command.TheVariants as command
use Rattle.passkey_rewrite.specs.declared.kind.BytesKind.TheVariants as bytes
use Rattle.passkey_inspect.specs.declared.frame.Frame.{Frame}
use Rattle.passkey_inspect.specs.declared.frame.Frame.TheVariants as frame

-- no bytes, or bytes that a map begins (RFC 8949, section 3.1)
abbrev pub is_body : List ℕ → Bool
is_body [] = true
is_body (first ∷ rest) = first / 32 == 5

abbrev pub is_named : Command → Bool
is_named (command.Other n) = false
is_named _ = true

-- the status code CTAP2_OK, or a command that the standard names
abbrev pub is_frame : ℕ → Bool
is_frame first = first == 0 || is_named (command_of first)

-- the message: what follows a status code or a command, if it may be a body; else all of the bytes
abbrev pub body_in : List ℕ → List ℕ
body_in [] = []
body_in (first ∷ rest) = if is_frame first && is_body rest then rest else first ∷ rest

-- the kind of a command's parameters
abbrev pub request_kind : Command → Option Kind
request_kind command.MakeCredential = Some (Bytes bytes.MakeRequest)
request_kind command.GetAssertion = Some (Bytes bytes.GetRequest)
request_kind command.ClientPin = Some (Ctap ctap.PinRequest)
request_kind command.BioEnrollment = Some (Ctap ctap.BioRequest)
request_kind command.PrototypeBioEnrollment = Some (Ctap ctap.BioRequest)
request_kind command.CredentialManagement = Some (Ctap ctap.CredentialRequest)
request_kind command.PrototypeCredentialManagement = Some (Ctap ctap.CredentialRequest)
request_kind command.LargeBlobs = Some (Ctap ctap.BlobsRequest)
request_kind command.Config = Some (Ctap ctap.ConfigRequest)
request_kind _ = None

-- the kind of which a command before the message tells
abbrev pub kind_in : List ℕ → Option Kind
kind_in [] = None
kind_in (first ∷ rest) = if is_body rest then request_kind (command_of first) else None

-- the kind of which what stands before a message tells
abbrev pub framed_kind : Frame → Option Kind
framed_kind (frame.Command c) = request_kind c
framed_kind _ = None
