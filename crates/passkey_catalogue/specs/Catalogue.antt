-- What an input of each kind is, and the kinds' names and numbers.
use Rattle.std.specs.Prelude.{ℕ, Bool, List, false, Option, Some, None, is_some, option_map}
use Rattle.passkey_attestation.specs.declared.format.AttestationFormat.TheVariants as format
use Rattle.passkey_catalogue.specs.CtapKinds.{ctap_kinds}
use Rattle.passkey_catalogue.specs.ClientKinds.{client_kinds}
use Rattle.passkey_catalogue.specs.Numbers.{value_from}
use Rattle.passkey_catalogue.specs.contracts.ctap_kind.CtapKind.{the_type as the_ctap_kind}
use Rattle.passkey_catalogue.specs.contracts.client_kind.ClientKind.{the_type as the_client_kind}
use Rattle.passkey_catalogue.specs.declared.any_json_kind.AnyJsonKind.{AnyJsonKind}
use Rattle.passkey_catalogue.specs.declared.any_json_kind.AnyJsonKind.TheVariants as any
use Rattle.passkey_catalogue.specs.declared.ctap_kind.CtapKind.TheVariants as ctap
use Rattle.passkey_catalogue.specs.declared.ctap_kind.CtapKind.{CtapKind}
use Rattle.passkey_catalogue.specs.declared.form.Form.TheVariants as form
use Rattle.passkey_catalogue.specs.declared.form.Form.{Form}
use Rattle.passkey_catalogue.specs.declared.kind.Kind.TheVariants as kind
use Rattle.passkey_catalogue.specs.declared.kind.Kind.{Kind}
use Rattle.passkey_commands.specs as commands
use Rattle.passkey_kinds.specs.Numbered.{numbered_fields, table_fields}
use Rattle.passkey_kinds.specs.Words.{PlainTable, plain_tree}
use Rattle.passkey_registered.specs as registered
use Rattle.passkey_rewrite.specs.Kinds.{bytes_definition}
use Rattle.passkey_rewrite.specs.Definition.{Definition, message, other}
use Rattle.passkey_rewrite.specs.Kind.{bytes_kinds, json_kinds}
use Rattle.passkey_rewrite.specs.contracts.kind.BytesKind.{the_type as the_bytes_kind}
use Rattle.passkey_rewrite.specs.contracts.kind.JsonKind.{the_type as the_json_kind}
use Rattle.passkey_webauthn.specs.Names.{own_name, value_in}

-- a message that one table defines, with numbers for its members, or with names alone
abbrev by_table : {M : Type 0} → PlainTable M → Definition Form
by_table t = message (numbered_fields t) (plain_tree t)

abbrev by_names : {M : Type 0} → PlainTable M → Definition Form
by_names t = message (table_fields false t) (plain_tree t)

abbrev pub ctap_definition : CtapKind → Definition Form
ctap_definition ctap.PinRequest = by_table commands.client_pin.PinRequest.pin_request
ctap_definition ctap.PinResponse = by_table commands.client_pin.PinResponse.pin_response
ctap_definition ctap.BioRequest = by_table commands.bio_enrollment.BioRequest.bio_request
ctap_definition ctap.BioResponse = by_table commands.bio_enrollment.BioResponse.bio_response
ctap_definition ctap.CredentialRequest = by_table commands.credential_management.CmRequest.cm_request
ctap_definition ctap.CredentialResponse = by_table commands.credential_management.CmResponse.cm_response
ctap_definition ctap.BlobsRequest = by_table commands.large_blobs.LbRequest.lb_request
ctap_definition ctap.BlobsResponse = by_table commands.large_blobs.LbResponse.lb_response
ctap_definition ctap.BlobsEntry = by_table commands.large_blobs.LargeBlob.large_blob
ctap_definition ctap.ConfigRequest = by_table commands.config.CfgRequest.cfg_request
ctap_definition ctap.ConfigMinPinLength = by_table commands.config.MinPinLengthParameters.min_pin_length_parameters
ctap_definition ctap.ConfigVendor = by_table commands.config.VendorParameters.vendor_parameters
ctap_definition ctap.Key = other form.Key
ctap_definition ctap.Info23 = by_table registered.get_info.Information.information
ctap_definition ctap.MakeInputs = by_names registered.extensions.MakeCredentialInputs.make_credential_inputs
ctap_definition ctap.MakeOutputs = by_names registered.extensions.MakeCredentialOutputs.make_credential_outputs
ctap_definition ctap.MakeUnsigned = by_names registered.extensions.Unsigned.make_credential_unsigned
ctap_definition ctap.GetInputs = by_names registered.extensions.GetAssertionInputs.get_assertion_inputs
ctap_definition ctap.GetOutputs = by_names registered.extensions.GetAssertionOutputs.get_assertion_outputs
ctap_definition ctap.GetUnsigned = by_names registered.extensions.Unsigned.get_assertion_unsigned
ctap_definition ctap.PackedStatement = other (form.Statement format.Packed)
ctap_definition ctap.TpmStatement = other (form.Statement format.Tpm)
ctap_definition ctap.AndroidKeyStatement = other (form.Statement format.AndroidKey)
ctap_definition ctap.SafetyNetStatement = other (form.Statement format.AndroidSafetyNet)
ctap_definition ctap.FidoU2fStatement = other (form.Statement format.FidoU2f)
ctap_definition ctap.NoneStatement = other (form.Statement format.None)
ctap_definition ctap.AppleStatement = other (form.Statement format.Apple)
ctap_definition ctap.CompoundStatement = other (form.Statement format.Compound)
ctap_definition ctap.CertInfo = other form.CertInfo
ctap_definition ctap.PubArea = other form.PubArea
ctap_definition ctap.CtapMakeRequest = by_table registered.make_credential.McRequest.mc_request
ctap_definition ctap.CtapGetRequest = by_table registered.get_assertion.GaRequest.ga_request
ctap_definition ctap.CtapMakeResponse = by_table registered.make_credential.McResponse.mc_response
ctap_definition ctap.CtapGetResponse = by_table registered.get_assertion.GaResponse.ga_response
ctap_definition ctap.AttestationObject = by_table registered.make_credential.AttestationObject.attestation_object

abbrev pub definition : Kind → Definition Form
definition (kind.Bytes k) = bytes_definition k
definition (kind.Json k) = other (form.Json (any.Ceremony k))
definition (kind.Ctap k) = ctap_definition k
definition (kind.Client k) = other (form.Json (any.Client k))

-- the first that is there
abbrev or_else : {A : Type 0} → Option A → Option A → Option A
or_else (Some x) next = Some x
or_else None next = next

-- the kind with this name
abbrev pub kind_named : List ℕ → Option Kind
kind_named name =
    or_else (option_map (λ k. kind.Bytes k) (value_in bytes_kinds name))
    (or_else (option_map (λ k. kind.Json k) (value_in json_kinds name))
    (or_else (option_map (λ k. kind.Ctap k) (value_in ctap_kinds name))
    (option_map (λ k. kind.Client k) (value_in client_kinds name))))

abbrev pub name_of : Kind → List ℕ
name_of (kind.Bytes k) = own_name the_bytes_kind bytes_kinds k
name_of (kind.Json k) = own_name the_json_kind json_kinds k
name_of (kind.Ctap k) = own_name the_ctap_kind ctap_kinds k
name_of (kind.Client k) = own_name the_client_kind client_kinds k

-- the kind with this number in C
abbrev pub kind_numbered : ℕ → Option Kind
kind_numbered n =
    or_else (option_map (λ k. kind.Bytes k) (value_from bytes_kinds 1 n))
    (or_else (option_map (λ k. kind.Json k) (value_from json_kinds 9 n))
    (option_map (λ k. kind.Ctap k) (value_from ctap_kinds 14 n)))

-- the kind at this place in the list of all kinds: those with a number in C at their number, and the others from 200 on
abbrev pub kind_at : ℕ → Option Kind
kind_at n = or_else (kind_numbered n) (option_map (λ k. kind.Client k) (value_from client_kinds 200 n))

-- the kind of JSON text that it is, if it is one
abbrev pub json_of : Kind → Option AnyJsonKind
json_of (kind.Bytes k) = None
json_of (kind.Ctap k) = None
json_of (kind.Json k) = Some (any.Ceremony k)
json_of (kind.Client k) = Some (any.Client k)

abbrev pub is_json : Kind → Bool
is_json k = is_some (json_of k)
