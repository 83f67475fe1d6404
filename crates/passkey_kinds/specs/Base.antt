-- The names of lower crates that definitions and contracts cite, passed on from one place. Declares nothing.
pub use Rattle.passkey_bytes.specs.Encoding.{text_bytes}
pub use Rattle.passkey_bytes.specs.Map.{ByteMap}
pub use Rattle.passkey_cbor.specs.Depth.{depth}
pub use Rattle.passkey_cbor.specs.EncodedAt.{PairsAreEncodedAt, IsEncodedAt}
pub use Rattle.passkey_cbor.specs.Encoder.{encoding}
pub use Rattle.passkey_cbor.specs.Grows.{Grows}
pub use Rattle.passkey_cbor.specs.Item.{Item, number, items_of, boolean, byte_string, text_string, elements, members, array, null}
pub use Rattle.passkey_cbor.specs.LeadingItem.{IsLeadingItem, max_depth}
pub use Rattle.passkey_cbor.specs.Lent.{IsRegion, HoldsString}
pub use Rattle.passkey_cbor.specs.View.{pair_of, item_of}
pub use Rattle.passkey_cbor.specs.HeadCount.{CountsHeads, heads_of}
pub use Rattle.passkey_cbor.specs.CursorState.{CursorState, LooksOnce, raised}
pub use Rattle.passkey_cbor.specs.Nodes.{nodes}
pub use Rattle.passkey_cbor.specs.Writable.{IsWritable}
pub use Rattle.passkey_cbor.specs.Written.{written}
pub use Rattle.passkey_core.specs.Coherent.{is_coherent}
pub use Rattle.passkey_core.specs.DataNodes.{data_heads, data_nodes}
pub use Rattle.passkey_core.specs.DataNormal.{IfPresent, IsData, normal_data}
pub use Rattle.passkey_core.specs.DataParts.{DataParts, bare_data}
pub use Rattle.passkey_core.specs.DataViews.{data_parts}
pub use Rattle.passkey_iana.specs.Iana.{algorithm_number, algorithm_named}
pub use Rattle.passkey_iana.specs.declared.algorithm.Algorithm.{Algorithm}
pub use Rattle.passkey_webauthn.specs.CredentialType.{credential_type_named}
pub use Rattle.passkey_webauthn.specs.NumberText.{signed_64, whole_64}
pub use Rattle.passkey_webauthn.specs.Transport.{transport_named}
pub use Rattle.passkey_webauthn.specs.declared.credential_type.PublicKeyCredentialType.TheVariants.{Unknown}
pub use Rattle.passkey_webauthn.specs.declared.descriptor.PublicKeyCredentialDescriptor.{PublicKeyCredentialDescriptor}
pub use Rattle.passkey_webauthn.specs.declared.parameters.PublicKeyCredentialParameters.{PublicKeyCredentialParameters}
pub use Rattle.passkey_webauthn.specs.declared.transport.AuthenticatorTransport.{AuthenticatorTransport}
pub use Rattle.passkey_webauthn.specs.declared.user.PublicKeyCredentialUserEntity.{PublicKeyCredentialUserEntity}
