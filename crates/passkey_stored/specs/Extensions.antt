-- The extension data stored with a passkey.
use Rattle.std.specs.Prelude.{None}
use Rattle.passkey_stored.specs.declared.extensions.CredentialExtensions.{CredentialExtensions}

abbrev pub no_extensions : CredentialExtensions
no_extensions = record { hmac_secret = None }
