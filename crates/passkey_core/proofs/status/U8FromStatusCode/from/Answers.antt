use Rattle.std.proofs.Common.{sym, subst}
use Rattle.passkey_core.specs.Statuses.{IsStatus}
use Rattle.passkey_core.proofs.StatusAlone.{other_is, extension_is, vendor_is}
use Rattle.passkey_core.proofs.status.U8FromStatusCode.from.Goals as goal

pub returns-in-Other : goal.returns-in-Other
returns-in-Other c = subst (IsStatus c.into-in-Other.result) (sym c.in-Other.is)
    (other_is c.into-in-Other.result c.into-in-Other.type_inv c.in-Other.error c.into-in-Other.ensures.1)

pub returns-in-Extension : goal.returns-in-Extension
returns-in-Extension c = subst (IsStatus c.into-in-Extension.result) (sym c.in-Extension.is) (extension_is
    c.into-in-Extension.result c.into-in-Extension.type_inv c.in-Extension.error c.into-in-Extension.ensures.1)

pub returns-in-Vendor : goal.returns-in-Vendor
returns-in-Vendor c = subst (IsStatus c.into-in-Vendor.result) (sym c.in-Vendor.is)
    (vendor_is c.into-in-Vendor.result c.into-in-Vendor.type_inv c.in-Vendor.error c.into-in-Vendor.ensures.1)
