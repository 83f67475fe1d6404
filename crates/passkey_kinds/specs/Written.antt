-- The members appended so far.
use Rattle.std.specs.Prelude.{map}
use Rattle.passkey_kinds.specs.Base.{pair_of}
use Rattle.passkey_kinds.specs.Record.{Members}
use Rattle.passkey_kinds.specs.declared.written.MapBuilder.{MapBuilder}

abbrev pub members_of : MapBuilder → Members
members_of w = map pair_of w.members.items
