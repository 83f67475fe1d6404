use Rattle.std.proofs.Common.{◌≡◌, ◌++◌, option_map, drop}
use Rattle.passkey_json.specs.Kind.{each}
use Rattle.passkey_well_known.specs.UrlKind.{url, ComesTo, HasNoRoom, AnyText}
use Rattle.passkey_well_known.proofs.url_list.read_urls.Given as goal
use Rattle.serde_json.specs.View.{items_view}

abbrev pub invariant-loop-text : goal.invariant-loop-text
invariant-loop-text g l = record {
  read :
      option_map (λ us. l.urls.items ++ us) (each url (items_view (drop l.text-index l.text-items)))
      ≡ each url (items_view l.text-items);
  no_room : ComesTo (HasNoRoom g.P.UrlParser.Returns) (items_view (drop l.text-index l.text-items))
      → ComesTo (HasNoRoom g.P.UrlParser.Returns) (items_view l.text-items);
  any : ComesTo AnyText (items_view (drop l.text-index l.text-items)) → ComesTo AnyText (items_view l.text-items);
}
