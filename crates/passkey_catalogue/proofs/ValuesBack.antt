-- The values of an input are encoded as the input is.
use Rattle.std.proofs.Common.{◌≡◌, ◌∙◌, ℕ, ◌≤◌, List, [], length, Some, Ok, Result, sym, ap, subst, append-nil}
use Rattle.json.specs.Json.{Json}
use Rattle.passkey_attestation.specs.Formats.{format_name}
use Rattle.passkey_attestation.specs.Statement.{read_statement}
use Rattle.passkey_catalogue.specs.Rewriting.{Encodes, EncodesForm}
use Rattle.passkey_catalogue.specs.Values.{EncodesValues, ShowsData, ShowsItem, ShowsJson, ShowsValues, StandsForItem}
use Rattle.passkey_catalogue.specs.declared.form.Form.{Form}
use Rattle.passkey_catalogue.specs.declared.form.Form.TheVariants as form
use Rattle.passkey_cbor.specs.Depth.{depth}
use Rattle.passkey_cbor.specs.Item.{Item, byte_string}
use Rattle.passkey_cbor.specs.Laws.{AtMostOneLeadingItem, WrittenIsLeadingItem}
use Rattle.passkey_cbor.specs.LeadingItem.{IsLeadingItem, max_depth}
use Rattle.passkey_cbor.specs.Writable.{IsWritable}
use Rattle.passkey_cbor.specs.Written.{written}
use Rattle.passkey_cbor_text.specs.values.Exact.{IsJsonOf}
use Rattle.passkey_cbor_text.specs.values.NoItem.{Read}
use Rattle.passkey_core.specs.DataLaws.{OneReading}
use Rattle.passkey_core.specs.DataReading.{ReadsData}
use Rattle.passkey_core.specs.DataWritten.{data_written}
use Rattle.passkey_cose.specs.KeyReading.{read_key}
use Rattle.passkey_json.specs.Fault.{Fault}
use Rattle.passkey_kinds.specs.Message.{Begins}
use Rattle.passkey_kinds.specs.Record.{read_item}
use Rattle.passkey_rewrite.specs.Definition.{Definition, authenticator, item, message, other}
use Rattle.passkey_rewrite.specs.RewritesJson.{RewritesJson}
use Rattle.passkey_rewrite.specs.Rewriting.{RewritesData}
use Rattle.serde_json.specs.Data.{Data}

-- a text is JSON that is one data item at most
same_item : (means : Json → Read Item) (i j : Item) (text : List ℕ) → IsJsonOf means i text → IsJsonOf means j text → i ≡ j
same_item means i j text a b =
    let same : Some a.value ≡ Some b.value = sym a.parsed ∙ b.parsed in
    let value : a.value ≡ b.value = cc in
    let both : Ok i ≡ Ok j = sym a.meant ∙ ap means value ∙ b.meant in
    cc

same_string : (means : Json → Read Item) (s t text : List ℕ) → IsJsonOf means (byte_string s) text
    → IsJsonOf means (byte_string t) text → s ≡ t
same_string means s t text a b =
    let same : byte_string s ≡ byte_string t = same_item means (byte_string s) (byte_string t) text a b in cc

-- the data item that begins its encoding
front_again : AtMostOneLeadingItem → WrittenIsLeadingItem → (i j : Item) (len : ℕ) → IsWritable i → depth i ≤ max_depth
    → IsLeadingItem (written i) j len → i ≡ j
front_again once law i j len writable few front =
    let own : IsLeadingItem (written i) i (length (written i)) =
    subst (λ (bs : List ℕ). IsLeadingItem bs i (length (written i))) (append-nil (written i)) (law i [] writable few) in
    (once (written i) i j (length (written i)) len own front).0

module _ (once : AtMostOneLeadingItem) (law : WrittenIsLeadingItem) (d : Definition Form) (means : Json → Read Item)
    (bytes text input : List ℕ) (n : ℕ) (s : ShowsItem d means bytes text n) (e : StandsForItem means text input) where
  same : s.front ≡ e.front
  same = same_item means s.front e.front text s.shown e.shown

  is_front : (j : Item) (len : ℕ) → IsLeadingItem input j len → s.front ≡ j
  is_front j len front = same ∙ front_again once law e.front j len e.writable
      (subst (λ (x : Item). depth x ≤ max_depth) same s.begins.shallow)
      (subst (λ (bs : List ℕ). IsLeadingItem bs j len) e.encoded front)

  -- what decodes the data item that begins its encoding, decodes the one that begins the input
  begins_again : {P E : Type 0} (read : Item → Result P E) (p : P) → Begins input (λ i len. read i ≡ Ok p)
      → Begins bytes (λ i len. read i ≡ Ok p)
  begins_again read p b = record {
    item = s.front;
    len = n;
    front = s.begins;
    holds = ap read (is_front b.item b.len b.front) ∙ b.holds;
  }

data_again : OneReading → (bytes text input encoding : List ℕ) (n : ℕ) (s : ShowsData bytes text n)
    → s.same ≡ input → RewritesData input encoding → RewritesData bytes encoding
data_again once bytes text input encoding n s is r =
    let both : Ok s.parts ≡ Ok r.parts = once input (Ok s.parts) (Ok r.parts)
    (subst (λ (bs : List ℕ). ReadsData bs (Ok s.parts)) is s.same_parts) r.reads in
    let parts : r.parts ≡ s.parts = cc in
    record { parts = s.parts; reads = s.reads; rewritten = r.rewritten ∙ ap data_written parts }

json_again : (rewritten : Data → Result (List ℕ) Fault) (bytes text encoding : List ℕ) (n : ℕ)
    (s : ShowsJson rewritten bytes text n) → RewritesJson rewritten text encoding → RewritesJson rewritten bytes encoding
json_again rewritten bytes text encoding n s r =
    let both : Some s.encoded_alike.value ≡ Some r.value = sym s.encoded_alike.reads.1 ∙ r.reads.1 in
    let value : s.encoded_alike.value ≡ r.value = cc in
    let made : Ok s.encoding ≡ Ok encoding = sym s.encoded_alike.made ∙ ap rewritten value ∙ r.made in
    let same : s.encoding ≡ encoding = cc in
    subst (λ (bs : List ℕ). RewritesJson rewritten bytes bs) same s.encoded

pub encoded_as_input : AtMostOneLeadingItem → WrittenIsLeadingItem → OneReading → (d : Definition Form)
    (bytes text encoding : List ℕ) (n : ℕ) → ShowsValues d bytes text n → EncodesValues d text encoding
    → Encodes d bytes encoding n
encoded_as_input once law one item bytes text encoding n s e =
    let r = e.encodes.0 in (
      record {
        front = s.front;
        len = n;
        begins = s.begins;
        rewritten = r.rewritten
            ∙ ap written (sym (is_front once law item _ bytes text e.input n s e.stands r.front r.len r.begins));
      },
      (s.front, s.begins),
    )
encoded_as_input once law one authenticator bytes text encoding n s e =
    (data_again one bytes text e.input encoding n s (same_string _ s.same e.input text s.shown e.stands) e.encodes.0, s.measured)
encoded_as_input once law one (message t tree) bytes text encoding n s e =
    let r = e.encodes.0 in
    let begins = begins_again once law (message t tree) _ bytes text e.input n s e.stands (read_item t) r.parts r.begins in
    (record { parts = r.parts; begins = begins; rewritten = r.rewritten }, (s.front, s.begins))
encoded_as_input once law one (other form.Key) bytes text encoding n s e =
    let r = e.encodes.0 in
    let begins = begins_again once law (other form.Key) _ bytes text e.input n s e.stands read_key r.parts r.begins in
    (record { parts = r.parts; begins = begins; rewritten = r.rewritten }, (s.front, s.begins))
encoded_as_input once law one (other (form.Statement f)) bytes text encoding n s e =
    let r = e.encodes.0 in
    let read = read_statement (format_name f) in
    let begins = begins_again once law (other (form.Statement f)) _ bytes text e.input n s e.stands read r.parts r.begins in
    (record { parts = r.parts; begins = begins; rewritten = r.rewritten }, (s.front, s.begins))
encoded_as_input once law one (other form.CertInfo) bytes text encoding n s e = (
  subst (λ (bs : List ℕ). EncodesForm form.CertInfo bs encoding) (same_string _ e.input bytes text e.stands s.shown)
      e.encodes.0,
  s.whole,
)
encoded_as_input once law one (other form.PubArea) bytes text encoding n s e = (
  subst (λ (bs : List ℕ). EncodesForm form.PubArea bs encoding) (same_string _ e.input bytes text e.stands s.shown)
      e.encodes.0,
  s.whole,
)
encoded_as_input once law one (other (form.Json k)) bytes text encoding n s e = (
  json_again _ bytes text encoding n s (subst (λ (bs : List ℕ). EncodesForm (form.Json k) bs encoding) e.stands
      e.encodes.0),
  s.whole,
)
