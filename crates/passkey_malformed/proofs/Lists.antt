-- Data items one after the other.
use Rattle.std.proofs.Common.{◌≡◌, ◌∙◌, ℕ, zero, suc, ◌*◌, ◌<◌, ◌≤◌, List, [], ◌∷◌, ◌++◌, length, Option, Some, None, refl, sym, ap, append_assoc, arith}
use Rattle.std.proofs.lemmas.List.{length-append}
use Rattle.passkey_cbor.specs.Item.{Item}
use Rattle.passkey_cbor.specs.Languages.{Language, Each}
use Rattle.passkey_cbor.specs.Heads.{break}
use Rattle.passkey_cbor.specs.Inside.{Within, PairWithin, Left}
use Rattle.passkey_cbor.specs.Reading.{Reader, item_within}
use Rattle.passkey_cbor.proofs.items.Items.{follows_item}
use Rattle.passkey_cbor.proofs.items.Lists.{each_and_one, Follows, encoded_long, each_long}
use Rattle.passkey_malformed.specs.Stops.{Begins, ItemLeads}

-- ---- one more after the others

pub none_yet : {A : Type 0} (P : A → Language) (bytes : List ℕ) → Begins (Each P []) bytes bytes
none_yet P bytes = record { text = []; encoded = refl; parts = refl }

pub one_more : {A : Type 0} (P : A → Language) (xs : List A) (x : A) (bytes here next : List ℕ)
    → Begins (Each P xs) bytes here → Begins (P x) here next → Begins (Each P (xs ++ x ∷ [])) bytes next
one_more P xs x bytes here next before b = record {
  text = before.text ++ b.text;
  encoded = each_and_one P xs x before.text b.text before.encoded b.encoded;
  parts = before.parts ∙ ap (λ (r : List ℕ). before.text ++ r) b.parts ∙ sym (append_assoc before.text b.text next);
}

pub one_long : {A : Type 0} (P : A → Language) (read : Reader A) → Follows P read → (x : A) (bytes rest : List ℕ)
    → Begins (P x) bytes rest → length rest < length bytes
one_long P read f x bytes rest b = omega (
  arith,
  encoded_long P read f x b.text b.encoded,
  length-append b.text rest,
  ap length b.parts,
)

pub item_long : (levels : ℕ) (bytes rest : List ℕ) → ItemLeads levels bytes rest → length rest < length bytes
item_long levels bytes rest i =
    one_long (Within levels) (item_within levels) (follows_item levels) i.0 bytes rest i.1

pub items_long : (levels : ℕ) (xs : List Item) (bytes rest : List ℕ) → Begins (Each (Within levels) xs) bytes rest
    → length xs ≤ length bytes
items_long levels xs bytes rest b = omega (
  arith,
  each_long (Within levels) (item_within levels) (follows_item levels) xs b.text b.encoded,
  length-append b.text rest,
  ap length b.parts,
)

-- ---- the end of a list

-- The list of this length ends after n elements.
abbrev pub Ends : Option ℕ → ℕ → List ℕ → List ℕ → Type 0
Ends (Some m) n here rest = (m ≡ n) × (rest ≡ here)
Ends None n here rest = here ≡ break ∷ rest

pub ended : {A : Type 0} (P : A → Language) (len : Option ℕ) (xs : List A) (bytes here rest : List ℕ)
    → Begins (Each P xs) bytes here → Ends len (length xs) here rest → Begins (Left P len xs) bytes rest
ended P (Some m) xs bytes here rest b e = record {
  text = b.text;
  encoded = (e.0, b.encoded);
  parts = b.parts ∙ ap (λ (r : List ℕ). b.text ++ r) (sym e.1);
}
ended P None xs bytes here rest b e = record {
  text = b.text ++ break ∷ [];
  encoded = record { front = b.text; back = break ∷ []; first = b.encoded; second = refl; whole = refl };
  parts = b.parts ∙ ap (λ (r : List ℕ). b.text ++ r) e ∙ sym (append_assoc b.text (break ∷ []) rest);
}

-- ---- the pairs of a map, from its keys and values in turn

pub record Paired (levels n : ℕ) (t : List ℕ) : Type 0 where
  pub pairs : List (Item × Item)
  pub count : length pairs ≡ n
  pub encoded : Each (PairWithin levels) pairs t

pub paired : (levels n : ℕ) (xs : List Item) (t : List ℕ) → length xs ≡ 2 * n → Each (Within levels) xs t
    → Paired levels n t
paired levels zero [] t e s = record { pairs = []; count = refl; encoded = s }
paired levels zero (x ∷ xs) t e s = absurd (omega arith)
paired levels (suc n) [] t e s = absurd (omega arith)
paired levels (suc n) (x ∷ []) t e s = absurd (omega arith)
paired levels (suc n) (k ∷ v ∷ xs) t e s =
    let r = s.second in
    let more = paired levels n xs r.back (omega arith) r.second in
    let both : Item × Item = (k, v) in
    record {
      pairs = both ∷ more.pairs;
      count = ap suc more.count;
      encoded = record {
        front = s.front ++ r.front;
        back = r.back;
        first = record { front = s.front; back = r.front; first = s.first; second = r.first; whole = refl };
        second = more.encoded;
        whole = s.whole ∙ ap (λ (q : List ℕ). s.front ++ q) r.whole ∙ sym (append_assoc s.front r.front r.back);
      };
    }
