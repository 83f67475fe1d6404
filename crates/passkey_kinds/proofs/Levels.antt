-- The nesting levels of records, by those of the values under their keys.
use Rattle.passkey_kinds.proofs.Common.{depth, pairs_depth, Item, pairs_of, WrittenIsLeadingItem, max_depth, each, WrittenIsReadBack, Members, AllAccepted, MemberAccepted, Place, record_tree, under, laid, Fault, ◌≡◌, ℕ, suc, arith, Bool, true, ◌&&◌, List, [], ◌∷◌, ◌++◌, Option, Some, None, option_map, ◌≤◌, Result, nat_le, Ok, max}

-- ---- what holds of each key and value of a record's places

-- the place has no value, or its key and its value have the property
abbrev pub PlaceHas : (Item → Type 0) → Item → Option Item → Type 0
PlaceHas = MemberAccepted

abbrev pub EachPlace : (Item → Type 0) → List Place → Type 0
EachPlace = AllAccepted

-- the same for the members that the places are laid out as
module _ (Q : Item → Type 0) (All : Members → Type 0) where
  under_has : (key : Item) (o : Option Item) (ms : Members) → ((x : Item) → Q key → Q x → All ms → All ((key, x) ∷ ms))
      → PlaceHas Q key o → All ms → All (under key o ++ ms)
  under_has key None ms more here rest = rest
  under_has key (Some x) ms more here rest = more x here.0 here.1 rest

  pub laid_has : ((key x : Item) (ms : Members) → Q key → Q x → All ms → All ((key, x) ∷ ms)) → All []
      → (ps : List Place) → EachPlace Q ps → All (laid ps)
  laid_has more none [] h = none
  laid_has more none (p ∷ ps) h =
      under_has p.0 p.1 (laid ps) (λ x. more p.0 x (laid ps)) h.0 (laid_has more none ps h.1)

  has_under : (key : Item) (o : Option Item) (ms : Members)
      → ((x : Item) → All ((key, x) ∷ ms) → (Q key × Q x) × All ms) → All (under key o ++ ms) → PlaceHas Q key o × All ms
  has_under key None ms parts h = (tt, h)
  has_under key (Some x) ms parts h = parts x h

  pub has_laid : ((key x : Item) (ms : Members) → All ((key, x) ∷ ms) → (Q key × Q x) × All ms)
      → (ps : List Place) → All (laid ps) → EachPlace Q ps
  has_laid parts [] h = tt
  has_laid parts (p ∷ ps) h =
      let both = has_under p.0 p.1 (laid ps) (λ x. parts p.0 x (laid ps)) h in
      (both.0, has_laid parts ps both.1)

pub option_has : {A : Type 0} (Q : Item → Type 0) (tree : A → Item) (key : Item) → Q key → ((x : A) → Q (tree x))
    → (o : Option A) → PlaceHas Q key (option_map tree o)
option_has Q tree key keyed each None = tt
option_has Q tree key keyed each (Some x) = (keyed, each x)

-- ---- the nesting levels of records, by those of the values under their keys

abbrev pub Within : ℕ → List Place → Type 0
Within n = EachPlace (λ i. depth i ≤ n)

both_within : (a b n : ℕ) → a ≤ n → b ≤ n → max a b ≤ n
both_within a b n p q = omega (arith, p, q)

each_within : (a b n : ℕ) → max a b ≤ n → (a ≤ n) × (b ≤ n)
each_within a b n p = (omega (arith, p), omega (arith, p))

laid_within : (n : ℕ) (ps : List Place) → Within n ps → pairs_depth (pairs_of (laid ps)) ≤ n
laid_within n = laid_has (λ i. depth i ≤ n) (λ ms. pairs_depth (pairs_of ms) ≤ n)
    (λ key x ms k v rest. grind (arith, both_within)) (omega arith)

-- a record has one level more than its keys and values
pub record_within : (n : ℕ) (ps : List Place) → Within n ps → depth (record_tree ps) ≤ suc n
record_within n ps h = omega (arith, laid_within n ps h)

pub of_record : (n : ℕ) (ps : List Place) → depth (record_tree ps) ≤ suc n → Within n ps
of_record n ps h = has_laid (λ i. depth i ≤ n) (λ ms. pairs_depth (pairs_of ms) ≤ n)
    (λ key x ms h. grind (arith, each_within)) ps (omega (arith, h))

-- ---- messages whose encodings have few levels can be decoded again

module _ {P : Type 0} (read : Item → Result P Fault) (tree : P → Item) (Fits : P → Type 0) (normal : P → P) where
  -- a message that can be decoded again if it has few levels
  pub back_if_few : WrittenIsLeadingItem → ((r : P) → Fits r → read (tree r) ≡ Ok (normal r))
      → WrittenIsReadBack read tree Fits (λ r. nat_le (depth (tree r)) max_depth) normal
  back_if_few law back r rest fits writable coherent = grind arith

  -- the same if it is also good otherwise
  pub back_if_good : (is_good : P → Bool) → WrittenIsLeadingItem
      → ((r : P) → Fits r → is_good r ≡ true → read (tree r) ≡ Ok (normal r))
      → WrittenIsReadBack read tree Fits (λ r. is_good r && nat_le (depth (tree r)) max_depth) normal
  back_if_good is_good law back r rest fits writable coherent = grind arith
