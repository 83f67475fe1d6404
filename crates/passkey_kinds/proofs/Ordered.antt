-- Records whose keys ascend, and what follows for their encodings.
use Rattle.passkey_kinds.proofs.Common.{items_depth, pairs_depth, ByteMap, ComesAfter, AscendFrom, Ascend, IsOrdered, AreOrdered, ArePairsOrdered, IsCanonical, depth, Item, items_of, pairs_of, byte_string, boolean, null, text_string, number, AtMostOneLeadingItem, WrittenIsLeadingItem, max_depth, IsLeadingItem, ctap2_order, IsWritable, ArePairsWritable, written, each, Members, short_first, Place, record_tree, number_tree, numbers_tree, entry_tree, under, laid, list_tree, byte_map_tree, ◌≡◌, ℕ, suc, arith, Bool, true, ◌&&◌, List, [], ◌∷◌, ◌++◌, length, map, Option, Some, None, refl, sym, ◌≤◌, subst, pos, ℤ, and_parts, is_lt, Less, Ordering}
use Rattle.passkey_kinds.proofs.ByteMaps.{entries_ascend}
use Rattle.passkey_kinds.proofs.Levels.{EachPlace, laid_has, has_laid, option_has}
use Rattle.std.specs.FinMap as fin

-- ---- keys that ascend

less_is : (o : Ordering) → is_lt o ≡ true → o ≡ Less
less_is Less h = refl
less_is _ h = absurd cc

-- the key comes before those of the places
abbrev pub leads : Item → List Place → Bool
leads key [] = true
leads key (p ∷ ps) = is_lt (ctap2_order (written key) (written p.0)) && leads key ps

-- each key comes before those after it
abbrev pub ascend : List Place → Bool
ascend [] = true
ascend (p ∷ ps) = leads p.0 ps && ascend ps

-- any of the keys may come next
abbrev AllAfter : Option (List ℕ) → List Place → Type 0
AllAfter before [] = Unit {0}
AllAfter before (p ∷ ps) = ComesAfter before (written p.0) × AllAfter before ps

led : (key : Item) (ps : List Place) → leads key ps ≡ true → AllAfter (Some (written key)) ps
led key [] h = tt
led key (p ∷ ps) h =
    let parts = and_parts (is_lt (ctap2_order (written key) (written p.0))) (leads key ps) h in
    (less_is (ctap2_order (written key) (written p.0)) parts.0, led key ps parts.1)

under_ascends : (before : Option (List ℕ)) (key : Item) (o : Option Item) (ms : Members)
    → ComesAfter before (written key) → AscendFrom before (pairs_of ms)
    → AscendFrom (Some (written key)) (pairs_of ms) → AscendFrom before (pairs_of (under key o ++ ms))
under_ascends before key None ms here without rest = without
under_ascends before key (Some x) ms here without rest = (here, rest)

laid_ascends : (before : Option (List ℕ)) (ps : List Place) → ascend ps ≡ true → AllAfter before ps
    → AscendFrom before (pairs_of (laid ps))
laid_ascends before [] h after = tt
laid_ascends before (p ∷ ps) h after =
    let parts = and_parts (leads p.0 ps) (ascend ps) h in
    under_ascends before p.0 p.1 (laid ps) after.0
    (laid_ascends before ps parts.1 after.1)
    (laid_ascends (Some (written p.0)) ps parts.1 (led p.0 ps parts.0))

none_before : (ps : List Place) → AllAfter None ps
none_before [] = tt
none_before (p ∷ ps) = (tt, none_before ps)

pub keys_ascend : (ps : List Place) → ascend ps ≡ true → Ascend (pairs_of (laid ps))
keys_ascend ps h = laid_ascends None ps h (none_before ps)

-- ---- the values under them

abbrev pub AllOrdered : List Place → Type 0
AllOrdered = EachPlace IsOrdered

laid_ordered : (ps : List Place) → AllOrdered ps → ArePairsOrdered (pairs_of (laid ps))
laid_ordered = laid_has IsOrdered (λ ms. ArePairsOrdered (pairs_of ms)) (λ key x ms k v rest. ((k, v), rest)) tt

pub record_ordered : (ps : List Place) → ascend ps ≡ true → AllOrdered ps → IsOrdered (record_tree ps)
record_ordered ps h all = (keys_ascend ps h, laid_ordered ps all)

-- ---- the values in a record that can be encoded

pub of_record : (ps : List Place) → IsWritable (record_tree ps) → EachPlace IsWritable ps
of_record ps h = has_laid IsWritable (λ ms. ArePairsWritable (pairs_of ms)) (λ key x ms h. h) ps h.1

-- ---- canonical encodings

pub canonical_of : (x : Item) → IsWritable x → depth x ≤ max_depth → IsOrdered x → IsCanonical (written x)
canonical_of x w d o = record { item = x; writable = w; shallow = d; ordered = o; whole = refl }

-- a value is ordered if its encoding is canonical
pub ordered_of : AtMostOneLeadingItem → WrittenIsLeadingItem → (x : Item) → IsWritable x → depth x ≤ max_depth
    → IsCanonical (written x) → IsOrdered x
ordered_of one front x w d c =
    let mine = front x [] w d in
    let its = front c.item [] c.writable c.shallow in
    let same = one (written x ++ []) x c.item (length (written x)) (length (written c.item)) mine
    (subst (λ (s : List ℕ). IsLeadingItem (s ++ []) c.item (length (written c.item))) (sym c.whole) its) in
    subst IsOrdered (sym same.0) c.ordered

-- ---- items that keep no other item: how many levels they have, and that they are ordered

-- an ordered item of at most n levels
pub record IsPlain (n : ℕ) (i : Item) : Type 0 where
  pub levels : depth i ≤ n
  pub order : IsOrdered i

-- plain items have the property
pub record Rule (n : ℕ) (Q : Item → Type 0) : Type 0 where
  pub holds : (i : Item) → IsPlain n i → Q i

pub few_levels : (n most : ℕ) → n ≤ most → Rule n (λ i. depth i ≤ most)
few_levels n most less = record { holds = λ i plain. omega (arith, less, plain.levels) }

pub in_order : (n : ℕ) → Rule n IsOrdered
in_order n = record { holds = λ i plain. plain.order }

-- ---- what search needs for the places of a record, beside the values that have levels

pub number_plain : (n : ℕ) (z : ℤ) → IsPlain n (number z)
number_plain n z = record { levels = omega arith; order = tt }

pub truth_plain : (n : ℕ) (b : Bool) → IsPlain n (boolean b)
truth_plain n b = record { levels = omega arith; order = tt }

pub bytes_plain : (n : ℕ) (s : List ℕ) → IsPlain n (byte_string s)
bytes_plain n s = record { levels = omega arith; order = tt }

pub text_plain : (n : ℕ) (s : List ℕ) → IsPlain n (text_string s)
text_plain n s = record { levels = omega arith; order = tt }

pub null_plain : (n : ℕ) → IsPlain n null
null_plain n = record { levels = omega arith; order = tt }

pub ruleset plainly = (number_plain, truth_plain, bytes_plain, text_plain, option_has)

-- ---- values that have levels

items_plain : (n : ℕ) {A : Type 0} (tree : A → Item) → ((x : A) → IsPlain n (tree x)) → (xs : List A)
    → (items_depth (items_of (map tree xs)) ≤ n) × AreOrdered (items_of (map tree xs))
items_plain n tree each [] = (omega arith, tt)
items_plain n tree each (x ∷ xs) =
    let rest = items_plain n tree each xs in
    (omega (arith, (each x).levels, rest.0), ((each x).order, rest.1))

-- a list has one level more than its elements
pub list_plain : (n : ℕ) {A : Type 0} (tree : A → Item) → ((x : A) → IsPlain n (tree x)) → (xs : List A)
    → IsPlain (suc n) (list_tree tree xs)
list_plain n tree each xs =
    let items = items_plain n tree each xs in record { levels = omega (arith, items.0); order = items.1 }

pub numbers_plain : (n : ℕ) (b : List ℕ) → IsPlain (suc n) (numbers_tree b)
numbers_plain n b = list_plain n number_tree (λ k. number_plain n (pos k)) b

entries_plain : (n : ℕ) {A : Type 0} (tree : A → Item) → ((x : A) → IsPlain n (tree x)) → (es : List (List ℕ × A))
    → (pairs_depth (pairs_of (map (entry_tree tree) es)) ≤ n) × ArePairsOrdered (pairs_of (map (entry_tree tree) es))
entries_plain n tree each [] = (omega arith, tt)
entries_plain n tree each (e ∷ es) =
    let rest = entries_plain n tree each es in
    (omega (arith, (each e.1).levels, rest.0), ((tt, (each e.1).order), rest.1))

-- a map has one level more than its values
pub map_plain : (n : ℕ) {A : Type 0} (tree : A → Item) → ((x : A) → IsPlain n (tree x)) → (m : ByteMap A)
    → IsPlain (suc n) (byte_map_tree tree m)
map_plain n tree each m =
    let entries = entries_plain n tree each (short_first (fin.entries m)) in
    record { levels = omega (arith, entries.0); order = (entries_ascend tree m, entries.1) }

pub record_plain : (n : ℕ) (ps : List Place) → ascend ps ≡ true → EachPlace (IsPlain n) ps
    → IsPlain (suc n) (record_tree ps)
record_plain n ps up each =
    let members = laid_has (IsPlain n) (λ ms. (pairs_depth (pairs_of ms) ≤ n) × ArePairsOrdered (pairs_of ms))
    (λ key x ms k v rest. (omega (arith, k.levels, v.levels, rest.0), ((k.order, v.order), rest.1)))
    (omega arith, tt) ps each in
    record { levels = omega (arith, members.0); order = (keys_ascend ps up, members.1) }
