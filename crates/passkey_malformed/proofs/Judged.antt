-- Results, case by case.
use Rattle.std.proofs.Common.{◌≡◌, ℕ, List, Result, Ok, Err, sym, subst}
use Rattle.std.specs.Prelude.{MatchResult, MatchOption, Option, Some, None, is_some, false}
use Rattle.passkey_cbor.specs.HeadEncoding.{IsEncodingOfHead}
use Rattle.passkey_cbor.specs.declared.head.Head.{Head}
use Rattle.passkey_cbor.specs.declared.head.Head.TheVariants as head
use Rattle.passkey_malformed.specs.Stops.{Begins, Nests}

pub judged : {T E : Type 0} (r : Result T E) {P Q : T → Type 0} {F G : E → Type 0} → ((x : T) → P x → Q x)
    → ((e : E) → F e → G e) → MatchResult r P F → MatchResult r Q G
judged (Ok x) good bad m = good x m
judged (Err e) good bad m = bad e m

pub none_there : {A : Type 0} (o : Option A) (P : Type 0) (Q : A → Type 0) → MatchOption o P Q → is_some o ≡ false
    → P
none_there None P Q m e = m
none_there (Some x) P Q m e = absurd cc

pub headed : {bytes following : List ℕ} (h g : Head) → h ≡ g → Begins (IsEncodingOfHead h) bytes following
    → Begins (IsEncodingOfHead g) bytes following
headed {bytes} {following} h g is b = subst (λ (k : Head). Begins (IsEncodingOfHead k) bytes following) is b

pub nests_array : {h : Head} {len : Option ℕ} → h ≡ head.Array len → Nests h
nests_array is = subst Nests (sym is) tt

pub nests_map : {h : Head} {len : Option ℕ} → h ≡ head.Map len → Nests h
nests_map is = subst Nests (sym is) tt

pub nests_tag : {h : Head} {n : ℕ} → h ≡ head.Tag n → Nests h
nests_tag is = subst Nests (sym is) tt
