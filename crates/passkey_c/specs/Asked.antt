-- What is asked of an input beside that its kind accepts it, by the flags that are added to the kind's number.
use Rattle.std.specs.Prelude.{◌≡◌, ℕ, ◌/◌, ◌%◌, ◌<◌, ◌≤◌, ◌==◌, nat_lt, Bool, true, false, List, length, Option, Some, None, Result, Ok, Err, if◌then◌else◌, ⊤}
use Rattle.passkey_catalogue.specs.Catalogue.{kind_numbered}
use Rattle.passkey_catalogue.specs.declared.form.Form.{Form}
use Rattle.passkey_catalogue.specs.declared.form.Form.TheVariants as form
use Rattle.passkey_catalogue.specs.declared.kind.Kind.{Kind}
use Rattle.passkey_malformed.specs.Demands.{IsUnmet, Meets}
use Rattle.passkey_malformed.specs.declared.demands.Demands.{Demands}
use Rattle.passkey_malformed.specs.declared.rule.NotCanonical.{NotCanonical}
use Rattle.passkey_malformed.specs.declared.rule.Rule.{Rule}
use Rattle.passkey_malformed.specs.declared.rule.Rule.TheVariants.{NothingAfter}
use Rattle.passkey_rewrite.specs.Definition.{Definition, authenticator, item, message, other}
use Rattle.passkey_rewrite.specs.declared.fault.RunFault.{RunFault}
use Rattle.passkey_c.specs.Writing.{Outputs, Writes}
use Rattle.passkey_c.specs.declared.status.Denial.{Denial}
use Rattle.passkey_c.specs.declared.status.Denial.TheVariants as denial

-- ---- the flags

abbrev pub kind_in : ℕ → Option Kind
kind_in n = if nat_lt n 2048 then kind_numbered (n % 256) else None

-- no flag asks for nothing; 256 for the canonical form, 512 for at most four levels, 1024 for no bytes after the item
abbrev pub demands_in : ℕ → Option Demands
demands_in n = if nat_lt n 256 then None else Some (record {
  canonical = n / 256 % 2 == 1;
  levels = if n / 512 % 2 == 1 then 4 else 256;
  whole = n / 1024 % 2 == 1;
})

-- ---- what they ask

abbrev pub is_item_form : Form → Bool
is_item_form form.Key = true
is_item_form (form.Statement f) = true
is_item_form form.CertInfo = false
is_item_form form.PubArea = false
is_item_form (form.Json k) = false

-- whether an input that is accepted begins with one data item
abbrev pub is_item : Definition Form → Bool
is_item item = true
is_item authenticator = false
is_item (message t tree) = true
is_item (other f) = is_item_form f

-- The input, of which n bytes were decoded, is as is asked. Of what isn't one data item only the end is.
abbrev pub MeetsAsked : Option Demands → Bool → List ℕ → ℕ → Type 0
MeetsAsked None is_one input n = ⊤
MeetsAsked (Some d) true input n = Meets d input
MeetsAsked (Some d) false input n = d.whole ≡ true → length input ≤ n

-- It isn't, by this rule.
abbrev pub IsUnmetIn : Option Demands → Bool → List ℕ → ℕ → NotCanonical → Type 0
IsUnmetIn None is_one input n u = ⊥
IsUnmetIn (Some d) true input n u = IsUnmet d input u
IsUnmetIn (Some d) false input n u =
    (d.whole ≡ true) × ((n < length input) × (u ≡ record { offset = n; rule = NothingAfter }))

-- ---- what is written

-- What was made is wanted, but the input isn't as is asked.
pub record IsUnasked (IsWanted : List ℕ → ℕ → Type 0) (demands : Option Demands) (is_one : Bool) (input : List ℕ) (r : Rule) :
    Type 0 where
  pub bytes : List ℕ
  pub read : ℕ
  pub wanted : IsWanted bytes read
  pub offset : ℕ
  pub unmet : IsUnmetIn demands is_one input read (record { offset = offset; rule = r })

-- why nothing is written: the input's fault comes first
abbrev pub IsDenial : (RunFault → Type 0) → (Rule → Type 0) → Denial → Type 0
IsDenial HasFault Breaks (denial.Fault f) = HasFault f
IsDenial HasFault Breaks (denial.NotCanonical r) = Breaks r

abbrev pub WritesAsked : (List ℕ → ℕ → Type 0) → (RunFault → Type 0) → Option Demands → Bool → List ℕ → Outputs → Outputs → ℕ
    → Type 0
WritesAsked IsWanted HasFault demands is_one input old new status =
    Writes (λ s n. IsWanted s n × MeetsAsked demands is_one input n)
    (IsDenial HasFault (IsUnasked IsWanted demands is_one input)) old new status

-- what is left of what was made, by what is seen of it: its bytes, and how many of the input's they are made from
abbrev pub Admits : {A : Type 0} → (A → List ℕ × ℕ) → Option Demands → Bool → List ℕ → Result A RunFault → Result A Denial
    → Type 0
Admits view demands is_one input (Ok v) (Ok w) = (view w ≡ view v) × MeetsAsked demands is_one input (view v).1
Admits view demands is_one input (Ok v) (Err (denial.Fault f)) = ⊥
Admits view demands is_one input (Ok v) (Err (denial.NotCanonical r)) =
    (offset : ℕ) × IsUnmetIn demands is_one input (view v).1 (record { offset = offset; rule = r })
Admits view demands is_one input (Err f) (Ok w) = ⊥
Admits view demands is_one input (Err f) (Err (denial.Fault g)) = g ≡ f
Admits view demands is_one input (Err f) (Err (denial.NotCanonical r)) = ⊥
