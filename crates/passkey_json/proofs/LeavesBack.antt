-- The encodings of algorithms and of bytes can be decoded again.
use Rattle.std.proofs.Common.{◌≡◌, ◌∙◌, ℕ, ℤ, List, Option, Some, Result, Ok, Err, OnOk, refl, ap}
use Rattle.std.specs.Option.{option_and_then}
use Rattle.passkey_iana.specs.Iana.{algorithm_number, algorithm_named}
use Rattle.passkey_iana.specs.IanaLaws.{algorithm_named-number}
use Rattle.passkey_iana.specs.declared.algorithm.Algorithm.{Algorithm}
use Rattle.passkey_iana.specs.declared.algorithm.Algorithm.TheVariants as named
use Rattle.passkey_json.specs.Kind.{algorithm, byte, bytes, list, numeral}
use Rattle.passkey_json.specs.Written.{ReadsBack, algorithm_json, list_json, natural_json}

number_back : (a : Algorithm) → numeral (algorithm_json a) ≡ Some (algorithm_number a)
number_back named.RS1 = refl
number_back _ = refl

pub algorithm_back : (a : Algorithm) → algorithm (algorithm_json a) ≡ Some a
unfolding algorithm
algorithm_back a = ap (λ (o : Option ℤ). option_and_then algorithm_named o) (number_back a)
    ∙ (algorithm_named-number (algorithm_number a) a).1 refl

-- bytes as numbers are the list of their numbers
pub numbers_back : {T E : Type 0} (r : Result T E) (bs : List ℕ)
    → OnOk r (ReadsBack (list byte) bs (list_json natural_json bs))
    → OnOk r (ReadsBack bytes bs (list_json natural_json bs))
numbers_back (Ok x) bs h = record { plain = h.plain; some = h.some }
numbers_back (Err e) bs h = tt
