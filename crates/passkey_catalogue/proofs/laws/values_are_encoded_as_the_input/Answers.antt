use Rattle.passkey_catalogue.specs.Catalogue.{definition}
use Rattle.passkey_catalogue.proofs.ValuesBack.{encoded_as_input}
use Rattle.passkey_catalogue.proofs.laws.values_are_encoded_as_the_input.Goals as goal

pub returns : goal.returns
returns c = λ k. encoded_as_input c.at_most_one_leading_item.ensures c.written_is_leading_item.ensures c.one_reading.ensures
    (definition k)
