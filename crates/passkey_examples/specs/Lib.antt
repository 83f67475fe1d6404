pub mod relying_party
