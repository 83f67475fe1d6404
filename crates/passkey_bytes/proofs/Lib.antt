mod MapChanges
mod MapEquality
mod Maps
mod SameTables
mod Decodable
pub mod Placed
