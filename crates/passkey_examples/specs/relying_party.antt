pub mod PackageName
