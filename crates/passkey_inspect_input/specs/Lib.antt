pub mod Dump
pub mod Input
