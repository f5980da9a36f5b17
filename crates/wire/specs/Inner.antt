-- What the functions of this crate promise beside specs/Wire.antt.
pub mod Spelling
