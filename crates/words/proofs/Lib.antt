pub mod Texts
pub mod RowLaws
