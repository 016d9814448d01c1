pub mod BlankColumns
pub mod Numbers
pub mod PackedColumns
