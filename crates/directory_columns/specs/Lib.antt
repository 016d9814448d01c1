pub mod Numbers
pub mod PackedColumns
