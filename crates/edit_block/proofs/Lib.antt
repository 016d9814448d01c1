pub mod Records
pub mod Data
pub mod Items
pub mod Laws
