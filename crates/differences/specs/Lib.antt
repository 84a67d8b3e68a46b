pub mod Table
pub mod Allowed
pub mod Lent
pub mod Shifted
pub mod Constraint
