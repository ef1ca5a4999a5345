pub mod Lent
pub mod Origins
