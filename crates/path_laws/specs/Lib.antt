pub mod GoesOn
pub mod OneRecord
pub mod OneRun
pub mod Origins
