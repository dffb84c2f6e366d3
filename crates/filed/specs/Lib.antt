-- Values has what the functions leave in their rows; the others have their laws.
pub mod Values
pub mod RoundLaws
pub mod ValueLaws
pub mod StartLaws
