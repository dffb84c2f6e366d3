-- Sheet and Listing are definitions; the others have their laws.
pub mod Sheet
pub mod Listing
pub mod SheetLaws
pub mod ListingLaws
pub mod OnRows
