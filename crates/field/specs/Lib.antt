-- Text is what a reader must believe; Laws has the theorems, Reader those by which the reader's cases are right.
pub mod Text
pub mod Laws
pub mod Reader
