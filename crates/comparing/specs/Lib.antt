-- What a reader must believe: the computed answer (Comparing), and what it means for the choices (Compared). Order shows the refusals'
-- conditions in the table's order, ComparedMeans that the answer means that; ComparingLaws leads to the code's proofs.
pub mod Comparing
pub mod OnRows
pub mod Compared
pub mod Order
pub mod ComparedMeans
pub mod ComparingLaws
