-- What a reader must believe: the numbering; its order in the request's words.
pub mod Numbering
pub mod Order
-- The chart of an index, as squares.
pub mod Squares
