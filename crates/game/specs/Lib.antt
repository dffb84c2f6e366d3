-- Plays, controllers, worth and value of an arena: the definitions that a reader must believe, in reading order. What is proved of them is in
-- proofs/.
pub mod Value
pub mod Arena
pub mod Play
pub mod Worth
pub mod Rounds
pub mod Choice
pub mod Good
pub mod Certificate
pub mod FirstLine
pub mod Keep
pub mod Restrict
pub mod Journal
pub mod Table
pub mod Best
pub mod GoodMoves
pub mod Fault
pub mod FirstFault
