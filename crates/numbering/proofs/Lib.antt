-- Laws that callers cite: EverySmall (each small chart has one index), OrderLaws (indices rise in that order) and TextLaws (the lines of an
-- index's chart). The others lead to them.
pub mod SetLaws
pub mod NumeralLaws
pub mod DigitLaws
pub mod MoveLists
pub mod SquareLaws
pub mod ArenaLaws
pub mod EverySmall
pub mod OrderLaws
pub mod TextLaws
