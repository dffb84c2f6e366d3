-- What a reader must believe: columns, meaning, refusals, blank marks, the computed answer.
pub mod Text
pub mod Meaning
pub mod Refusals
pub mod Blanks
pub mod Examined
-- Laws that callers cite: Exact (refusals), Accepted (the arena of an accepted text), Taken (good lines are accepted), BlankLaws (texts
-- that differ in blank marks), Faithful (texts and arenas). The others lead to them.
pub mod Columns
pub mod Flags
pub mod Header
pub mod Good
pub mod Taken
pub mod Arenas
pub mod Accepted
pub mod LineExact
pub mod Exact
pub mod Lines
pub mod BlankLaws
pub mod SetOut
pub mod Faithful
