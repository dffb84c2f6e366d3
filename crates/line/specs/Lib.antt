-- What a reader must believe: what entries and lines are, rows of equal parts, and what making a field and a line promises.
pub mod Text
pub mod Joined
pub mod Made
-- Laws of a buffer written from the front, of entries, of lines, of rows of parts, and of what is made.
pub mod Written
pub mod Entries
pub mod LineLaws
pub mod JoinedLaws
pub mod MadeLaws
