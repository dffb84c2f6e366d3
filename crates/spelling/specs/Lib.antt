-- Words is what a reader must believe; WordLaws says what a word tells of the bytes.
pub mod Words
pub mod WordLaws
