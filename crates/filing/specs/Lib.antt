-- Filing is the file by key and what each function leaves; the others have their laws.
pub mod Filing
pub mod FilingLaws
pub mod SortLaws
