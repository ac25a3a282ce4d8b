mod Cutting
pub mod FewWords
pub mod ReadingLines
