pub mod Texts
pub mod Order
pub mod Answers
pub mod WritingLaws
pub mod Telling
pub mod TellingLaws
