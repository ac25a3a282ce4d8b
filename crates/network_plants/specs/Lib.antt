pub mod Alike
pub mod AlikeTexts
