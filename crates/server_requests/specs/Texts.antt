-- The type of a text.
pub use Rattle.text.specs.Words.{Text}
