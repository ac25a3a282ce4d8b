pub mod InPlaces
mod Written
mod Cut
pub mod PackedLengths
