pub mod Driven
pub mod Exchanges
pub mod Numbers
pub mod SentFrames
