mod Answering
mod Blocks
mod Bodies
mod Cuts
mod FileHeaders
mod FirstOf
pub mod Flushed
mod Going
mod Orders
pub mod Packets
mod Put
pub mod Sent
mod Unique
mod Uses
mod WrittenLaw
