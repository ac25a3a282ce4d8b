pub mod Made
pub mod Drained
pub mod Counted
pub mod Reading
pub mod Failing
pub mod CountedRuns
pub mod EtherSockets
pub mod SoundDevices
