pub mod SoloTicks
pub mod SoloAccesses
pub mod SoundBuses
pub mod SoundWorlds
