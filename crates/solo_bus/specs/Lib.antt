pub mod SoloBuses
pub mod SoloView
pub mod SoloLaws
pub mod SoundBuses
pub mod SoundWorlds
