pub mod OneAccess
pub mod OneAnswer
pub mod OneEnd
pub mod OneFate
pub mod OneSoloEnd
pub mod OneStep
pub mod OneTrail
