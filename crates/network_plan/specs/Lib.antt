pub mod Plans
pub mod EventCalls
pub mod Answers
pub mod Statuses
