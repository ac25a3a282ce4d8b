mod DataAnswers
mod FinishedWalk
