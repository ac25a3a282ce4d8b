mod Words
mod DataSteps
mod StepStates
mod TakenFrames
mod SlotsRead
