mod Fates
mod OneJob
mod OnePlay
mod WrongValues
