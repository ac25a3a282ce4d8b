mod Passes
mod Shown
