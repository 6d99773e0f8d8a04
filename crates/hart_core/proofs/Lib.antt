mod Searched
mod Steps
mod Sums
mod Waking
mod Happening
mod Parts
mod AloneSteps
mod AloneRuns
