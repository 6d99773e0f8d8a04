mod Unique
mod Counts
mod Standing
mod Walking
mod Sample
