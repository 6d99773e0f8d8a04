mod FormLimits
mod CheckLimits
mod Entries
mod Leading
mod Whole
