pub mod Touches
pub mod CellRules
pub mod Results
pub mod CellLaws
pub mod Uses
pub mod OneList
