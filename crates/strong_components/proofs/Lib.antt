pub mod Lists
pub mod Paths
pub mod Closing
pub mod States
pub mod Results
