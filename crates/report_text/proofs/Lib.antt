mod Digits
mod Feeds
