pub mod StatusText
pub mod Words
pub mod Sizes
pub mod Built
pub mod Claims
pub mod Opened
pub mod Headline
pub mod Checked
