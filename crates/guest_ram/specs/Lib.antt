pub mod Window
pub mod Span
pub mod Ram
pub mod Place
pub mod Lending
pub mod Held
