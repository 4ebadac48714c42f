pub mod Pages
pub mod Styles
pub mod Work
pub mod Writings
pub mod ReadingBack
