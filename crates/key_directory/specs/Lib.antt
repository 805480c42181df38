pub mod Words
pub mod Rule
pub mod Moves
pub mod Directory
pub mod Visits
pub mod Layouts
