pub mod Determined
pub mod Layouts
pub mod RoundTrip
pub mod Again
