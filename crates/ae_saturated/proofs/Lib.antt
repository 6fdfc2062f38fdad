pub mod Elements
pub mod Outside
pub mod LiteralTests
pub mod NameTests
pub mod OrderTests
pub mod FirstTests
pub mod StateTests
