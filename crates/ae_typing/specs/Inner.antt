pub mod Earlier
