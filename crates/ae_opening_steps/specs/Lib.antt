-- Steps that open blocks.
pub mod Ready
