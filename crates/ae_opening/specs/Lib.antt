-- Opening blocks: which literal asks for terms (Asking), and what opening its block gives (Opens).
pub mod Asking
pub mod Opens
