mod Leaves
mod Opaque
mod Values
mod Lines
