mod Constants
mod Named
