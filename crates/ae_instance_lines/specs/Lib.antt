-- Lines of instances: what they are (Stated), and what they bring (Laws).
pub mod Stated
pub mod Laws
