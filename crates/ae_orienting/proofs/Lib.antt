mod NameSteps
mod Frames
mod Forgetting
mod Reduced
mod Entering
mod Apart
mod Taking
