mod RecordParts
mod PlainLeaves
mod Joining
mod TakenUp
