mod TreeRules
mod ValueRules
mod LineCounts
mod Merged
mod Within
