pub mod MultisetLaws
pub mod StateFits
pub mod TextLaws
pub mod ValueFits
