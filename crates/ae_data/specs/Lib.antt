-- Records and enumerations. To be read in this order: values of records, and what values stand for (Records); names of constructors (Constructors).
pub mod Records
pub mod Constructors
