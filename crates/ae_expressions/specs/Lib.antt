-- What functions promise that type expressions, beside the words of Typings in ae_elab. NamedParts: the names of an expression are
-- names of the text. Named: what a name stands for, as a function tells it. FieldParts: what the rules of fields and of records go on
-- with once their parts are typed. Nothing in Inner has to be believed.
pub mod NamedParts
pub mod Named
pub mod FieldParts
pub mod Inner
