-- Terms whose `if`s are taken out, as they are held. The rules themselves are definitions of ae_elab: Elaboration. `Inner`
-- holds nothing to be believed.
pub mod Lifting
pub mod Inner
