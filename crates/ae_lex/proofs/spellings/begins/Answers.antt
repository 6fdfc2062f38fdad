use Rattle.std.proofs.Common.{drop, length}
use Rattle.std.proofs.lemmas.Slice.Eq.{starts_is}
use Rattle.std.proofs.lemmas.Bool.Decides.{Decides-eqb}
use Rattle.ae_lex.proofs.spellings.begins.Goals as goal

pub returns : goal.returns
returns c =
    let s = starts_is Decides-eqb c.args.bytes.now c.args.with.now c.starts_with.result c.starts_with.ensures.value in
    ((λ e. (drop (length c.args.with.now) c.args.bytes.now, s.0 e)), λ b. s.1 b.0 b.1)
