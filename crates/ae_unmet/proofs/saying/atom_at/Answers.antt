use Rattle.std.proofs.Common.{◌≡◌, ap}
use Rattle.std.specs.Prelude.{Some}
use Rattle.ae_literals.specs.declared.said.Said.TheVariants.{Atom}
use Rattle.ae_unmet.proofs.saying.atom_at.Goals as goal

pub returns-in-Equal : goal.returns-in-Equal
returns-in-Equal c b n e = let z = c.in-Equal.ensures (Atom b n) e in absurd (cc z)

pub returns-in-Atom : goal.returns-in-Atom
returns-in-Atom c b n e = let z = c.in-Atom.ensures (Atom b n) e in let f : c.in-Atom.name ≡ n = cc z in ap Some f

pub returns-in-Other : goal.returns-in-Other
returns-in-Other c b n e = let z = c.in-Other.ensures (Atom b n) e in absurd (cc z)
