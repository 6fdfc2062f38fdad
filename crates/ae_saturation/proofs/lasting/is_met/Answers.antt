use Rattle.std.specs.Prelude.{◌↔◌, length, IsTrue}
use Rattle.std.proofs.Common.{refl, sym, subst}
use Rattle.ae_literals.specs.declared.said.Said.{Said}
use Rattle.ae_literals.specs.Said.{IsWithin}
use Rattle.ae_saturation.specs.Lasting.{IsMet}
use Rattle.ae_saturation.proofs.lasting.is_met.Goals as goal

pub is_undenied-requires-clause-taken : goal.is_undenied-requires-clause-taken
is_undenied-requires-clause-taken c = c.requires.taken

pub is_undenied-requires-clause-name : goal.is_undenied-requires-clause-name
is_undenied-requires-clause-name c = subst (IsWithin (length c.args.store.now.nodes)) c.in-Atom.is c.requires.said

pub returns-in-Equal : goal.returns-in-Equal
returns-in-Equal c = subst (λ (y : Said). IsTrue c.is_answered.result ↔ IsMet c.args.store.now c.args.held.now y) (sym c.in-Equal.is) c.is_answered.ensures

pub returns-in-Atom : goal.returns-in-Atom
returns-in-Atom c = subst (λ (y : Said). IsTrue c.is_undenied.result ↔ IsMet c.args.store.now c.args.held.now y) (sym c.in-Atom.is) c.is_undenied.ensures

pub returns-in-Other : goal.returns-in-Other
returns-in-Other c = (λ t. subst (IsMet c.args.store.now c.args.held.now) (sym c.in-Other.is) tt, λ m. refl)
