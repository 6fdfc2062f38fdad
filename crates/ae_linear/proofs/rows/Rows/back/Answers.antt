use Rattle.std.specs.Prelude.{ℕ, List}
use Rattle.std.proofs.Common.{subst, ap, sym, ◌∙◌}
use Rattle.ae_pmap.specs.Pairs.{found}
use Rattle.ae_linear.specs.declared.rows.Row.{Row}
use Rattle.ae_linear.specs.Rows.{Fits, StandsFor, Contents, Lasts}
use Rattle.ae_linear.proofs.Links.{grows_same}
use Rattle.ae_linear.proofs.Versions.{indexed_same, versions_last}
use Rattle.ae_linear.proofs.rows.Rows.back.Goals as goal

pub invariant_of-self : goal.invariant_of-self
invariant_of-self g c =
    let f = subst (λ (r : Contents). Fits r c.args.shared.now) (sym c.self.view_is) c.requires.fits in
    indexed_same _ _ _ _ c.self.inside.links.items c.back.ensures.map c.back-2.ensures.map f.indexed

pub returns-clause-rows : goal.returns-clause-rows
returns-clause-rows g c = λ rows s n.
    ap (λ (ps : List (ℕ × Row)). found ps n) c.back.ensures.map ∙ (subst (λ (r : Contents). StandsFor r c.args.shared.now rows) (sym c.self.view_is) s).is n

pub returns-clause-lasts : goal.returns-clause-lasts
returns-clause-lasts g c =
    subst (λ (r : Contents). Lasts r (record { rows = c.back.new.self; heads = c.back-2.new.self; links = c.self.inside.links.items })) c.self.view_is
    (versions_last c.self.inside.rows c.back.new.self c.self.inside.heads c.back-2.new.self c.self.inside.links.items c.self.inside.links.items c.back.ensures.lasts c.back-2.ensures.lasts (grows_same c.self.inside.links.items) c.self.invariant.are_linked)
