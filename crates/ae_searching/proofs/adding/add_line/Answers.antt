use Rattle.std.proofs.Common.{◌∙◌, ◌++◌, ◌∷◌, [], ℕ, sym, ap, subst}
use Rattle.ae_rules.specs.Derivations.{AreAllowed}
use Rattle.ae_sat.proofs.Deriving.{allowed_join}
use Rattle.ae_searching.proofs.Alive.{instance_plain, instance_silent, named_alive, noted_alive}
use Rattle.ae_searching.proofs.Searching.{searching_added, searching_brought}
use Rattle.ae_searching.proofs.adding.add_line.Goals as goal

pub returns-clause-searching : goal.returns-clause-searching
returns-clause-searching g c p n bound level s opened js m h =
    let o = c.args.solver.now in
    let e = c.in_ok-add.ensures in
    let ep = e.places ∙ ap (λ (k : ℕ). o.places ++ k ∷ []) (c.len-place.ensures ∙ c.args.lines.now.ok.0) in
    searching_added g.T.Equalities.fits g.T.Theory.assumed g.T.Theory.fits_mark g.T.Theory.in_step p n bound s opened level o c.add.new.self c.args.lines.now.items c.push_line.new.lines.items js c.args.line c.args.clause m
    (e.alive s js h.alive m.named) e.trail e.clauses ep e.expanded c.in_ok-push_line.ensures.ok h

pub returns-clause-brought : goal.returns-clause-brought
returns-clause-brought g c p n bound level least s more opened js j m low h =
    let o = c.args.solver.now in
    let t = o.propagation.trail in
    let u = o.propagation.clauses in
    let e = c.in_ok-add.ensures in
    let ep = e.places ∙ ap (λ (k : ℕ). o.places ++ k ∷ []) (c.len-place.ensures ∙ c.args.lines.now.ok.0) in
    let alive = noted_alive g.T.Equalities.fits g.T.Theory.assumed g.T.Theory.fits_mark g.T.Theory.in_step more o.theory o.marks.items t u o.handed o.expanded js j (instance_plain j c.args.line m.stated_by)
    (λ ls st. g.met.T.Theory.silent o.theory ls j (instance_silent j c.args.line m.stated_by) st)
    (named_alive g.T.Equalities.fits g.T.Theory.assumed g.T.Theory.fits_mark g.T.Theory.in_step s more o.theory o.marks.items t u o.handed o.expanded js m.grows.extends
    (g.met.T.Equalities.fits_more o.theory s more m.grows.extends) h.alive) in
    searching_brought g.T.Equalities.fits g.T.Theory.assumed g.T.Theory.fits_mark g.T.Theory.in_step p n bound s more opened level least o c.add.new.self c.args.lines.now.items
    c.push_line.new.lines.items js j c.args.line c.args.clause m low
    (e.alive more (js ++ j ∷ []) alive m.named) e.trail e.clauses ep e.expanded c.in_ok-push_line.ensures.ok h

pub returns-in_err-push_line-clause-allowed : goal.returns-in_err-push_line-clause-allowed
returns-in_err-push_line-clause-allowed g c p n a own = subst (AreAllowed p n []) (sym c.in_err-push_line.ensures.err) a

pub returns-in_err-add-clause-allowed : goal.returns-in_err-add-clause-allowed
returns-in_err-add-clause-allowed g c p n a own = subst (AreAllowed p n []) (sym c.in_ok-push_line.ensures.ok) (allowed_join p n [] c.args.lines.now.items c.args.line a own)

pub returns-clause-allowed : goal.returns-clause-allowed
returns-clause-allowed g c p n a own = subst (AreAllowed p n []) (sym c.in_ok-push_line.ensures.ok) (allowed_join p n [] c.args.lines.now.items c.args.line a own)
