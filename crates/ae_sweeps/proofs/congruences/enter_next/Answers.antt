use Rattle.std.specs.Prelude.{◌<◌, ◌≡◌, map, length}
use Rattle.std.specs.List.{AllByRecursion}
use Rattle.std.proofs.Common.{sym, ap, ◌∙◌, subst}
use Rattle.std.proofs.lemmas.Option.{IfSome_then}
use Rattle.ae_pmap.specs.Pairs.{put_in}
use Rattle.ae_free.specs.Tables.{entered}
use Rattle.ae_sweeps.specs.Given.{rep_in}
use Rattle.ae_sweeps.proofs.Bridges.{none_then}
use Rattle.ae_sweeps.proofs.JoinedNames.{args_within}
use Rattle.ae_sweeps.proofs.AlikeNames.{reps_within, has_places, here, none_collides, alike, same}
use Rattle.ae_sweeps.proofs.congruences.enter_next.Goals as goal

pub enter-requires-clause-args : goal.enter-requires-clause-args
enter-requires-clause-args c =
    let nodes = c.args.store.now.nodes in
    let rep = rep_in c.args.reps.now in
    let p = c.node.result.now in
    let e : c.deref.result.now ≡ map rep p.args = c.deref.ensures.value ∙ c.in_ok-args.ensures ∙ ap (map rep) c.as_slice.ensures in
    subst (AllByRecursion (λ a. a < length nodes)) (sym e)
    (reps_within (length nodes) c.args.reps.now c.requires.reps p.args (args_within c.args.store.now.signature nodes c.len-len.ensures.store c.args.name p c.node.ensures.node))

pub enter-requires-clause-places : goal.enter-requires-clause-places
enter-requires-clause-places c =
    let rep = rep_in c.args.reps.now in
    let p = c.node.result.now in
    let e : c.deref.result.now ≡ map rep p.args = c.deref.ensures.value ∙ c.in_ok-args.ensures ∙ ap (map rep) c.as_slice.ensures in
    has_places c.args.store.now.nodes rep c.args.name p c.deref.result.now c.node.ensures.node e

pub enter-requires-clause-fits : goal.enter-requires-clause-fits
enter-requires-clause-fits c = c.requires.entered.fits

pub collide-requires-clause-entered : goal.collide-requires-clause-entered
collide-requires-clause-entered c =
    let store = c.args.store.now in
    let rep = rep_in c.args.reps.now in
    let t = c.args.table.now in
    let p = c.node.result.now in
    let at = c.node.ensures.node in
    let e : c.deref.result.now ≡ map rep p.args = c.deref.ensures.value ∙ c.in_ok-args.ensures ∙ ap (map rep) c.as_slice.ensures in
    let put : entered c.enter.new.self ≡ put_in c.args.name (map rep p.args) (entered t) = c.in_ok-enter.ensures.ok ∙ ap (λ xs. put_in c.args.name xs (entered t)) e in
    (map rep p.args, here store.signature store.nodes rep t c.args.name c.requires.entered c.len-len.ensures.store p at (c.requires.compared p at) c.enter.new.self c.enter.ensures.fits put)

pub returns-clause-none : goal.returns-clause-none
returns-clause-none c =
    let store = c.args.store.now in
    let rep = rep_in c.args.reps.now in
    let t = c.args.table.now in
    let p = c.node.result.now in
    let at = c.node.ensures.node in
    let e : c.deref.result.now ≡ map rep p.args = c.deref.ensures.value ∙ c.in_ok-args.ensures ∙ ap (map rep) c.as_slice.ensures in
    let put : entered c.enter.new.self ≡ put_in c.args.name (map rep p.args) (entered t) = c.in_ok-enter.ensures.ok ∙ ap (λ xs. put_in c.args.name xs (entered t)) e in
    let h = here store.signature store.nodes rep t c.args.name c.requires.entered c.len-len.ensures.store p at (c.requires.compared p at) c.enter.new.self c.enter.ensures.fits put in
    none_then c.collide.result (c.collide.ensures.none (map rep p.args) h)
    (none_collides store.signature store.nodes rep t c.args.name c.requires.entered c.len-len.ensures.store p at (c.requires.compared p at) c.enter.new.self c.enter.ensures.fits put)

pub returns-clause-some : goal.returns-clause-some
returns-clause-some c =
    let store = c.args.store.now in
    let rep = rep_in c.args.reps.now in
    let t = c.args.table.now in
    let p = c.node.result.now in
    let at = c.node.ensures.node in
    let e : c.deref.result.now ≡ map rep p.args = c.deref.ensures.value ∙ c.in_ok-args.ensures ∙ ap (map rep) c.as_slice.ensures in
    let put : entered c.enter.new.self ≡ put_in c.args.name (map rep p.args) (entered t) = c.in_ok-enter.ensures.ok ∙ ap (λ xs. put_in c.args.name xs (entered t)) e in
    let h = here store.signature store.nodes rep t c.args.name c.requires.entered c.len-len.ensures.store p at (c.requires.compared p at) c.enter.new.self c.enter.ensures.fits put in
    IfSome_then c.collide.result (c.collide.ensures.some (map rep p.args) h)
    (λ m l. alike store.signature store.nodes rep t c.args.name c.requires.entered c.len-len.ensures.store p at (c.requires.compared p at) c.enter.new.self c.enter.ensures.fits put m l.collision)

pub returns-clause-same : goal.returns-clause-same
returns-clause-same c =
    let store = c.args.store.now in
    let rep = rep_in c.args.reps.now in
    let t = c.args.table.now in
    let p = c.node.result.now in
    let at = c.node.ensures.node in
    let e : c.deref.result.now ≡ map rep p.args = c.deref.ensures.value ∙ c.in_ok-args.ensures ∙ ap (map rep) c.as_slice.ensures in
    let put : entered c.enter.new.self ≡ put_in c.args.name (map rep p.args) (entered t) = c.in_ok-enter.ensures.ok ∙ ap (λ xs. put_in c.args.name xs (entered t)) e in
    let h = here store.signature store.nodes rep t c.args.name c.requires.entered c.len-len.ensures.store p at (c.requires.compared p at) c.enter.new.self c.enter.ensures.fits put in
    IfSome_then c.collide.result (c.collide.ensures.some (map rep p.args) h)
    (λ m l d. same store.signature store.nodes rep t c.args.name c.requires.entered c.len-len.ensures.store p at (c.requires.compared p at) c.enter.new.self c.enter.ensures.fits put m l.collision d)
