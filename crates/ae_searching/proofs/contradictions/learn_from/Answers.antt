use Rattle.std.proofs.Common.{OnOk}
use Rattle.ae_journal.specs.Standing.{Setting}
use Rattle.ae_sat.specs.Search.{IsLawfulState, NotesLegally}
use Rattle.ae_searching.specs.Told.{IsToldIn}
use Rattle.ae_searching.proofs.Instances.{notes_no_instance}
use Rattle.ae_searching.proofs.Results.{on_ok_each, on_ok_three}
use Rattle.ae_searching.proofs.Searching.{named_so, searching_run, so_far_run, state_so, stated_so}
use Rattle.ae_searching.proofs.contradictions.learn_from.Goals as goal

pub returns-clause-searching : goal.returns-clause-searching
returns-clause-searching g c p n bound level opened low h =
    let T = g.T.Theory in
    let o = c.args.solver.now in
    let b = c.learn_contradiction.new.self in
    let s = c.args.store.now in
    let js = c.args.journal.now.lines in
    let ks = c.args.lines.now.items in
    let e = c.learn_contradiction.ensures in
    let r = c.learn_contradiction.result in
    let named = λ (x : Setting) (told : IsToldIn p n s opened x). named_so g.T.Equalities.fits T.assumed T.fits_mark T.in_step p n bound s opened level o ks js x told h in
    let stated = λ (x : Setting) (told : IsToldIn p n s opened x). stated_so g.T.Equalities.fits T.assumed T.fits_mark T.in_step p n bound s opened level o ks js x told h in
    let state = λ (x : Setting) (told : IsToldIn p n s opened x). state_so g.T.Equalities.fits T.assumed T.fits_mark T.in_step p n bound s opened level o ks js x told low h in
    let notes : (x : Setting) → IsToldIn p n s opened x → NotesLegally x bound js c.learn_contradiction.new.journal.lines = λ x told. (e.legal x bound (named x told) (stated x told) (state x told)).0 in
    let states : OnOk r ((x : Setting) → IsToldIn p n s opened x → IsLawfulState x b.propagation.trail b.propagation.clauses b.expanded c.learn_contradiction.new.lines.items c.learn_contradiction.new.journal.lines) =
    on_ok_each (λ x. IsToldIn p n s opened x) (λ x. IsLawfulState x b.propagation.trail b.propagation.clauses b.expanded c.learn_contradiction.new.lines.items c.learn_contradiction.new.journal.lines) r
    (λ x told. (e.legal x bound (named x told) (stated x told) (state x told)).1) in
    on_ok_three _ _ _ _ r e.alive (e.stated p n h.signature h.stated) states
    (λ alive own each. searching_run g.T.Equalities.fits T.assumed T.fits_mark T.in_step p n bound s opened level o b ks c.learn_contradiction.new.lines.items js
    c.learn_contradiction.new.journal.lines alive own (λ x told. (notes x told, each x told)) h)

pub returns-clause-so_far : goal.returns-clause-so_far
returns-clause-so_far g c p n bound level opened low h =
    let T = g.T.Theory in
    let o = c.args.solver.now in
    let s = c.args.store.now in
    let js = c.args.journal.now.lines in
    let ks = c.args.lines.now.items in
    so_far_run g.T.Equalities.fits T.assumed T.fits_mark T.in_step p n bound s opened level o ks c.learn_contradiction.new.lines.items js c.learn_contradiction.new.journal.lines
    (c.learn_contradiction.ensures.allowed p n h.signature h.stated)
    (λ x told. (c.learn_contradiction.ensures.legal x bound (named_so g.T.Equalities.fits T.assumed T.fits_mark T.in_step p n bound s opened level o ks js x told h)
    (stated_so g.T.Equalities.fits T.assumed T.fits_mark T.in_step p n bound s opened level o ks js x told h)
    (state_so g.T.Equalities.fits T.assumed T.fits_mark T.in_step p n bound s opened level o ks js x told low h)).0) h

pub returns-clause-instances : goal.returns-clause-instances
returns-clause-instances g c p n bound level opened low h x told =
    let T = g.T.Theory in
    let o = c.args.solver.now in
    let s = c.args.store.now in
    let js = c.args.journal.now.lines in
    let ks = c.args.lines.now.items in
    notes_no_instance x js c.learn_contradiction.new.journal.lines (c.learn_contradiction.ensures.legal x 0 (named_so g.T.Equalities.fits T.assumed T.fits_mark T.in_step p n bound s opened level o ks js x told h)
    (stated_so g.T.Equalities.fits T.assumed T.fits_mark T.in_step p n bound s opened level o ks js x told h)
    (state_so g.T.Equalities.fits T.assumed T.fits_mark T.in_step p n bound s opened level o ks js x told low h)).0

pub returns-clause-lines : goal.returns-clause-lines
returns-clause-lines g c = c.learn_contradiction.ensures.lines
