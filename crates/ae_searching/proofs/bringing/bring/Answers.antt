use Rattle.std.proofs.Common.{◌≡◌, ◌++◌, ◌∷◌, [], sym, ap, subst}
use Rattle.ae_journal.specs.Noted.{Noted}
use Rattle.ae_searching.proofs.Searching.{never_refused, news_last, progresses_by, so_far_brought, so_far_to, stated_allowed}
use Rattle.ae_searching.specs.Searching.{IsSearching}
use Rattle.ae_searching.specs.Steps.{HasNews}
use Rattle.ae_searching.proofs.bringing.bring.Goals as goal

pub returns-clause-searching : goal.returns-clause-searching
returns-clause-searching g c p n bound level least s more opened m low h =
    let js = c.args.journal.now.lines in
    let j = c.args.noted in
    let e : c.note.new.journal.lines ≡ js ++ j ∷ [] = ap (λ (k : Noted). k.lines) c.in_ok-note.ensures.ok in (
      subst (IsSearching g.T.Equalities.fits g.T.Theory.assumed g.T.Theory.fits_mark g.T.Theory.in_step p n bound more opened least c.add_line.new.solver c.add_line.new.lines.items) (sym e)
          (c.in_ok-add_line.ensures.brought p n bound level least s more opened js j m low h),
      subst HasNews (sym e) (news_last js j c.args.line m.stated_by),
    )

pub returns-in_err-note-clause-so_far : goal.returns-in_err-note-clause-so_far
returns-in_err-note-clause-so_far g c p n bound s more opened m room h =
    let e = c.note.ensures in
    absurd (never_refused c.args.journal.now c.args.noted c.args.line c.note.result c.in_err-note.field-0.0 m.stated_by room e.steps e.memory e.never_wide c.in_err-note.was)

pub returns-in_err-add_line-clause-so_far : goal.returns-in_err-add_line-clause-so_far
returns-in_err-add_line-clause-so_far g c p n bound s more opened m room h =
    let js = c.args.journal.now.lines in
    let ks = c.args.lines.now.items in
    let a = c.add_line.ensures.allowed p n h.allowed (stated_allowed p n ks c.args.noted c.args.line c.args.clause m.stated_by m.states) in
    so_far_to p n bound more opened ks c.add_line.new.lines.items (js ++ c.args.noted ∷ []) c.note.new.journal.lines a (ap (λ (k : Noted). k.lines) c.in_ok-note.ensures.ok)
    (so_far_brought p n bound s more opened ks js c.args.noted c.args.line c.args.clause m h)

pub returns-clause-so_far : goal.returns-clause-so_far
returns-clause-so_far g c p n bound s more opened m room h =
    let js = c.args.journal.now.lines in
    let ks = c.args.lines.now.items in
    let a = c.add_line.ensures.allowed p n h.allowed (stated_allowed p n ks c.args.noted c.args.line c.args.clause m.stated_by m.states) in
    so_far_to p n bound more opened ks c.add_line.new.lines.items (js ++ c.args.noted ∷ []) c.note.new.journal.lines a (ap (λ (k : Noted). k.lines) c.in_ok-note.ensures.ok)
    (so_far_brought p n bound s more opened ks js c.args.noted c.args.line c.args.clause m h)

pub returns-clause-progresses : goal.returns-clause-progresses
returns-clause-progresses g c h = progresses_by c.args.journal.now c.note.new.journal c.args.noted c.args.line h c.in_ok-note.ensures.ok c.note.ensures.within
