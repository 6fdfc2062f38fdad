use Rattle.std.proofs.Common.{refl}
use Rattle.ae_journal.specs.declared.lines.Line.TheVariants as line
use Rattle.ae_searching.proofs.Searching.{searching_combined}
use Rattle.ae_searching.proofs.growing.combinations_grow.Goals as goal

pub returns : goal.returns
returns g c p n bound level s opened lines js added only legal h =
    let o = c.args.solver.now in
    searching_combined g.T.Equalities.fits g.T.Theory.assumed g.T.Theory.fits_mark g.T.Theory.in_step p n bound s opened level o lines js added
    (λ b f ks st. g.met.T.Theory.silent o.theory ks (line.Combine b f) refl st) only legal h
