use Rattle.std.proofs.Common.{refl, arith, ap, sym, ◌∙◌}
use Rattle.ae_types.specs.Inner.Graphs.{class_at}
use Rattle.ae_types.proofs.JoinLaws.{shortened_refl, shortened_trans}
use Rattle.ae_types.proofs.LinkLaws.{link_same}
use Rattle.ae_types.proofs.FollowLaws.{same_refl, same_trans}
use Rattle.ae_types.proofs.graph.find.Goals as goal

pub loop-at-init : goal.loop-at-init
loop-at-init c = record {
  shortened = shortened_refl c.args.classes.now c.requires.down;
  within = c.requires.within;
  same = λ nodes e v s. same_refl e (v c.args.start);
  rewinds = refl;
}

pub loop-at-preserved : goal.loop-at-preserved
loop-at-preserved c =
    let i = c.loop-at.invariant in
    let l = ap (λ xs. class_at xs c.loop-at.at) (sym c.as_slice.ensures) ∙ c.in-Link.is in
    let d = i.shortened.down c.loop-at.at c.in-Link.next i.within l in
    record {
      shortened = shortened_trans c.args.classes.now c.loop-at.classes c.shorten.new.classes i.shortened c.in_ok-shorten.ensures.shortened;
      within = omega (arith, i.within, d, c.in_ok-shorten.ensures.shortened.same_length);
      same = λ nodes e v s. same_trans e (v c.args.start) (v c.loop-at.at) (v c.in-Link.next) (i.same nodes e v s)
          (link_same nodes c.loop-at.classes e v c.loop-at.at c.in-Link.next (i.shortened.onward nodes e v s) i.within l);
      rewinds = c.in_ok-shorten.ensures.rewinds ∙ i.rewinds;
    }
