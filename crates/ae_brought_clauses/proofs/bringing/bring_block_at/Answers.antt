use Rattle.std.proofs.lemmas.Result.{on_ok_weaker}
use Rattle.ae_journal.proofs.Splits.{contains_at}
use Rattle.ae_brought_clauses.proofs.Again.{block_again, served_at}
use Rattle.ae_brought_clauses.proofs.Places.{read_at}
use Rattle.ae_brought_clauses.proofs.bringing.bring_block_at.Goals as goal

pub bring_block-requires-clause-sorted : goal.bring_block-requires-clause-sorted
bring_block-requires-clause-sorted c =
    let o = c.index-opened-place.result in
    c.requires.blocks o (contains_at c.args.opened.now c.args.place o (read_at c.args.opened.now c.args.place o c.requires.within c.index-opened-place.is))

pub returns : goal.returns
returns c =
    let os = c.args.opened.now in
    let g = c.args.generation in
    let o = c.index-opened-place.result in
    let at = read_at os c.args.place o c.requires.within c.index-opened-place.is in
    record {
      brings = on_ok_weaker c.bring_block.result
          (λ h. block_again os g c.args.store.now c.args.ages.now c.bring_block.new.store c.bring_block.new.ages o c.len-names.ensures.store (contains_at os c.args.place o at) c.requires.there (c.requires.aged o at) h)
          (c.bring_block.ensures os);
      served = on_ok_weaker c.bring_block.result
          (λ h. served_at os g c.args.store.now c.args.ages.now c.bring_block.new.store c.bring_block.new.ages c.args.place o at h)
          (c.bring_block.ensures os);
    }
