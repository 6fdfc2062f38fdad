-- A call goes on in the tokens, or down in the levels.
use Rattle.std.proofs.Common.{◌+◌, ◌-◌, ◌*◌, ◌<◌, length, drop, [], ◌∷◌}
use Rattle.ae_syntax.specs.Grammar.{of_exprs, of_settings, of_triggers}
use Rattle.ae_syntax.specs.Inner.Machine.{items_wants, more}
use Rattle.ae_syntax.specs.Parts.{trees, settings, triggers}
use Rattle.ae_syntax.specs.Inner.Reading.{grip}
use Rattle.ae_syntax.proofs.ParserMeetsMachine.Steps.{Reaches}
use Rattle.ae_syntax.proofs.read_exprs.+expression.Given as goal

abbrev pub decreases-read_expr : goal.decreases-read_expr
decreases-read_expr l = (length l.tokens.now - l.at) * 16 + 5

abbrev pub decreases-more_arrow : goal.decreases-more_arrow
decreases-more_arrow l = (length l.tokens.now - l.at) * 16 + 0

abbrev pub decreases-more_or : goal.decreases-more_or
decreases-more_or l = (length l.tokens.now - l.at) * 16 + 0

abbrev pub decreases-read_and : goal.decreases-read_and
decreases-read_and l = (length l.tokens.now - l.at) * 16 + 5

abbrev pub decreases-more_and : goal.decreases-more_and
decreases-more_and l = (length l.tokens.now - l.at) * 16 + 0

abbrev pub decreases-read_not : goal.decreases-read_not
decreases-read_not l = (length l.tokens.now - l.at) * 16 + 4

abbrev pub decreases-read_negation : goal.decreases-read_negation
decreases-read_negation l = (length l.tokens.now - l.at) * 16 + 0

abbrev pub decreases-read_block : goal.decreases-read_block
decreases-read_block l = (length l.tokens.now - l.at) * 16 + 0

abbrev pub decreases-read_triggers : goal.decreases-read_triggers
decreases-read_triggers l = (length l.tokens.now - l.at) * 16 + 0

abbrev pub decreases-read_trigger_items : goal.decreases-read_trigger_items
decreases-read_trigger_items l = (length l.tokens.now - l.at) * 16 + 8

abbrev pub decreases-read_trigger : goal.decreases-read_trigger
decreases-read_trigger l = (length l.tokens.now - l.at) * 16 + 7

abbrev pub decreases-read_let : goal.decreases-read_let
decreases-read_let l = (length l.tokens.now - l.at) * 16 + 0

abbrev pub decreases-read_if : goal.decreases-read_if
decreases-read_if l = (length l.tokens.now - l.at) * 16 + 0

abbrev pub decreases-read_rel : goal.decreases-read_rel
decreases-read_rel l = (length l.tokens.now - l.at) * 16 + 3

abbrev pub decreases-more_rel : goal.decreases-more_rel
decreases-more_rel l = (length l.tokens.now - l.at) * 16 + 0

abbrev pub decreases-read_sum : goal.decreases-read_sum
decreases-read_sum l = (length l.tokens.now - l.at) * 16 + 3

abbrev pub decreases-more_sum : goal.decreases-more_sum
decreases-more_sum l = (length l.tokens.now - l.at) * 16 + 0

abbrev pub decreases-read_prod : goal.decreases-read_prod
decreases-read_prod l = (length l.tokens.now - l.at) * 16 + 3

abbrev pub decreases-more_prod : goal.decreases-more_prod
decreases-more_prod l = (length l.tokens.now - l.at) * 16 + 0

abbrev pub decreases-read_unary : goal.decreases-read_unary
decreases-read_unary l = (length l.tokens.now - l.at) * 16 + 2

abbrev pub decreases-read_negative : goal.decreases-read_negative
decreases-read_negative l = (length l.tokens.now - l.at) * 16 + 0

abbrev pub decreases-read_post : goal.decreases-read_post
decreases-read_post l = (length l.tokens.now - l.at) * 16 + 2

abbrev pub decreases-read_atom : goal.decreases-read_atom
decreases-read_atom l = (length l.tokens.now - l.at) * 16 + 1

abbrev pub decreases-read_call : goal.decreases-read_call
decreases-read_call l = (length l.tokens.now - l.at) * 16 + 0

abbrev pub decreases-read_terms : goal.decreases-read_terms
decreases-read_terms l = (length l.tokens.now - l.at) * 16 + 6

abbrev pub decreases-read_brackets : goal.decreases-read_brackets
decreases-read_brackets l = (length l.tokens.now - l.at) * 16 + 0

abbrev pub decreases-read_distinct : goal.decreases-read_distinct
decreases-read_distinct l = (length l.tokens.now - l.at) * 16 + 0

abbrev pub decreases-read_braces : goal.decreases-read_braces
decreases-read_braces l = (length l.tokens.now - l.at) * 16 + 0

abbrev pub decreases-read_record : goal.decreases-read_record
decreases-read_record l = (length l.tokens.now - l.at) * 16 + 7

abbrev pub decreases-read_update : goal.decreases-read_update
decreases-read_update l = (length l.tokens.now - l.at) * 16 + 7

abbrev pub decreases-read_settings : goal.decreases-read_settings
decreases-read_settings l = (length l.tokens.now - l.at) * 16 + 1

abbrev pub decreases-read_setting : goal.decreases-read_setting
decreases-read_setting l = (length l.tokens.now - l.at) * 16 + 0

abbrev pub invariant-read_trigger_items-loop-alloc : goal.invariant-read_trigger_items-loop-alloc
invariant-read_trigger_items-loop-alloc l = record { runs : Reaches l.tokens (items_wants of_triggers l.fn.depth) [] l.fn.at (more of_triggers l.fn.depth ∷ []) (triggers l.found ∷ []) l.end; weak : grip (drop l.end l.tokens) < 1 }

abbrev pub decreases-read_trigger_items-loop-alloc : goal.decreases-read_trigger_items-loop-alloc
decreases-read_trigger_items-loop-alloc l = length l.tokens - l.end

abbrev pub invariant-read_terms-loop-alloc : goal.invariant-read_terms-loop-alloc
invariant-read_terms-loop-alloc l = record { runs : Reaches l.tokens (items_wants of_exprs l.fn.depth) [] l.fn.at (more of_exprs l.fn.depth ∷ []) (trees l.found ∷ []) l.end; weak : grip (drop l.end l.tokens) < 1 }

abbrev pub decreases-read_terms-loop-alloc : goal.decreases-read_terms-loop-alloc
decreases-read_terms-loop-alloc l = length l.tokens - l.end

abbrev pub invariant-read_settings-loop-alloc : goal.invariant-read_settings-loop-alloc
invariant-read_settings-loop-alloc l = record { runs : Reaches l.tokens (items_wants of_settings l.fn.depth) [] l.fn.at (more of_settings l.fn.depth ∷ []) (settings l.found ∷ []) l.end; weak : grip (drop l.end l.tokens) < 1 }

abbrev pub decreases-read_settings-loop-alloc : goal.decreases-read_settings-loop-alloc
decreases-read_settings-loop-alloc l = length l.tokens - l.end
