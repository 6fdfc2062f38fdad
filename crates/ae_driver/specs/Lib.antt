-- What the clauses of `run` mean. Read in this order: Problems (the problem of a text, and why a text has none), Output (what is
-- written for a text, and why it is right), Words (what the words of the command line ask for), Checking (what is written where an output is checked, and why
-- it is right), Passing (what is printed passes the check), Demo (what is written where the program answers goals of its own, and what its last line counts).
-- Beside these stand the definitions of ae_lex (tokens), ae_syntax (files and faults), ae_elab (the problem that a file states, and the faults of typing),
-- ae_report and ae_fault_lines (the lines of refusals), ae_io (what sources and sinks tell), ae_core and ae_rules (derivations), ae_goal_parts (what is
-- printed for a goal), ae_separator (where an input that is checked is parted), ae_whole_lines (a text as whole lines), ae_parts (the parts of an output), ae_printed (which parts are read back
-- and pass), ae_verdicts (what is said of a part) and ae_gen (the demo's text).
-- Inner has what the functions below `run` say of each other; nothing of it is believed.
pub mod Problems
pub mod Output
pub mod Words
pub mod Checking
pub mod Passing
pub mod Demo
pub mod Inner
