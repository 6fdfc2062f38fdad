use Rattle.ae_searching.proofs.Searching.{so_far_more}
use Rattle.ae_searching.proofs.Settings.{told_before}
use Rattle.ae_searching.proofs.growing.settings_narrow.Goals as goal

pub returns-clause-told : goal.returns-clause-told
returns-clause-told c p g old new opened opened2 x e within h = told_before p g old new opened opened2 x e within h

pub returns-clause-so_far : goal.returns-clause-so_far
returns-clause-so_far c p g bound old new opened opened2 lines js w h = so_far_more p g bound old new opened opened2 lines js w h
