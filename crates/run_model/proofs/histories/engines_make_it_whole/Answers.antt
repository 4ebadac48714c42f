use Rattle.run_model.proofs.WholeLaws.{whole_complete, whole_final}
use Rattle.run_model.proofs.histories.engines_make_it_whole.Goals as goal

pub returns-clause-complete : goal.returns-clause-complete
returns-clause-complete c p h cs begun once all = whole_complete p h cs begun once all

pub returns-clause-finals : goal.returns-clause-finals
returns-clause-finals c p h cs begun once all = whole_final p h cs begun once all
