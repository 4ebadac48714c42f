use Rattle.pl_model.proofs.TableLaws.{opening_sound, changed_sound}
use Rattle.pl_model.proofs.operators.tables_stay_sound.Goals as goal

pub returns : goal.returns
returns c = record {
  opening = opening_sound;
  changed = changed_sound;
}
