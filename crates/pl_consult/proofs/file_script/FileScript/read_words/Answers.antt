use Rattle.std.proofs.Common.{refl}
use Rattle.pl_consult.specs.declared.stage.Stage.TheVariants.{Words}
use Rattle.pl_consult.specs.declared.stage.Step.TheVariants.{Gives}
use Rattle.pl_consult.proofs.StepLaws.{stayed}
use Rattle.pl_consult.proofs.FileLaws.{file_moved}
use Rattle.pl_consult.proofs.file_script.FileScript.read_words.Goals as goal

pub returns-in-Err-clause-moved : goal.returns-in-Err-clause-moved
returns-in-Err-clause-moved g c name out =
    file_moved _ name c.args.self.now c.args.self.now Words Words _ _ out out (Gives c.next_by.result) refl refl refl
    (stayed _ c.args.self.now.consult Words _ _ out c.next_by.result c.next_by.ensures.stays c.in-Err.ensures.looks refl)
