use Rattle.std.proofs.Common.{refl, ap, ◌∙◌, nat_lt, length, None}
use Rattle.pl_consult.specs.declared.file_script.FileScript.{FileScript}
use Rattle.pl_consult.specs.declared.stage.Stage.TheVariants.{Items}
use Rattle.pl_consult.proofs.GivenLaws.{file_begins}
use Rattle.pl_consult.proofs.NarrowLaws.{fresh_texts, fresh_requests}
use Rattle.pl_consult.proofs.file_script.FileScript.new.Goals as goal

pub returns-clause-begins : goal.returns-clause-begins
returns-clause-begins c job is =
    let k = c.in_ok-consult.ensures.stands job c.args.words.items is in
    let s : FileScript =
    record {
      alloc = c.args.alloc;
      consult = c.in_ok-consult.consult;
      stage = Items;
      words = c.args.words;
      board = c.args.board;
      read = None;
      refused = c.new-2.result;
      faulty = c.has_grown.result;
    } in
    file_begins s job c.args.bytes.items c.args.words.items c.args.name.now c.new.new.out.items refl refl c.new-2.ensures.items refl
    (c.has_grown.ensures ∙ ap (λ l. nat_lt 0 (length l)) c.as_slice.ensures.value) is c.in_ok-consult.ensures.file.0 c.in_ok-consult.ensures.file.1 k.0 k.1

pub returns-clause-texts : goal.returns-clause-texts
returns-clause-texts c =
    fresh_texts c.in_ok-consult.consult c.args.bytes.items c.args.words.items c.in_ok-consult.ensures.file.1 c.in_ok-consult.ensures.file.2

pub returns-clause-asks : goal.returns-clause-asks
returns-clause-asks c = fresh_requests c.in_ok-consult.consult c.args.bytes.items c.args.words.items c.in_ok-consult.ensures.file.1
