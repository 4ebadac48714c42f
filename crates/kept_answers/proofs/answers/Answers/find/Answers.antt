use Rattle.std.proofs.Common.{◌≡◌, ◌<◌, length, sym, subst, arith}
use Rattle.std.specs.Prelude.{slice_index_or}
use Rattle.atom_api.proofs.SlotNames.{read-at}
use Rattle.kept_answers.specs.declared.answers.Space.{Space}
use Rattle.kept_answers.specs.Answered.{IsKept, IsSound, found_or, free}
use Rattle.kept_answers.proofs.answers.Answers.find.Goals as goal

pub returns-then-is_answer_in : goal.returns-then-is_answer_in
returns-then-is_answer_in c =
    let ss = c.args.self.now.spaces.items in
    let i = c.place_of-place.result in
    let inside : i < length ss = omega (arith, c.len-count.ensures, c.if-place-count.false) in
    let at : slice_index_or ss i free ≡ c.index.result.now = read-at ss i c.index.result.now free inside c.index.ensures in
    record {
      kept = λ goals h n all long f.
          subst (λ (s : Space). IsKept goals h c.args.asked.now (found_or f s.kept) n) (sym at)
          (c.is_answer_in.ensures.kept goals h n f (subst (λ (s : Space). IsSound goals h n s) at (all i free inside)) long c.if-is_answer_in.true);
    }
