use Rattle.std.proofs.Common.{[], ◌∷◌, ◌++◌, None}
use Rattle.std.proofs.lemmas.List.Elements.{All-append, All-cons, All-nil, All-same}
use Rattle.kept_answers.specs.declared.answers.Space.{Space}
use Rattle.kept_answers.specs.Answered.{IsSound}
use Rattle.kept_answers.proofs.answers.push_free.Goals as goal

abbrev free : Space
free = record { mark = 0; kept = None }

pub returns : goal.returns
returns c =
    record {
      sound = λ goals h n all.
          All-same (IsSound goals h n) c.push.new.self.items (c.args.spaces.now.items ++ free ∷ []) c.in_ok-push.ensures.items
          (All-append (IsSound goals h n) c.args.spaces.now.items (free ∷ []) all (All-cons (IsSound goals h n) free [] tt (All-nil (IsSound goals h n))));
    }
