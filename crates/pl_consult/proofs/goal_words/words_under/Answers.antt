use Rattle.pl_consult.proofs.goal_words.words_under.Goals as goal

pub returns : goal.returns
returns c =
    record {
      words_are = c.in_ok-read.ensures;
      first_is = rw c.as_slice-all.ensures.value at c.in_ok-first.ensures;
      goals_are = rw c.as_slice-all.ensures.value at c.in_ok-goals.ensures;
    }
