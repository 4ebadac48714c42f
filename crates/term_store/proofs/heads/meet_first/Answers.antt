use Rattle.std.proofs.Common.{◌∙◌, ◌++◌, ◌∷◌, [], ap}
use Rattle.term_store.specs.Shorts.{long_word}
use Rattle.term_store.proofs.Shorting.{plain_word}
use Rattle.term_store.proofs.heads.meet_first.Goals as goal

pub returns-then-is_plain : goal.returns-then-is_plain
returns-then-is_plain c =
    let f = c.follow-short.ensures in
    record {
      first = record {
        word = f.word;
        known_after =
            c.push_short.ensures.items ∙ ap (λ ws. ws ++ long_word [] c.follow-short.result ∷ []) c.in_ok-reserve.ensures.items
            ∙ ap (λ w. c.args.known.now.items ++ w ∷ []) (plain_word c.follow-short.result f.word (c.is_plain.ensures c.if-is_plain.true) f.short);
        means = f.means;
        inside = f.inside;
      };
    }
