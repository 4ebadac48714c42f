use Rattle.std.proofs.Common.{◌++◌, ap, ◌∙◌}
use Rattle.std.specs.Prelude.{encode_utf8_all}
use Rattle.pl_model.specs.TermWriting.{write_canonical}
use Rattle.world_builtins.specs.Spelling.{reads}
use Rattle.world_builtins.proofs.output.write_canonical.Goals as goal

pub put_term_at-requires-clause-one : goal.put_term_at-requires-clause-one
put_term_at-requires-clause-one g c = c.in_ok-writing.ensures.one

pub returns-clause-writes : goal.returns-clause-writes
returns-clause-writes g c =
    let t = reads (g.A.Atoms.held c.args.atoms.now) c.args.store.now c.args.term in
    c.in_ok-out.ensures ∙ c.in_ok-put_term_at.ensures.finished ∙ c.in_ok-writing.ensures.text_is t
    ∙ ap (λ v. v.items ++ encode_utf8_all (write_canonical t)) c.replace-bytes.ensures.value
