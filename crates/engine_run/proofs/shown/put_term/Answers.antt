use Rattle.std.proofs.Common.{◌++◌, ap, ◌∙◌}
use Rattle.std.specs.Prelude.{encode_utf8_all}
use Rattle.pl_model.specs.TermWriting.{writeq}
use Rattle.world_builtins.specs.Spelling.{reads}
use Rattle.engine_run.proofs.shown.put_term.Goals as goal

pub put_term_at-requires-clause-one : goal.put_term_at-requires-clause-one
put_term_at-requires-clause-one g c = c.in_ok-writing.ensures.one

pub returns-clause-puts : goal.returns-clause-puts
returns-clause-puts g c =
    let t = reads (g.A.Atoms.held c.args.atoms.now) c.args.store.now c.args.place in
    c.in_ok-out.ensures ∙ c.in_ok-put_term_at.ensures.finished ∙ c.in_ok-writing.ensures.text_is t
    ∙ ap (λ v. v.items ++ encode_utf8_all (writeq c.args.operators.now 699 t)) c.replace-bytes.ensures.value
