use Rattle.std.proofs.Common.{◌≡◌, map, sym, ap, subst}
use Rattle.std.specs.Prelude.{OnOk, encode_utf8_all}
use Rattle.std.specs.Arc.{arc_value}
use Rattle.pl_term.specs.Tree.{Chars}
use Rattle.run_model.specs.Report.{solution_line, with_line}
use Rattle.world_builtins.specs.Spelling.{reads}
use Rattle.engine_run.specs.Answered.{IsPut}
use Rattle.engine_run.proofs.answer.put_answer.Goals as goal

pub returns-in-Solution-clause-puts : goal.returns-in-Solution-clause-puts
returns-in-Solution-clause-puts g c =
    let value = reads (g.A.Atoms.held c.args.atoms.now) c.args.engine.now.search.store in
    let names = c.args.names.now in
    let old = c.args.out.now.items in
    let new = c.put_shown.new.out.items in
    subst (λ s. OnOk c.put_shown.result (IsPut s names (map value c.args.engine.now.search.answer.items) old new)) (sym c.in-Solution.is)
    (subst (λ ts. OnOk c.put_shown.result ((t : Chars) → old ≡ encode_utf8_all t
    → new ≡ encode_utf8_all (with_line t (solution_line names (arc_value c.in-Solution.operators) ts)))) (ap (map value) c.deref.ensures.value)
    (subst (λ ops. OnOk c.put_shown.result ((t : Chars) → old ≡ encode_utf8_all t
    → new ≡ encode_utf8_all (with_line t (solution_line names ops (map value c.deref.result.now))))) c.deref-in-Solution.ensures c.put_shown.ensures.puts))
