use Rattle.std.proofs.Common.{◌≡◌, ◌-◌, false, length, take, drop, ap, sym, ◌∙◌}
use Rattle.std.specs.List.{list_any}
use Rattle.std.proofs.lemmas.List.{drop-drop, take_rest}
use Rattle.pl_model.specs.laws.UnifySides.{all_of, is_variable}
use Rattle.pl_model.proofs.UnifyPutIn.{put_in-absent}
use Rattle.pl_model.proofs.unifying.Side.advance.Goals as goal

pub returns-else-occurs : goal.returns-else-occurs
returns-else-occurs c =
    let rest : take (length c.nodes.result.now - c.args.count) (drop c.args.count c.nodes.result.now) ≡ drop c.args.count c.args.self.now =
    take_rest c.nodes.result.now c.args.count ∙ ap (drop c.args.count) c.nodes.ensures in
    let absent : list_any (is_variable c.args.variable) (drop c.args.count c.args.self.now) ≡ false =
    ap (list_any (is_variable c.args.variable)) (sym rest) ∙ sym c.occurs.ensures ∙ c.if-occurs.false in
    sym (drop-drop c.args.count c.self.inside.at (all_of c.self.inside.own c.self.inside.given.now))
    ∙ ap (drop c.args.count) c.self.view_is
    ∙ sym (put_in-absent c.args.variable c.args.value.now (drop c.args.count c.args.self.now) absent)
