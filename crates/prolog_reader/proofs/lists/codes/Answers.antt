use Rattle.std.proofs.Common.{◌∙◌, ◌++◌, ◌∷◌, [], List, ◌<◌, ◌^◌, pos, ap, w64, arith}
use Rattle.std.proofs.lemmas.Int.{to_z_pos}
use mir.Val.{to_z, of_z}
use Rattle.pl_term.specs.declared.node.Node.{Node}
use Rattle.pl_term.specs.declared.node.Node.TheVariants.{Atom}
use Rattle.std.proofs.lemmas.Iterator.{YieldsList-from_chars}
use Rattle.std.proofs.lemmas.Iterator.Consumers.{YieldsList-end}
use Rattle.prolog_reader.proofs.NameTexts.{chars-list}
use Rattle.prolog_reader.proofs.ListNodes.{codes-more, codes-all}
use Rattle.prolog_reader.proofs.lists.codes.Goals as goal

pub loop-c-preserved : goal.loop-c-preserved
loop-c-preserved c =
    let x = c.from-in-loop-c.result in
    let small : c.from.result < 2 ^ 63 = omega (arith, c.from.type_inv) in
    codes-more c.loop-c.all.items c.push.new.self.items c.push-in-loop-c.new.self.items c.loop-c.yielded c.in-Some.c c.in_ok-cell.field-0
    (to_z w64 (of_z w64 x)) c.loop-c.invariant c.in_ok-cell.ensures
    (ap (λ z. to_z w64 (of_z w64 z)) c.from-in-loop-c.ensures ∙ to_z_pos w64 c.from.result small ∙ ap (λ n. pos n) c.from.ensures) c.in_ok-push.ensures.items
    c.in_ok-push-2.ensures.items

pub returns : goal.returns
returns c =
    let t = YieldsList-end (YieldsList-from_chars c.as_str.result.now c.as_str.utf8 cc) c.loop-c.yielded _ c.loop-c.yielded_by _ _ c.in-None.is c.next.ensures.steps in
    codes-all c.as_str.result.now c.args.text.now c.loop-c.yielded c.as_str.utf8 c.as_str.ensures t.0 c.push-2.new.self.items c.in_ok-from_str.field-0
    (c.in_ok-from_str.ensures ∙ chars-list) (c.in_ok-push-3.ensures.items ∙ ap (λ (ns : List Node). ns ++ Atom c.in_ok-from_str.field-0 ∷ []) c.loop-c.invariant)
