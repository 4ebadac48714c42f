use Rattle.std.proofs.Common.{List, ◌++◌, ◌∷◌, [], map, take, refl, sym, ap, ap₂, subst, ◌∙◌, arith}
use Rattle.std.specs.Prelude.{IsSome}
use Rattle.std.proofs.lemmas.List.Elements.{All-get_or}
use Rattle.std.proofs.lemmas.List.{map_more}
use Rattle.pl_term.specs.Tree.{Chars}
use Rattle.op_table.specs.declared.operator.Operator.{Operator}
use Rattle.world_api.specs.Texts.{text_of}
use Rattle.hub_database.specs.Operators.{operators_by}
use Rattle.hub_database.proofs.PutOperators.{operators_more}
use Rattle.atom_api.specs.Names.{Names}
use Rattle.atom_words.specs.Seats.{seen}
use Rattle.atom_table.specs.Naming.{names}
use Rattle.hub_database.proofs.Deciding.{quiet_same, quiet_then}
use Rattle.hub_database.proofs.operators.spelled_operators.Goals as goal

pub loop-i-init : goal.loop-i-init
loop-i-init g c = record { held = refl; quiet = quiet_same (seen c.args.atoms.now.seat); spelled = c.new-rows.ensures.items }

pub name_text-requires : goal.name_text-requires
name_text-requires g c =
    subst (λ (m : Names). IsSome (m c.index-operators-i.result)) (sym c.loop-i.invariant.held)
    (subst (λ a. IsSome ((names (seen c.args.atoms.now.seat)) a)) (sym c.index-operators-i.is) (All-get_or (λ a. IsSome ((names (seen c.args.atoms.now.seat)) a)) c.args.operators.now c.loop-i.i c.index-operators-i.result (omega (arith, c.loop-i-test.true)) c.requires))

pub loop-i-preserved : goal.loop-i-preserved
loop-i-preserved g c =
    let inv = c.loop-i.invariant in
    let a = c.index-operators-i.result in
    let before = map (text_of (names (seen c.args.atoms.now.seat))) (take c.loop-i.i c.args.operators.now) in record {
      held = c.name_text.ensures.held ∙ inv.held;
      quiet = quiet_then (seen c.args.atoms.now.seat) (seen c.loop-i.atoms.seat) (seen c.name_text.new.atoms.seat) inv.quiet c.name_text.ensures.quiet;
      spelled =
          c.in_ok-push.ensures.items
          ∙ ap₂ (λ (l : List Operator) (t : Chars). l ++ record { name = t; priority = c.args.priority; kind = c.args.kind } ∷ []) inv.spelled (c.in_ok-name.ensures.text ∙ ap (λ (m : Names). text_of m a) inv.held)
          ∙ sym (operators_more c.args.priority c.args.kind before (text_of (names (seen c.args.atoms.now.seat)) a))
          ∙ ap (operators_by c.args.priority c.args.kind) (ap (λ z. before ++ text_of (names (seen c.args.atoms.now.seat)) z ∷ []) c.index-operators-i.is ∙ sym (map_more (text_of (names (seen c.args.atoms.now.seat))) c.args.operators.now c.loop-i.i a (omega (arith, c.loop-i-test.true))));
    }
