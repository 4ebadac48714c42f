use Rattle.std.proofs.Common.{◌<◌, List, map, length, refl, sym, ap, subst, ◌∙◌, arith, append-nil}
use Rattle.std.specs.Prelude.{IsSome}
use Rattle.std.specs.List.{All}
use Rattle.std.proofs.lemmas.List.{take_all}
use Rattle.std.proofs.lemmas.List.Elements.{All-nil}
use Rattle.op_table.specs.Entries.{entries_of, entry_of}
use Rattle.op_table.specs.declared.operator.Operator.{Operator as Held}
use Rattle.atom_words.specs.Seats.{seen}
use Rattle.atom_table.specs.Naming.{names, requests}
use Rattle.world_api.specs.Replies.{operator_in}
use Rattle.world_api.specs.Texts.{text_of}
use Rattle.world_api.specs.declared.reply.Operator.{Operator}
use Rattle.hub_database.specs.Listing.{operator_names}
use Rattle.hub_database.proofs.ListedOperators.{none_among, one_among, operator_among, operator_more, operator_named, operators_named}
use Rattle.hub_database.proofs.listing.name_operators.Goals as goal

pub loop-i-init : goal.loop-i-init
loop-i-init g c = record {
  holds = λ k t e. e;
  refusals = refl;
  named = subst (λ (l : List Operator). All (λ (o : Operator). IsSome (names (seen c.args.atoms.now.seat) o.name)) l) (sym c.new-found.ensures.items) (All-nil (λ (o : Operator). IsSome (names (seen c.args.atoms.now.seat) o.name)));
  lists = ap (λ (l : List Operator). map (operator_in (text_of (names (seen c.args.atoms.now.seat)))) l) c.new-found.ensures.items;
  asked = none_among (operator_names (entries_of c.args.all.now)) (requests (seen c.args.atoms.now.seat));
}

pub loop-i-preserved : goal.loop-i-preserved
loop-i-preserved g c =
    let inv = c.loop-i.invariant in
    let m = names (seen c.loop-i.atoms.seat) in
    let n = names (seen c.atom_of.new.atoms.seat) in
    let x = c.index-all-i.result in
    let low : c.loop-i.i < length c.args.all.now = omega (arith, c.loop-i-test.true) in
    let here = c.in-Ok.ensures.atom in record {
      holds = λ k t e. c.atom_of.ensures.holds k t (inv.holds k t e);
      refusals = c.in-Ok.ensures.refusals ∙ (append-nil (seen c.loop-i.atoms.seat).refusals ∙ inv.refusals);
      named = operator_named m n c.atom_of.ensures.holds c.loop-i.found.items c.push.new.self.items inv.named c.in-Ok.name x here c.in-Ok-push.ensures.items;
      lists = operator_more m n c.atom_of.ensures.holds c.loop-i.found.items c.push.new.self.items inv.named c.in-Ok.name x here c.in-Ok-push.ensures.items c.args.all.now c.loop-i.i low c.index-all-i.is inv.lists;
      asked = one_among (operator_names (entries_of c.args.all.now)) (requests (seen c.args.atoms.now.seat)) (requests (seen c.loop-i.atoms.seat)) (requests (seen c.atom_of.new.atoms.seat)) x.name
          (operator_among c.args.all.now c.loop-i.i x low c.index-all-i.is) inv.asked c.atom_of.ensures.asked;
    }

pub returns : goal.returns
returns g c = record {
  holds = c.loop-i.invariant.holds;
  refusals = c.loop-i.invariant.refusals ∙ sym (append-nil (seen c.args.atoms.now.seat).refusals);
  named = operators_named (names (seen c.loop-i.atoms.seat)) c.loop-i.found.items c.loop-i.invariant.named;
  asked = c.loop-i.invariant.asked;
  told = tt;
  lists = c.loop-i.invariant.lists ∙ ap (λ (l : List Held). map entry_of l) (take_all c.loop-i.i c.args.all.now (omega (arith, c.loop-i-test.false)));
}

pub returns-in_default-clause-asked : goal.returns-in_default-clause-asked
returns-in_default-clause-asked g c =
    one_among (operator_names (entries_of c.args.all.now)) (requests (seen c.args.atoms.now.seat)) (requests (seen c.loop-i.atoms.seat)) (requests (seen c.atom_of.new.atoms.seat)) c.index-all-i.result.name
    (operator_among c.args.all.now c.loop-i.i c.index-all-i.result (omega (arith, c.loop-i-test.true)) c.index-all-i.is) c.loop-i.invariant.asked c.atom_of.ensures.asked

pub returns-in-Err-clause-asked : goal.returns-in-Err-clause-asked
returns-in-Err-clause-asked g c =
    one_among (operator_names (entries_of c.args.all.now)) (requests (seen c.args.atoms.now.seat)) (requests (seen c.loop-i.atoms.seat)) (requests (seen c.atom_of.new.atoms.seat)) c.index-all-i.result.name
    (operator_among c.args.all.now c.loop-i.i c.index-all-i.result (omega (arith, c.loop-i-test.true)) c.index-all-i.is) c.loop-i.invariant.asked c.atom_of.ensures.asked
